-- `contraction::contract_rows` meets its contract: the check of the table, the room of the new rows, and then the table cut to its length.
-- Assumes nothing.
use native.Mathlib.Omega.{arith}
use mathlib.Core.Path.{◌≡◌, sym, ◌∙◌}
use mathlib.Core.Option.{some}
use lib.Seq.{length-take-le}
use Rattle.std.proofs.lemmas.Result.{err_from_is_err_and}
use Rattle.network.specs.Networks.{Network, Accepted, table_fault}
use Rattle.tables.specs.Rows.{net_of}
use Rattle.tables.proofs.Cuts.{cut-kinds, cut-a, cut-b}
use Rattle.tables.proofs.Faults.{answer-refused, answer-accepted}
use Rattle.contraction.proofs.Answers.{fault-table, rows-refused, cut_short, contractible, cut-given}
use Rattle.contraction.proofs.contract_rows.Goals as goal

pub returns-in_err-table_check : goal.returns-in_err-table_check
returns-in_err-table_check c =
    let net : Network = net_of c.args.basins c.args.kinds.now c.args.a.now c.args.b.now in
    let stopped : table_fault (net) ≡ some c.in_err-table_check.field-0.0 = answer-refused (table_fault (net)) _ (sym c.table_check.ensures.answer ∙ c.in_err-table_check.was) in
    let p = err_from_is_err_and c.from_residual.result c.from_residual.ensures.1 in
    rw (p.1, p.2) (rows-refused (net) (fault-table (net) _ (stopped)))

pub returns-then-row_count-m : goal.returns-then-row_count-m
returns-then-row_count-m c =
    let net : Network = net_of c.args.basins c.args.kinds.now c.args.a.now c.args.b.now in
    let sound : Accepted (net) = answer-accepted (table_fault (net)) (sym c.table_check.ensures.answer ∙ c.in_ok-table_check.was) in
    cut_short c.args.basins c.args.kinds.now c.args.a.now c.args.b.now c.row_count-m.result c.row_count-m.ensures (sound) c.args.kinds2.now c.args.a2.now c.args.b2.now c.row_count.result c.row_count.ensures (omega (arith, c.if-row_count-m.true))

pub slice_bounds-contract_accepted-end : goal.slice_bounds-contract_accepted-end
slice_bounds-contract_accepted-end c =
    sym (length-take-le _ c.args.kinds.now (cut-kinds c.args.kinds.now c.args.a.now c.args.b.now c.row_count-m.result c.row_count-m.ensures))

pub slice_bounds-contract_accepted-end-2 : goal.slice_bounds-contract_accepted-end-2
slice_bounds-contract_accepted-end-2 c =
    sym (length-take-le _ c.args.a.now (cut-a c.args.kinds.now c.args.a.now c.args.b.now c.row_count-m.result c.row_count-m.ensures))

pub slice_bounds-contract_accepted-end-3 : goal.slice_bounds-contract_accepted-end-3
slice_bounds-contract_accepted-end-3 c =
    sym (length-take-le _ c.args.b.now (cut-b c.args.kinds.now c.args.a.now c.args.b.now c.row_count-m.result c.row_count-m.ensures))

pub contract_accepted-requires : goal.contract_accepted-requires
contract_accepted-requires c =
    let net : Network = net_of c.args.basins c.args.kinds.now c.args.a.now c.args.b.now in
    let sound : Accepted (net) = answer-accepted (table_fault (net)) (sym c.table_check.ensures.answer ∙ c.in_ok-table_check.was) in
    contractible c.args.basins c.args.kinds.now c.args.a.now c.args.b.now c.row_count-m.result c.row_count-m.ensures (sound) c.args.kinds2.now c.args.a2.now c.args.b2.now c.row_count.result c.row_count.ensures (omega (arith, c.if-row_count-m.false))

pub returns : goal.returns
returns c =
    let net : Network = net_of c.args.basins c.args.kinds.now c.args.a.now c.args.b.now in
    let sound : Accepted (net) = answer-accepted (table_fault (net)) (sym c.table_check.ensures.answer ∙ c.in_ok-table_check.was) in
    cut-given c.args.basins c.args.kinds.now c.args.a.now c.args.b.now c.row_count-m.result c.row_count-m.ensures (sound) c.args.kinds2.now c.args.a2.now c.args.b2.now c.row_count.result c.row_count.ensures (omega (arith, c.if-row_count-m.false))
    c.contract_accepted.ensures
