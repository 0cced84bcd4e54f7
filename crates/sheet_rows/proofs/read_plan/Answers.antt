-- `sheet_rows::read_plan` meets its contract: the table, the whole sheet into the working memory, and then the planner's check.
-- Assumes nothing.
use Rattle.std.proofs.lemmas.Result.{err_from_is_err_and}
use native.Mathlib.Omega.{arith}
use mathlib.Core.Path.{sym, ◌∙◌}
use lib.ListN.{take}
use lib.Seq.{length-take-le}
use Rattle.network.specs.Networks.{Network, Accepted, table_fault}
use Rattle.network.proofs.Networks.{accepted}
use Rattle.tables.specs.Rows.{net_of}
use Rattle.tables.proofs.Faults.{answer-refused, answer-accepted}
use Rattle.sheet_format.proofs.Gates.{gates-few}
use Rattle.tables.proofs.Cuts.{cut-kinds}
use Rattle.sheet_format.proofs.Puts.{cut-gates-row}
use Rattle.sheet_format.proofs.Getting.{held-table, held-torn, held-judged}
use Rattle.sheet_rows.proofs.read_plan.Goals as goal

pub returns-in_err-table_check : goal.returns-in_err-table_check
returns-in_err-table_check c =
    let p = err_from_is_err_and c.from_residual.result c.from_residual.ensures.1 in
    rw (p.1, p.2) (let net : Network = net_of c.args.basins c.args.kinds.now c.args.a.now c.args.b.now in held-table (net) c.args.sheet.now (answer-refused (table_fault (net)) _ (sym c.table_check.ensures.answer ∙ c.in_err-table_check.was)))

pub slice_bounds-read_records-end : goal.slice_bounds-read_records-end
slice_bounds-read_records-end c =
    sym (length-take-le c.row_count-m.result c.args.kinds.now (cut-kinds c.args.kinds.now c.args.a.now c.args.b.now c.row_count-m.result c.row_count-m.ensures))

pub read_records-requires : goal.read_records-requires
read_records-requires c =
    let net : Network = net_of c.args.basins c.args.kinds.now c.args.a.now c.args.b.now in
    let sound : Accepted (net) = answer-accepted (table_fault (net)) (sym c.table_check.ensures.answer ∙ c.in_ok-table_check.was) in
    omega (
      arith,
      c.requires,
      gates-few 0 (take c.row_count-m.result c.args.kinds.now),
      length-take-le c.row_count-m.result c.args.kinds.now (cut-kinds c.args.kinds.now c.args.a.now c.args.b.now c.row_count-m.result c.row_count-m.ensures),
      c.row_count-m.ensures,
      (accepted (net) (sound)).few-reaches,
    )

pub returns-in_err-n : goal.returns-in_err-n
returns-in_err-n c =
    let p = err_from_is_err_and c.from_residual-in_err-n.result c.from_residual-in_err-n.ensures.1 in
    rw (p.1, p.2) (let net : Network = net_of c.args.basins c.args.kinds.now c.args.a.now c.args.b.now in let sound : Accepted (net) = answer-accepted (table_fault (net)) (sym c.table_check.ensures.answer ∙ c.in_ok-table_check.was) in held-torn (net) c.args.sheet.now (sound) (cut-gates-row c.args.kinds.now c.args.a.now c.args.b.now c.row_count-m.result c.row_count-m.ensures) c.read_records.ensures c.in_err-n.was)

pub returns : goal.returns
returns c =
    let net : Network = net_of c.args.basins c.args.kinds.now c.args.a.now c.args.b.now in
    let sound : Accepted (net) = answer-accepted (table_fault (net)) (sym c.table_check.ensures.answer ∙ c.in_ok-table_check.was) in
    held-judged (net) c.args.sheet.now (sound) (cut-gates-row c.args.kinds.now c.args.a.now c.args.b.now c.row_count-m.result c.row_count-m.ensures)
    c.read_records.ensures c.in_ok-n.was c.judge_plan.ensures
