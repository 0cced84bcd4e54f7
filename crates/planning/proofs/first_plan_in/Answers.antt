-- `planning::first_plan_in` meets its contract: what is refused, and then the reply to the rows cut to the table's length.
-- Assumes nothing.
use mathlib.Core.Path.{◌≡◌, sym, ◌∙◌}
use mathlib.Core.Option.{none}
use lib.ListN.{length}
use lib.Seq.{length-take-le}
use Rattle.std.proofs.lemmas.Result.{err_from_is_err_and}
use Rattle.network.specs.Networks.{Network, table_fault}
use Rattle.network.specs.Replies.{first_of, room_fault}
use Rattle.tables.specs.Rows.{net_of}
use Rattle.tables.proofs.Faults.{answer-refused, answer-accepted}
use Rattle.tables.proofs.Cuts.{cut-kinds, cut-a, cut-b, cut-net}
use Rattle.planning.proofs.Calls.{cut-lent, first-replied}
use Rattle.network.proofs.Replies.{first-of-none}
use Rattle.replies.proofs.Refusals.{refused-written, first_by}
use Rattle.planning.proofs.first_plan_in.Goals as goal

pub returns-in_err-first_refusal : goal.returns-in_err-first_refusal
returns-in_err-first_refusal c =
    let net : Network = net_of c.args.basins c.args.kinds.now c.args.a.now c.args.b.now in
    let p = err_from_is_err_and c.from_residual.result c.from_residual.ensures.1 in
    rw (p.1, p.2) (refused-written (first_by (net) _ _ (answer-refused (first_of (table_fault (net)) (room_fault (net) (length c.args.plan.now) (length c.args.marks.now))) _ (sym c.first_refusal.ensures ∙ c.in_err-first_refusal.was))))

pub slice_bounds-first_in-end : goal.slice_bounds-first_in-end
slice_bounds-first_in-end c =
    sym (length-take-le _ c.args.kinds.now (cut-kinds c.args.kinds.now c.args.a.now c.args.b.now c.row_count-m.result c.row_count-m.ensures))

pub slice_bounds-first_in-end-2 : goal.slice_bounds-first_in-end-2
slice_bounds-first_in-end-2 c =
    sym (length-take-le _ c.args.a.now (cut-a c.args.kinds.now c.args.a.now c.args.b.now c.row_count-m.result c.row_count-m.ensures))

pub slice_bounds-first_in-end-3 : goal.slice_bounds-first_in-end-3
slice_bounds-first_in-end-3 c =
    sym (length-take-le _ c.args.b.now (cut-b c.args.kinds.now c.args.a.now c.args.b.now c.row_count-m.result c.row_count-m.ensures))

pub first_in-requires-clause-lent : goal.first_in-requires-clause-lent
first_in-requires-clause-lent c =
    let net : Network = net_of c.args.basins c.args.kinds.now c.args.a.now c.args.b.now in
    let clear : first_of (table_fault (net)) (room_fault (net) (length c.args.plan.now) (length c.args.marks.now)) ≡ none = answer-accepted _ (sym c.first_refusal.ensures ∙ c.in_ok-first_refusal.was) in
    let due = first-of-none (table_fault (net)) (room_fault (net) (length c.args.plan.now) (length c.args.marks.now)) (clear) in cut-lent c.args.basins c.args.kinds.now c.args.a.now c.args.b.now c.row_count-m.result c.row_count-m.ensures c.args.plan.now c.args.marks.now due.0 due.1

pub returns : goal.returns
returns c =
    let net : Network = net_of c.args.basins c.args.kinds.now c.args.a.now c.args.b.now in
    let clear : first_of (table_fault (net)) (room_fault (net) (length c.args.plan.now) (length c.args.marks.now)) ≡ none = answer-accepted _ (sym c.first_refusal.ensures ∙ c.in_ok-first_refusal.was) in
    first-replied (cut-net c.args.kinds.now c.args.a.now c.args.b.now c.row_count-m.result c.row_count-m.ensures c.args.basins) _ _ (clear) c.first_in.ensures
