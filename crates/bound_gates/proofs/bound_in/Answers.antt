-- `bound_gates::bound_in` meets its contract: what the first plan replies, and the bytes told where its plan stands.
-- Assumes nothing.
use mathlib.Core.Path.{sym, ◌∙◌}
use lib.Seq.{length-take-le}
use Rattle.tables.proofs.Cuts.{cut-kinds, cut-a, cut-b}
use Rattle.bound_gates.proofs.Calls.{plan-stands, plan-told}
use Rattle.bound_gates.proofs.bound_in.Goals as goal

pub slice_bounds-tell_in-end : goal.slice_bounds-tell_in-end
slice_bounds-tell_in-end c =
    sym (length-take-le _ c.args.kinds.now (cut-kinds c.args.kinds.now c.args.a.now c.args.b.now c.row_count-m.result c.row_count-m.ensures))

pub slice_bounds-tell_in-end-then-gives_plan : goal.slice_bounds-tell_in-end-then-gives_plan
slice_bounds-tell_in-end-then-gives_plan c =
    sym (length-take-le _ c.args.a.now (cut-a c.args.kinds.now c.args.a.now c.args.b.now c.row_count-m.result c.row_count-m.ensures))

pub slice_bounds-tell_in-end-then-gives_plan-2 : goal.slice_bounds-tell_in-end-then-gives_plan-2
slice_bounds-tell_in-end-then-gives_plan-2 c =
    sym (length-take-le _ c.args.b.now (cut-b c.args.kinds.now c.args.a.now c.args.b.now c.row_count-m.result c.row_count-m.ensures))

pub tell_in-requires-clause-planned : goal.tell_in-requires-clause-planned
tell_in-requires-clause-planned c = plan-stands c.args.n c.args.kinds.now c.args.a.now c.args.b.now c.row_count-m.result c.row_count-m.ensures c.first_plan_in-answer.ensures (sym c.gives_plan.ensures ∙ c.if-gives_plan.true)

pub returns-then-gives_plan : goal.returns-then-gives_plan
returns-then-gives_plan c =
    plan-told c.args.n c.args.kinds.now c.args.a.now c.args.b.now c.row_count-m.result c.row_count-m.ensures c.first_plan_in-answer.ensures (sym c.gives_plan.ensures ∙ c.if-gives_plan.true) c.tell_in.ensures
