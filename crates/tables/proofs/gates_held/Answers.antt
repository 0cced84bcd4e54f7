-- `tables::gates_held` meets its contract: the gates of the rows cut to the table's length are the table's.
-- Assumes nothing.
use Prim.Native.Nat.{ℕ, min}
use mathlib.Core.Path.{sym, ap, ◌∙◌}
use lib.Seq.{length-take-le}
use Rattle.network.specs.Networks.{max_reaches}
use Rattle.tables.proofs.Cuts.{cut-kinds, cut-gates}
use Rattle.tables.proofs.gates_held.Goals as goal

pub slice_bounds-count_gates-end : goal.slice_bounds-count_gates-end
slice_bounds-count_gates-end c = sym (length-take-le _ c.args.kinds.now (cut-kinds c.args.kinds.now c.args.a.now c.args.b.now c.row_count-m.result c.row_count-m.ensures))

pub returns : goal.returns
returns c = c.least.ensures ∙ ap (λ (k : ℕ). min k max_reaches) (c.count_gates-g.ensures ∙ cut-gates c.args.kinds.now c.args.a.now c.args.b.now c.row_count-m.result c.row_count-m.ensures 0)
