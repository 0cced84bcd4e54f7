-- `stepping::rewrite` meets its contract: the bytes from reach r on come to stand after those of the gates before it.
-- Assumes nothing.
use native.Mathlib.Omega.{arith}
use lib.ListN.{length-take, length-drop}
use Rattle.stepping.proofs.Rewrites.{gates-rest, rewritten}
use Rattle.stepping.proofs.rewrite.Goals as goal

pub overflow_sub-g : goal.overflow_sub-g
overflow_sub-g c = omega (arith, c.count_gates-k.ensures, c.requires.g_value, gates-rest c.args.kinds.now c.args.r)

pub gather-requires-clause-kinds_in_bounds : goal.gather-requires-clause-kinds_in_bounds
gather-requires-clause-kinds_in_bounds c = simp (length-take, length-drop) (omega (arith, c.count_gates-k.ensures, c.requires.g_value, c.requires.g_in_bounds, gates-rest c.args.kinds.now c.args.r))

pub returns : goal.returns
returns c =
    rewritten c.args.kinds.now c.args.ways.now c.args.plan.now _ c.args.r c.args.g _ c.requires.ways_len c.requires.g_value c.requires.plan_value c.count_gates-k.ensures c.gather.ensures
