-- `join` meets its contract: the roots of the two finds are still roots when they are joined, and the lower one is no higher.
-- Assumes nothing.
use native.Mathlib.Omega.{arith}
use Rattle.union_find.proofs.Roots.{x-in, y-in, joined-below, joined-above}
use Rattle.union_find.proofs.join.Goals as goal

pub bounds-parents-y : goal.bounds-parents-y
bounds-parents-y c =
    omega (arith, c.find-y.ensures.rising.long, y-in c.requires.rising c.requires.a_lt_n c.requires.b_lt_n c.find-x.ensures c.find-y.ensures)

pub bounds-parents-x : goal.bounds-parents-x
bounds-parents-x c =
    omega (arith, c.find-y.ensures.rising.long, x-in c.requires.rising c.requires.a_lt_n c.requires.b_lt_n c.find-x.ensures c.find-y.ensures)

pub returns-then-x-y : goal.returns-then-x-y
returns-then-x-y c =
    joined-below c.requires.rising c.requires.a_lt_n c.requires.b_lt_n c.find-x.ensures c.find-y.ensures (omega (arith, c.if-x-y.true))

pub returns-else-x-y : goal.returns-else-x-y
returns-else-x-y c =
    joined-above c.requires.rising c.requires.a_lt_n c.requires.b_lt_n c.find-x.ensures c.find-y.ensures (omega (arith, c.if-x-y.false))
