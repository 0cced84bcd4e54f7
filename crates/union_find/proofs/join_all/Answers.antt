-- `join_all` meets its contract: the parents are those of the network with the reaches passed.
-- Assumes nothing.
use Prim.Native.Nat.{ℕ, ◌+◌}
use mathlib.Core.Path.{sym, subst, ◌∙◌}
use mathlib.Core.List.{List}
use Rattle.union_find.proofs.Forests.{Joining, joining-none, joining-two-way, joining-other, joining-all}
use Rattle.union_find.proofs.join_all.Goals as goal
use Rattle.union_find.proofs.join_all.Goals.{else-joins, then-joins}

pub loop-i-init : goal.loop-i-init
loop-i-init c = joining-none c.args.n c.args.kinds.now c.args.a.now c.args.b.now c.requires.separate

pub loop-i-preserved : goal.loop-i-preserved
loop-i-preserved c =
    let to : List ℕ → Type 0 = λ p. Joining c.args.n c.args.kinds.now c.args.a.now c.args.b.now c.args.parents.now p (c.loop-i.i + 1) in
    elim c.if-joins.branch [ then-joins g ↦ subst to (sym g.parents-is) (joining-two-way c.requires.joinable c.loop-i.invariant c.loop-i-test.true (sym g.if-joins.true ∙ c.joins.ensures) g.join.ensures g.join.auto.parents) | else-joins g ↦ subst to (sym g.parents-is) (joining-other c.requires.joinable c.loop-i.invariant c.loop-i-test.true (sym g.if-joins.false ∙ c.joins.ensures)) ]

pub returns : goal.returns
returns c = joining-all c.requires.joinable c.loop-i.invariant c.loop-i-test.false
