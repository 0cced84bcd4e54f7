-- `skipping::note_at` meets its contract: a gate is tried no more if its other way is lost.
-- Assumes nothing.
use native.Mathlib.Omega.{arith}
use mathlib.Core.Path.{refl, sym, ◌∙◌}
use borrow.Author.Tests.{not-true}
use Rattle.orienting.proofs.Readies.{kind-gate}
use Rattle.skipping.specs.Skips.{as_it_was, still-tried, tried-no-more}
use Rattle.skipping.proofs.note_at.Goals as goal

pub returns-then-tried-i-ne-KIND_GATED : goal.returns-then-tried-i-ne-KIND_GATED
returns-then-tried-i-ne-KIND_GATED c = as_it_was refl refl

pub returns-then-way-gt1 : goal.returns-then-way-gt1
returns-then-way-gt1 c = as_it_was refl refl

pub returns-then-is_guided : goal.returns-then-is_guided
returns-then-is_guided c = as_it_was refl refl

pub returns-then-bound_at : goal.returns-then-bound_at
returns-then-bound_at c =
    tried-no-more (kind-gate _ c.if-tried-i-ne-KIND_GATED.false) (omega (arith, c.if-way-gt1.false)) (not-true _ (sym c.bound_at.ensures.value ∙ c.if-bound_at.true)) refl c.bound_at.ensures.ways_after

pub returns-else-bound_at : goal.returns-else-bound_at
returns-else-bound_at c = still-tried (kind-gate _ c.if-tried-i-ne-KIND_GATED.false) refl c.bound_at.ensures.ways_after
