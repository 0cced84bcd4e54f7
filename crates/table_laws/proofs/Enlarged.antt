-- Document 02, item 3, from what two calls of first or of next promise, on rows or on records.
-- Assumes nothing.
use Prim.Native.Nat.{ℕ, ◌≤◌}
use mathlib.Core.Path.{◌≡◌, sym, ◌∙◌}
use mathlib.Core.List.{List}
use lib.ListN.{length}
use Rattle.network.specs.Networks.{Network, max_basins, Accepted}
use Rattle.network.specs.Replies.{Outcome}
use Rattle.network.specs.Enlarged.{enlarged}
use Rattle.table_laws.specs.Enlarged.{MoreBasins}

-- what is read of either is the reply of a definition, and the definition has the law
pub enlarged-over :
    (N M : Network) {plan₁ marks₁ plan₂ marks₂ : List ℕ} (reply : Network → ℕ → ℕ → Outcome)
    → (Accepted N → N.basins ≤ M.basins → M.basins ≤ max_basins → (p m : ℕ) → reply (enlarged N M.basins) p m ≡ reply N p m)
    → {o₁ o₂ : Outcome} → o₁ ≡ reply N (length plan₁) (length marks₁) → o₂ ≡ reply M (length plan₂) (length marks₂)
    → MoreBasins N M plan₁ marks₁ plan₂ marks₂ → o₂ ≡ o₁
enlarged-over N M {plan₁} {marks₁} reply law e f d = f ∙ rw (d.same-reaches, d.plan-room, d.marks-room) (law d.accepted d.more d.few (length plan₁) (length marks₁) ∙ sym e)
