-- Document 02, item 1, from what two calls of first or of next promise, on rows or on records.
-- Assumes nothing.
use Prim.Native.Nat.{ℕ}
use mathlib.Core.Path.{◌≡◌, sym, ap, ◌∙◌}
use mathlib.Core.List.{List}
use lib.ListN.{length}
use Rattle.network.specs.Networks.{Network, Accepted}
use Rattle.network.specs.Replies.{Outcome}
use Rattle.network.specs.Services.{service_net, renumbered}
use Rattle.table_laws.specs.Services.{Dropped}

-- what is read of either is the reply of a definition, and the definition has the law
pub service-over :
    (N M : Network) {plan₁ marks₁ plan₂ marks₂ : List ℕ} (reply : Network → ℕ → ℕ → Outcome) → (Accepted N → (p m : ℕ) → reply (service_net N) p m ≡ renumbered N (reply N p m))
    → {o₁ o₂ : Outcome} → o₁ ≡ reply N (length plan₁) (length marks₁) → o₂ ≡ reply M (length plan₂) (length marks₂)
    → Dropped N M plan₁ marks₁ plan₂ marks₂ → o₂ ≡ renumbered N o₁
service-over N M {plan₁} {marks₁} reply law e f d = f ∙ rw (d.in-service, d.plan-room, d.marks-room) (law d.accepted (length plan₁) (length marks₁) ∙ ap (renumbered N) (sym e))
