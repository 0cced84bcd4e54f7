-- Document 02, item 1, said of what callers of first and next get: "Plans and findings are those of the reaches in service."
-- Assumes nothing.
use Rattle.replies.specs.declared.Reply.{Reply}
use Rattle.network.specs.declared.Refusal.{Refusal}
use Rattle.std.specs.Prelude.{ℕ, ◌≡◌, List, length, Result}
use Rattle.network.specs.Networks.{Network, Accepted}
use Rattle.network.specs.Services.{service_net, renumbered}
use Rattle.planner_laws.specs.Demands.{read_reply}

-- An accepted network N, the network M of its reaches in service, and lent buffers for M as long as those for N, whatever they hold.
pub record Dropped (N M : Network) (plan₁ marks₁ plan₂ marks₂ : List ℕ) : Type 0 where
  pub accepted : Accepted N
  pub in-service : M ≡ service_net N
  pub plan-room : length plan₂ ≡ length plan₁
  pub marks-room : length marks₂ ≡ length marks₁

-- What the caller then reads of M is what he reads of N, a lone reach at its new number.
abbrev pub InServiceOver : Network → Network → List ℕ → List ℕ → List ℕ → List ℕ → List ℕ → List ℕ → List ℕ → List ℕ → Result Reply Refusal → Result Reply Refusal → Type 0
InServiceOver N M plan₁ marks₁ plan₂ marks₂ plan₁' marks₁' plan₂' marks₂' r₁ r₂ =
    Dropped N M plan₁ marks₁ plan₂ marks₂ → read_reply M r₂ plan₂' marks₂' ≡ renumbered N (read_reply N r₁ plan₁' marks₁')
