-- Document 02, item 3, said of what callers of first and next get: "Customers now number basins a year before the channels reach them, and .. such a basin
-- doesn't count."
-- Assumes nothing.
use Rattle.replies.specs.declared.Reply.{Reply}
use Rattle.network.specs.declared.Refusal.{Refusal}
use Rattle.std.specs.Prelude.{ℕ, ◌≤◌, ◌≡◌, List, length, Result}
use Rattle.network.specs.Networks.{Network, max_basins, Accepted}
use Rattle.network.specs.Enlarged.{enlarged}
use Rattle.planner_laws.specs.Demands.{read_reply}

-- An accepted network N, the network M with more basins at the end, no more than the limit, and lent buffers for M as long as those for N, whatever they hold.
pub record MoreBasins (N M : Network) (plan₁ marks₁ plan₂ marks₂ : List ℕ) : Type 0 where
  pub accepted : Accepted N
  pub more : N.basins ≤ M.basins
  pub few : M.basins ≤ max_basins
  pub same-reaches : M ≡ enlarged N M.basins
  pub plan-room : length plan₂ ≡ length plan₁
  pub marks-room : length marks₂ ≡ length marks₁

-- What the caller then reads of M is what he reads of N.
abbrev pub SameWithMore : Network → Network → List ℕ → List ℕ → List ℕ → List ℕ → List ℕ → List ℕ → List ℕ → List ℕ → Result Reply Refusal → Result Reply Refusal → Type 0
SameWithMore N M plan₁ marks₁ plan₂ marks₂ plan₁' marks₁' plan₂' marks₂' r₁ r₂ =
    MoreBasins N M plan₁ marks₁ plan₂ marks₂ → read_reply M r₂ plan₂' marks₂' ≡ read_reply N r₁ plan₁' marks₁'
