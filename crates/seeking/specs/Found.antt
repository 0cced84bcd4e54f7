-- What the searches for the first plan and for the next find.
-- Assumes nothing.
use Rattle.std.specs.Prelude.{ℕ, ◌<◌, ◌≡◌, true, false, List, [], length, Option, None, Some}
use Rattle.std.proofs.Math.Option.{none, some}
use Rattle.network.specs.Networks.{Network}
use Rattle.network.specs.Orientations.{ways}
use Rattle.network.specs.Plans.{passable}
use Rattle.network.specs.Bridges.{lowest_bridge}
use Rattle.network.specs.Marks.{marks_of}
use Rattle.network.specs.Replies.{Outcome, plan, refused, shut_in_side, bridge_side, shut_in_finding, lone_finding, next_answer}
use Rattle.tables.specs.Bytes.{bytes_of}
use Rattle.marks.specs.Sets.{marked_set}
use Rattle.orientations.specs.Least.{LeastPlan}
use Rattle.seeking.specs.declared.Found.{Found}
use Rattle.seeking.specs.declared.Found.TheVariants.{Closed, Bridge, Oriented}
use Rattle.network.specs.declared.Refusal.TheVariants.{LastPlan}

-- The reply that is written down from it: the plan is made of the ways ws.
abbrev pub outcome_of : Network → List ℕ → Found → Outcome
outcome_of N ws Closed = shut_in_finding N
outcome_of N ws (Bridge r) = lone_finding N r
outcome_of N ws Oriented = plan (bytes_of N.reaches ws)

-- The reach of a finding.
abbrev pub reach_found : Found → ℕ
reach_found Closed = 0
reach_found (Bridge r) = r
reach_found Oriented = 0

-- What was noted as reached is the side of the finding: a closed set, or a side of a bridge (document 01: a lone reach).
abbrev pub SideNoted : Network → List ℕ → Found → Type 0
SideNoted N seen Closed = marks_of (marked_set N.basins seen) ≡ marks_of (shut_in_side N)
SideNoted N seen (Bridge r) = marks_of (marked_set N.basins seen) ≡ marks_of (bridge_side N r)
SideNoted N seen Oriented = Unit {0}

-- What the search for the first plan finds: the closed set of a network that is shut in, or the lowest bridge, or the ways of the first plan.
pub data FirstFound (N : Network) : List ℕ → List ℕ → Found → Type 0 where
  found-closed : {ws seen : List ℕ} → passable N ≡ false → SideNoted N seen Closed → FirstFound N ws seen Closed
  found-bridge : {ws seen : List ℕ} {r : ℕ} → passable N ≡ true → lowest_bridge N ≡ some r → r < length N.reaches → SideNoted N seen (Bridge r) → FirstFound N ws seen (Bridge r)
  found-plan : {ws seen : List ℕ} → passable N ≡ true → lowest_bridge N ≡ none → LeastPlan N (ways N.reaches []) (bytes_of N.reaches ws) → FirstFound N ws seen Oriented

-- ---- the next plan

-- What the search for the next plan of the setting s finds: that there is none later, though there is a plan; or a finding with its side
-- noted; or the ways of the next plan.
pub data NextFound (N : Network) (s : List ℕ) : List ℕ → List ℕ → Option Found → Type 0 where
  no-later : {ws seen : List ℕ} → next_answer N s ≡ refused LastPlan → NextFound N s ws seen None
  next-is : {ws seen : List ℕ} {f : Found} → next_answer N s ≡ outcome_of N ws f → SideNoted N seen f → reach_found f < 65536 → NextFound N s ws seen (Some f)
