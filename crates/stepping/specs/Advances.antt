-- What a step from a plan to the next leaves.
-- Assumes nothing.
use Rattle.std.specs.Prelude.{ℕ, ◌<◌, ◌≡◌, true, List, length, get_or, take, Option, None, Some}
use Rattle.network.specs.declared.Refusal.TheVariants.{LastPlan}
use Rattle.network.specs.Networks.{Network}
use Rattle.network.specs.Tables.{state_of}
use Rattle.network.specs.Settings.{is_gated}
use Rattle.network.specs.Plans.{is_plan}
use Rattle.network.specs.Replies.{plan, refused, next_answer}
use Rattle.tables.specs.Rows.{net_of, gates_in, ways_row, bytes_row}
use Rattle.orientations.specs.Partials.{Binds}
use Rattle.series.specs.Guides.{Guides}
use Rattle.seeking.specs.Seeks.{AtPlan}

-- The number of gated reaches before reach r, by their kinds: the place of a gate's byte in a setting.
abbrev pub gates_before : List ℕ → ℕ → ℕ
gates_before ks r = gates_in (take r ks)

-- The setting q parts from s at the gate r, upwards: the bytes of the gates before it are the same, and it is turned where s has it as drawn.
pub record PartsAt (ks s q : List ℕ) (r : ℕ) : Type 0 where
  pub below : r < length ks
  pub gate : is_gated (state_of (get_or ks r 0)) ≡ true
  pub same : take (gates_before ks r) q ≡ take (gates_before ks r) s
  pub drawn : get_or s (gates_before ks r) 2 ≡ 0
  pub turned : get_or q (gates_before ks r) 2 ≡ 1

-- The ways ws' are those of the next plan of s, which parts from it at r; or s is the last plan.
pub data Advanced (N : Network) (ks s : List ℕ) : List ℕ → Option ℕ → Type 0 where
  moved : {ws' : List ℕ} {r : ℕ} → PartsAt ks s (bytes_row ks ws') r → next_answer N s ≡ plan (bytes_row ks ws') → is_plan N (bytes_row ks ws') ≡ true
      → ws' ≡ ways_row ks (bytes_row ks ws') → Advanced N ks s ws' (Some r)
  at_last : {ws' : List ℕ} → next_answer N s ≡ refused LastPlan → Advanced N ks s ws' None

-- A step from the ways us, which are those of one plan, to the next of it: so it is in the table of all kinds ks of which fs tries gates, where what fs
-- does not try has one way in all plans and the row of guides is true.
pub record AdvancedFrom (n : ℕ) (guide fs xs ys us ws' : List ℕ) (r : Option ℕ) : Type 0 where
  pub from : (ks s : List ℕ) → AtPlan n ks xs ys s us → Binds (net_of n ks xs ys) fs us → Guides (net_of n ks xs ys) guide → Advanced (net_of n ks xs ys) ks s ws' r
