-- Document 01: "One basin is always served." Document 02, item 3: wet basins count; where at most one does, every setting is a plan.
-- Assumes nothing.
use Prim.Native.Nat.{ℕ, ◌≤◌}
use native.Mathlib.Omega.{arith}
use mathlib.Core.Path.{◌≡◌, refl, ap}
use mathlib.Core.Bool.{true}
use mathlib.Core.List.{List, [], ◌∷◌}
use mathlib.Core.Option.{some}
use lib.ListN.{length, get_or, replicate, length-replicate}
use lib.Dec.{leb}
use borrow.Author.Tests.{eq-eqb, le-leb}
use mathlib.Mathlib.Data.Bool.Basic.{and_intro}
use Rattle.lists.proofs.Lists.{get_or-replicate-all}
use Rattle.lists.proofs.Searches.{every-from}
use Rattle.network.specs.Networks.{Network, basins_of, Accepted}
use Rattle.network.specs.Settings.{gate_count, is_setting}
use Rattle.network.specs.Orientations.{Arc, arcs_under}
use Rattle.network.specs.Plans.{strongly_connected, strongly_connected_under, is_plan, first_plan}
use Rattle.network.specs.Replies.{plan, first_answer}
use Rattle.network.proofs.Walks.{reached-refl}
use Rattle.network.proofs.Networks.{basins-few}
use Rattle.network.proofs.Order.{before-zeros, first-unique}
use Rattle.network.proofs.Replies.{first-given}

-- a basin reaches itself, whatever is passed
one-strong : (bs : List ℕ) (A : List Arc) → length bs ≤ 1 → strongly_connected bs A ≡ true
one-strong [] A l = refl
one-strong (b ∷ []) A l = and_intro (and_intro (reached-refl A b) refl) refl
one-strong (b ∷ c ∷ bs) A l = absurd (omega arith)

-- all gates as drawn are a setting
pub zeros-setting : (N : Network) → is_setting N (replicate (gate_count N) 0) ≡ true
unfolding is_setting
zeros-setting N =
    let n = gate_count N in
    and_intro (eq-eqb (length (replicate n 0)) n (length-replicate n 0)) (every-from (λ x. leb x 1) (replicate n 0) 0 (λ i l. le-leb (get_or (replicate n 0) i 0) 1 (omega (arith, get_or-replicate-all {A = ℕ} n i 0))))

module _ (N : Network) (few : length (basins_of N) ≤ 1) where
  pub few-served : (s : List ℕ) → is_setting N s ≡ true → is_plan N s ≡ true
  unfolding is_plan strongly_connected_under
  few-served s e = and_intro e (one-strong (basins_of N) (arcs_under N s) few)

  -- so first gives all gates as drawn
  few-first-plan : first_plan N ≡ some (replicate (gate_count N) 0)
  few-first-plan = first-unique N (replicate (gate_count N) 0) (few-served (replicate (gate_count N) 0) (zeros-setting N)) (λ t e. before-zeros t (gate_count N))

  pub few-first : Accepted N → first_answer N ≡ plan (replicate (gate_count N) 0)
  few-first ok = (first-given N ok (replicate (gate_count N) 0)).1 few-first-plan

-- where just one basin is wet
pub one-basin : (N : Network) (b : ℕ) → basins_of N ≡ b ∷ [] → (s : List ℕ) → is_setting N s ≡ true → is_plan N s ≡ true
one-basin N b e = few-served N (omega (arith, ap length e))

-- where the network has one basin, wet or dry
pub one-basin-served : (N : Network) → N.basins ≡ 1 → (s : List ℕ) → is_setting N s ≡ true → is_plan N s ≡ true
one-basin-served N e = few-served N (omega (arith, basins-few N))

pub one-basin-first : (N : Network) → Accepted N → N.basins ≡ 1 → first_answer N ≡ plan (replicate (gate_count N) 0)
one-basin-first N ok e = few-first N (omega (arith, basins-few N)) ok
