-- Trying no more the gates that are bound.
-- Assumes nothing.
use Rattle.std.specs.Prelude.{ℕ, ◌-◌, ◌≤◌, ◌≡◌, true, false, List, [], set}
use Rattle.tables.specs.Rows.{net_of, ways_row}
use Rattle.orientations.specs.Least.{is_tried}
use Rattle.orientations.specs.Partials.{Binds}
use Rattle.orienting.specs.Tries.{left_out, led_round}
use Rattle.seeking.specs.Seeks.{AtPlan}

-- Reach i is tried no more if it is a gate that is tried and cannot be hung the other way than that of a plan; the gates are usable either way with the ways os.
pub data NotedAt (xs ys fs os : List ℕ) (i way : ℕ) : List ℕ → List ℕ → Type 0 where
  as_it_was : {fs' os' : List ℕ} → fs' ≡ fs → os' ≡ os → NotedAt xs ys fs os i way fs' os'
  still-tried : {fs' os' : List ℕ} → is_tried fs i ≡ true → fs' ≡ fs → os' ≡ set os i 2 → NotedAt xs ys fs os i way fs' os'
  tried-no-more : {fs' os' : List ℕ} → is_tried fs i ≡ true → way ≤ 1 → led_round (left_out xs ys os i) xs ys i (1 - way) ≡ false → fs' ≡ set fs i 1 → os' ≡ set os i 2 → NotedAt xs ys fs os i way fs' os'

-- If the ways ws are those of a plan, what fs' does not try has one way in all plans, if that holds of fs.
pub record BindsStill (n : ℕ) (ks xs ys ws fs fs' : List ℕ) : Type 0 where
  pub still : (s : List ℕ) → AtPlan n ks xs ys s ws → Binds (net_of n ks xs ys) fs ws → Binds (net_of n ks xs ys) fs' ws

-- So it is in the table of all kinds ks of which no gate is oriented in the ways os.
pub record NotedFrom (n : ℕ) (xs ys ws fs os fs' : List ℕ) : Type 0 where
  pub from : (ks : List ℕ) → os ≡ ways_row ks [] → BindsStill n ks xs ys ws fs fs'
