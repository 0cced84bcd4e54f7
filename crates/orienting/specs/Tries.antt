-- Trying one way of one reach, by what its ends lead to without it.
-- Assumes nothing.
use Rattle.std.specs.Prelude.{ℕ, ◌≡◌, Bool, true, false, List, get_or, set}
use Rattle.network.specs.Orientations.{Arc, reached}
use Rattle.half_edges.specs.Ends.{arcs_of, pick}

-- What the table passes with reach i left out.
abbrev pub left_out : List ℕ → List ℕ → List ℕ → ℕ → List Arc
left_out xs ys ws i = arcs_of xs ys (set ws i 3)

-- Whether the end to which reach i passes with the way leads, along A, to the end from which it passes.
abbrev pub led_round : List Arc → List ℕ → List ℕ → ℕ → ℕ → Bool
led_round A xs ys i way = reached A (pick way (get_or ys i 0) (get_or xs i 0)) (pick way (get_or xs i 0) (get_or ys i 0))

-- Reach i got the way if its ends stay joined so without it; otherwise it is usable either way.
pub data Tried (xs ys ws : List ℕ) (i way : ℕ) : List ℕ → Bool → Type 0 where
  oriented : {ws' : List ℕ} {r : Bool} → led_round (left_out xs ys ws i) xs ys i way ≡ true → ws' ≡ set ws i way → r ≡ true → Tried xs ys ws i way ws' r
  undecided : {ws' : List ℕ} {r : Bool} → led_round (left_out xs ys ws i) xs ys i way ≡ false → ws' ≡ set ws i 2 → r ≡ false → Tried xs ys ws i way ws' r
