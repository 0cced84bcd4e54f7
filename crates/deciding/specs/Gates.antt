-- What orienting a gate does, by what its ends lead to without it.
-- Assumes nothing.
use Rattle.std.specs.Prelude.{ℕ, ◌<◌, ◌≡◌, Bool, true, false, List, get_or, set}
use Rattle.network.specs.Tables.{state_of}
use Rattle.network.specs.Settings.{is_gated}
use Rattle.network.specs.Orientations.{reached}
use Rattle.distances.specs.Distances.{noted}
use Rattle.orienting.specs.Tries.{left_out, led_round}
use Rattle.series_way.specs.Guided.{Guidable}

-- Reach i, if it is a gate, as drawn if that loses nothing, else turned if that does not. Otherwise what its end A leads to without it is noted as reached.
pub data OrientedGate (n : ℕ) (ks xs ys ws : List ℕ) (i : ℕ) : List ℕ → List ℕ → Bool → Type 0 where
  no-gate : {ws' seen : List ℕ} {r : Bool} → is_gated (state_of (get_or ks i 0)) ≡ false → ws' ≡ ws → r ≡ true → OrientedGate n ks xs ys ws i ws' seen r
  drawn : {ws' seen : List ℕ} {r : Bool} → is_gated (state_of (get_or ks i 0)) ≡ true → led_round (left_out xs ys ws i) xs ys i 0 ≡ true → ws' ≡ set ws i 0 → r ≡ true
      → OrientedGate n ks xs ys ws i ws' seen r
  turned : {ws' seen : List ℕ} {r : Bool} → is_gated (state_of (get_or ks i 0)) ≡ true → led_round (left_out xs ys ws i) xs ys i 0 ≡ false
      → led_round (left_out xs ys ws i) xs ys i 1 ≡ true → ws' ≡ set ws i 1 → r ≡ true → OrientedGate n ks xs ys ws i ws' seen r
  neither : {ws' seen : List ℕ} {r : Bool} → is_gated (state_of (get_or ks i 0)) ≡ true → led_round (left_out xs ys ws i) xs ys i 0 ≡ false
      → led_round (left_out xs ys ws i) xs ys i 1 ≡ false → r ≡ false
      → ((v : ℕ) → v < n → noted seen v ≡ reached (left_out xs ys ws i) (get_or xs i 0) v) → OrientedGate n ks xs ys ws i ws' seen r

-- Reach i, if it is a gate, as drawn if that loses nothing, else turned.
pub data Settled (ks xs ys ws : List ℕ) (i : ℕ) : List ℕ → Type 0 where
  as_it_was : {ws' : List ℕ} → is_gated (state_of (get_or ks i 0)) ≡ false → ws' ≡ ws → Settled ks xs ys ws i ws'
  as-drawn : {ws' : List ℕ} → is_gated (state_of (get_or ks i 0)) ≡ true → led_round (left_out xs ys ws i) xs ys i 0 ≡ true → ws' ≡ set ws i 0 → Settled ks xs ys ws i ws'
  as-turned : {ws' : List ℕ} → is_gated (state_of (get_or ks i 0)) ≡ true → led_round (left_out xs ys ws i) xs ys i 0 ≡ false → ws' ≡ set ws i 1 → Settled ks xs ys ws i ws'

-- So it is in every table of which the row of guides is true, where reach i stands next in a partial orientation.
pub record SettledFrom (n : ℕ) (guide fs xs ys ws : List ℕ) (i : ℕ) (ws' : List ℕ) : Type 0 where
  pub from : (ks : List ℕ) → Guidable n guide ks fs xs ys ws i → Settled fs xs ys ws i ws'
