-- Following a setting, and parting from it upwards, at one reach.
-- Assumes nothing.
use Rattle.std.specs.Prelude.{ℕ, ◌≡◌, Bool, true, false, List, get_or, set}
use Rattle.network.specs.Settings.{is_gated}
use Rattle.network.specs.Tables.{state_of}
use Rattle.orienting.specs.Tries.{Tried}
use Rattle.series_way.specs.Guided.{Guidable}

-- What orienting reach i as us has it does: nothing if it is no gate, else the way that us has is tried.
pub data OrientedAs (ks xs ys us ws : List ℕ) (i : ℕ) : List ℕ → Bool → Type 0 where
  no-gate : {ws' : List ℕ} {r : Bool} → is_gated (state_of (get_or ks i 0)) ≡ false → ws' ≡ ws → r ≡ true → OrientedAs ks xs ys us ws i ws' r
  as-under : {ws' : List ℕ} {r : Bool} → is_gated (state_of (get_or ks i 0)) ≡ true → Tried xs ys ws i (get_or us i 0) ws' r → OrientedAs ks xs ys us ws i ws' r

-- What trying to part from us upwards at reach i does: nothing if it is no gate; if it is turned already it is usable either way; else it is tried turned.
pub data PartedAt (ks xs ys us ws : List ℕ) (i : ℕ) : List ℕ → Bool → Type 0 where
  passed : {ws' : List ℕ} {r : Bool} → is_gated (state_of (get_or ks i 0)) ≡ false → ws' ≡ ws → r ≡ false → PartedAt ks xs ys us ws i ws' r
  freed : {ws' : List ℕ} {r : Bool} → is_gated (state_of (get_or ks i 0)) ≡ true → (get_or us i 0 ≡ 0 → ⊥) → ws' ≡ set ws i 2 → r ≡ false
      → PartedAt ks xs ys us ws i ws' r
  tried : {ws' : List ℕ} {r : Bool} → is_gated (state_of (get_or ks i 0)) ≡ true → get_or us i 0 ≡ 0 → Tried xs ys ws i 1 ws' r → PartedAt ks xs ys us ws i ws' r

-- So it is in every table of which the row of guides is true, where the ways with reach i usable either way are a partial orientation up to it.
pub record PartedAtFrom (n : ℕ) (guide fs xs ys us ws : List ℕ) (i : ℕ) (ws' : List ℕ) (r : Bool) : Type 0 where
  pub from : (ks : List ℕ) → Guidable n guide ks fs xs ys ws i → PartedAt fs xs ys us ws i ws' r
