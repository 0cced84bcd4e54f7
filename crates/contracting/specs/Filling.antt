-- What stays of each reach, decided by the notes of components, and what writing it into rows asks and leaves.
-- Assumes nothing.
use Rattle.std.specs.Prelude.{ℕ, ◌≤◌, ◌≡◌, Bool, true, false, cond, not, ◌&&◌, ◌||◌, List, length, eqb}
use Rattle.network.specs.declared.Kind.TheVariants.{Gated, Flap, TwoWay}
use Rattle.network.specs.declared.State.{State}
use Rattle.network.specs.declared.State.TheVariants.{InService, Shut}
use Rattle.tables.specs.Rows.{net_of, RowsFilled}
use Rattle.components.specs.Components.{is_two_way}
use Rattle.components.specs.Contracted.{contracted}
use Rattle.components.specs.Labels.{Joinable, Labelled}
use Rattle.components.specs.declared.Note.{Note}
use Rattle.components.specs.declared.Note.TheVariants.{One, Several, Looped}

-- Which note it is.
abbrev pub is_one : Note → Bool
is_one One = true
is_one Several = false
is_one Looped = false

abbrev pub is_several : Note → Bool
is_several One = false
is_several Several = true
is_several Looped = false

abbrev pub is_looped : Note → Bool
is_looped One = false
is_looped Several = false
is_looped Looped = true

-- Whether a reach stays, by its state, the components of its ends and the note of the first.
abbrev pub stays_by : State → ℕ → ℕ → Note → Bool
stays_by (InService Gated) c d note = true
stays_by (InService Flap) c d note = not (eqb c d) || is_one note
stays_by (InService TwoWay) c d note = not (is_looped note)
stays_by (Shut k) c d note = false

-- The note of a component after a reach in the state with its end A there.
abbrev pub note_after : State → Note → Note
note_after s note = cond (is_two_way s && is_several note) Looped note

-- Rows of an accepted network of n basins, and new rows with room for as many reaches.
pub record Contractible (n : ℕ) (ks xs ys ks₂ xs₂ ys₂ : List ℕ) : Type 0 where
  pub rows : Joinable n ks xs ys
  pub kind-room : length ks ≤ length ks₂
  pub a-room : length ks ≤ length xs₂
  pub b-room : length ks ≤ length ys₂

-- The same, with the labels of its basins and the notes of its components.
pub record FillableOf (n : ℕ) (ks xs ys labels : List ℕ) (notes : List Note) (ks₂ xs₂ ys₂ : List ℕ) : Type 0 where
  pub table : Contractible n ks xs ys ks₂ xs₂ ys₂
  pub count : ℕ
  pub labelled : Labelled (net_of n ks xs ys) count labels notes
  pub labels-room : n ≤ length labels
  pub notes-room : n ≤ length notes

-- So it is for some basin count.
pub record Fillable (ks xs ys labels : List ℕ) (notes : List Note) (ks₂ xs₂ ys₂ : List ℕ) : Type 0 where
  pub n : ℕ
  pub fits : FillableOf n ks xs ys labels notes ks₂ xs₂ ys₂

-- How many reaches the contracted network has, and these in the first entries of the new rows.
pub record KeptFilledOf (n : ℕ) (ks xs ys ks₂ xs₂ ys₂ : List ℕ) (count : ℕ) (ks' xs' ys' : List ℕ) : Type 0 where
  pub counted : count ≡ length (contracted (net_of n ks xs ys)).reaches
  pub rows : RowsFilled (contracted (net_of n ks xs ys)).reaches ks₂ xs₂ ys₂ ks' xs' ys'

-- So it is for every basin count that fits.
pub record KeptFilled (ks xs ys labels : List ℕ) (notes : List Note) (ks₂ xs₂ ys₂ : List ℕ) (count : ℕ) (ks' xs' ys' : List ℕ) : Type 0 where
  pub of : (n : ℕ) → FillableOf n ks xs ys labels notes ks₂ xs₂ ys₂ → KeptFilledOf n ks xs ys ks₂ xs₂ ys₂ count ks' xs' ys'
