-- Components as code has them: a label for each basin, which is the number of its component, and a note for each component.
-- Assumes nothing.
use Rattle.std.specs.Prelude.{ℕ, ◌≤◌, ◌<◌, ◌≡◌, cond, List, length, get_or}
use Rattle.network.specs.Networks.{Network, max_basins}
use Rattle.components.specs.Components.{component_number, component_count, is_singleton}
use Rattle.components.specs.Contracted.{none_before}
use Rattle.components.specs.declared.Note.{Note}
use Rattle.components.specs.declared.Note.TheVariants.{One, Several, Looped}

-- Rows of an accepted network of n basins: as many ends as kinds, and each below n.
pub record Joinable (n : ℕ) (ks xs ys : List ℕ) : Type 0 where
  pub few : n ≤ max_basins
  pub a-full : length xs ≡ length ks
  pub b-full : length ys ≡ length ks
  pub a-below : (i : ℕ) → i < length xs → get_or xs i 0 < n
  pub b-below : (i : ℕ) → i < length ys → get_or ys i 0 < n

-- The note of v's component where the reaches below i have come: `One` if it has one member, else `Several` while none of its two-way reaches has come, and `Looped` from then on.
abbrev pub note_at : Network → ℕ → ℕ → Note
note_at N i v = cond (is_singleton N v) One (cond (none_before N i v) Several Looped)

-- The number of components, that of each basin's, and what is noted of it where no reach has come. What stands past the basins and the components is free.
pub record Labelled (N : Network) (count : ℕ) (labels : List ℕ) (notes : List Note) : Type 0 where
  pub counted : count ≡ component_count N
  pub label : (v : ℕ) → v < N.basins → get_or labels v 0 ≡ component_number N v
  pub note : (v : ℕ) → v < N.basins → get_or notes (component_number N v) One ≡ note_at N 0 v
