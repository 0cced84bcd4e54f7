-- A parent for each basin, the roots above them, and what is done to them. Document 02, item 4, has clusters "numbered by the order of their lowest members": the lowest
-- member is the root.
-- Assumes nothing.
use Rattle.std.specs.Prelude.{ℕ, ◌≤◌, ◌<◌, min, ◌≡◌, cond, ◌||◌, List, length, get_or, eqb}
use Rattle.network.specs.Networks.{Network}
use Rattle.components.specs.Components.{representative}
use Rattle.components.specs.Labels.{Labelled}
use Rattle.components.specs.declared.Note.{Note}

-- No basin's parent is higher than the basin.
pub record Rising (n : ℕ) (p : List ℕ) : Type 0 where
  pub long : n ≤ length p
  pub parent : (v : ℕ) → v < n → get_or p v 0 ≤ v

-- Each basin is its own parent.
pub record Separate (n : ℕ) (p : List ℕ) : Type 0 where
  pub long : n ≤ length p
  pub own : (v : ℕ) → v < n → get_or p v 0 ≡ v

-- The parents from v on lead to r, which is its own parent.
pub data Root (p : List ℕ) : ℕ → ℕ → Type 0 where
  top : {r : ℕ} → get_or p r 0 ≡ r → Root p r r
  up : {v r : ℕ} → get_or p v 0 < v → Root p (get_or p v 0) r → Root p v r

-- r is the root above v, and no root has changed.
pub record RootFound (n : ℕ) (p : List ℕ) (v r : ℕ) (p' : List ℕ) : Type 0 where
  pub root : Root p v r
  pub same : (u w : ℕ) → Root p u w → Root p' u w
  pub rising : Rising n p'

-- The root above a basin whose root was w, where those of the roots x and y are joined.
abbrev pub joined_root : ℕ → ℕ → ℕ → ℕ
joined_root x y w = cond (eqb w x || eqb w y) (min x y) w

-- The basins below the roots of a and b have the lower of the two as root; no other root has changed.
pub record Joined (n : ℕ) (p : List ℕ) (a b : ℕ) (p' : List ℕ) : Type 0 where
  pub x : ℕ
  pub y : ℕ
  pub a-root : Root p a x
  pub b-root : Root p b y
  pub roots : (u w : ℕ) → Root p u w → Root p' u (joined_root x y w)
  pub rising : Rising n p'

-- The root above each basin is the lowest member of its component.
pub record Forest (N : Network) (p : List ℕ) : Type 0 where
  pub rising : Rising N.basins p
  pub roots : (v : ℕ) → v < N.basins → Root p v (representative N v)

-- So it is with every network of n basins whose components have these parents.
pub record Numbered (n : ℕ) (p : List ℕ) (count : ℕ) (labels : List ℕ) (notes : List Note) : Type 0 where
  pub of : (N : Network) → N.basins ≡ n → Forest N p → Labelled N count labels notes
