-- The index of a table's half-edges: for each basin its last half-edge, and for each half-edge the one before it at the same basin.
-- Assumes nothing.
use Rattle.std.specs.Prelude.{ℕ, ◌≤◌, ◌<◌, ◌≡◌, List, length, get_or}
use Rattle.half_edges.specs.Ends.{halves, end_of}

-- What stands where there is no half-edge.
abbrev pub no_half : ℕ
no_half = 65535

-- c is the last half-edge below x that stands at v, or `no_half` where there is no such half-edge.
pub data Last (xs ys : List ℕ) (x v c : ℕ) : Type 0 where
  nothing : c ≡ no_half → ((h : ℕ) → h < x → end_of xs ys h ≡ v → ⊥) → Last xs ys x v c
  last : c < x → end_of xs ys c ≡ v → ((h : ℕ) → c < h → h < x → end_of xs ys h ≡ v → ⊥) → Last xs ys x v c

-- The half-edges below x are linked: head has the last one at each basin below n, next the one before each.
pub record Linked (x n : ℕ) (xs ys head next : List ℕ) : Type 0 where
  pub heads : (v : ℕ) → v < n → Last xs ys x v (get_or head v 0)
  pub nexts : (h : ℕ) → h < x → Last xs ys h (end_of xs ys h) (get_or next h 0)
  pub head-room : n ≤ length head
  pub next-room : halves xs ≤ length next

-- All of them are linked.
abbrev pub Index : ℕ → List ℕ → List ℕ → List ℕ → List ℕ → Type 0
Index n xs ys head next = Linked (halves xs) n xs ys head next

-- A table that an index can hold: as many ends B as ends A, all below n, and no half-edge with the number `no_half`.
pub record Table (n : ℕ) (xs ys : List ℕ) : Type 0 where
  pub paired : length ys ≡ length xs
  pub few : halves xs < no_half
  pub ends-a : (i : ℕ) → i < length xs → get_or xs i 0 < n
  pub ends-b : (i : ℕ) → i < length xs → get_or ys i 0 < n

-- What making the index requires.
pub record Indexable (n : ℕ) (xs ys head next : List ℕ) : Type 0 where
  pub table : Table n xs ys
  pub head-room : n ≤ length head
  pub next-room : halves xs ≤ length next
