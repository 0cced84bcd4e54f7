-- A reach table as rows of numbers.
-- Assumes nothing.
use Rattle.std.specs.Prelude.{ℕ, ◌≡◌, List, map, ◌++◌, length, get_or, take, drop}
use Rattle.network.specs.declared.Reach.{Reach}
use Rattle.lists.specs.Lists.{range}
use Rattle.network.specs.Bridges.{no_reach}
use Rattle.network.specs.Tables.{state_of}
pub use Rattle.reach_numbers.specs.Records.{max_rows, held_of, reach_state_number, numbers_of, fitting_of, filling_of}

-- A table is packed into the rows of its front, which is all of a table that is not over-full.
abbrev pub front : List Reach → List Reach
front t = take max_rows t

-- A row whose first k numbers are those of a table's reaches, and the others as they were.
abbrev pub row_into : (Reach → ℕ) → List Reach → List ℕ → ℕ → List ℕ
row_into f t row k = map (λ i. f (get_or t i no_reach)) (range 0 k) ++ drop k row

-- What a table leaves in three rows.
pub record PackedInto (t : List Reach) (kinds a b : List ℕ) (r : ℕ) (kinds' a' b' : List ℕ) : Type 0 where
  pub count : r ≡ fitting_of (length t) (length kinds) (length a) (length b)
  pub kinds-in : kinds' ≡ row_into reach_state_number t kinds r
  pub a_in : a' ≡ row_into (λ x. x.a) t a r
  pub b-in : b' ≡ row_into (λ x. x.b) t b r

-- The reach that stands in three rows at i, and a table whose first k records are the rows' reaches, and the others as they were.
abbrev pub rows_reach : List ℕ → List ℕ → List ℕ → ℕ → Reach
rows_reach kinds a b i = record { state = state_of (get_or kinds i 0); a = get_or a i 0; b = get_or b i 0 }

abbrev pub table_into : List ℕ → List ℕ → List ℕ → List Reach → ℕ → List Reach
table_into kinds a b t k = map (rows_reach kinds a b) (range 0 k) ++ drop k t

-- What the first n reaches of three rows leave in a table.
pub record UnpackedFrom (n : ℕ) (kinds a b : List ℕ) (t t' : List Reach) : Type 0 where
  pub table-in : t' ≡ table_into kinds a b t (filling_of n (length kinds) (length a) (length b) (length t))
