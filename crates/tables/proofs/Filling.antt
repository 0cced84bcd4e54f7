-- Rows that are filled from the front with the numbers of a table's reaches.
-- Assumes nothing.
use Prim.Native.Nat.{ℕ, ◌+◌, ◌≤◌, ◌<◌}
use native.Mathlib.Nat.{zero-add}
use native.Mathlib.Numerals.{add-one}
use native.Mathlib.Omega.{arith}
use mathlib.Core.Path.{◌≡◌, refl, sym, ap, ◌∙◌}
use mathlib.Core.List.{List, ◌++◌, map}
use lib.ListN.{length, get_or, take, drop, set, length-set, length-append, length-map, get_or-map}
use lib.Seq.{take_all, take_at, paste, paste-suc}
use Rattle.network.specs.declared.Reach.{Reach}
use Rattle.network.specs.Bridges.{no_reach}
use Rattle.network.specs.Tables.{state_number, table_of}
use Rattle.tables.specs.Rows.{RowsFilled}
use Rattle.tables.proofs.Laws.{table-of-rows}

-- one row, of which the first i entries are the table's
pub record RowFilled (g : Reach → ℕ) (t : List Reach) (row₀ row : List ℕ) (i : ℕ) : Type 0 where
  pub is : row ≡ paste row₀ 0 (map g t) i
  pub long : length row ≡ length row₀

module _ (g : Reach → ℕ) (t : List Reach) (row₀ row : List ℕ) where
  pub row-none : RowFilled g t row₀ row₀ 0
  row-none = record { is = refl; long = refl }

  pub row_more :
      (i v : ℕ) → RowFilled g t row₀ row i → i < length t → i < length row₀ → v ≡ g (get_or t i no_reach) → RowFilled g t row₀ (set row i v) (i + 1)
  row_more i v f p q e =
      let value : get_or (map g t) i (g no_reach) ≡ v = get_or-map g t i no_reach ∙ sym e in
      let next = paste-suc row₀ 0 (map g t) i (g no_reach) (omega arith) (rw length-map p) in
      record { is = ap (λ l. set l i v) f.is ∙ rw (zero-add i, add-one) (rw (zero-add i, value) at next); long = length-set row i v ∙ f.long }

  pub row-all : (i : ℕ) → RowFilled g t row₀ row i → i ≡ length t → row ≡ map g t ++ drop (length t) row₀
  row-all i f e = f.is ∙ rw (zero-add, e, take_all (length t) (map g t) (omega (arith, length-map t g)))

-- Rows with a table's numbers in front hold it in their first entries, whatever stands after them.
module _ (t : List Reach) (m : ℕ) (counted : length t ≡ m) where
  module _ (g : Reach → ℕ) (rest : List ℕ) {row : List ℕ} (e : row ≡ map g t ++ rest) where
    pub front_long : m ≤ length row
    front_long = omega (arith, ap length e, length-append (map g t) rest, length-map t g, counted)

    front-is : take m row ≡ map g t
    front-is = ap (take m) e ∙ take_at (map g t) rest m (length-map t g ∙ counted)

  pub front-table : (rest-k rest-a rest-b : List ℕ) {kinds a b : List ℕ} → kinds ≡ map (λ r. state_number r.state) t ++ rest-k → a ≡ map (λ r. r.a) t ++ rest-a → b ≡ map (λ r. r.b) t ++ rest-b
      → table_of (take m kinds) (take m a) (take m b) ≡ t
  front-table rest-k rest-a rest-b e f g = rw (front-is (λ r. state_number r.state) rest-k e, front-is (λ r. r.a) rest-a f, front-is (λ r. r.b) rest-b g) (table-of-rows t)

-- So do the rows that a table was written into.
module _ (t : List Reach) {kinds a b kinds' a' b' : List ℕ} (rows : RowsFilled t kinds a b kinds' a' b') (m : ℕ) (counted : length t ≡ m) where
  pub filled-long : (m ≤ length kinds') × (m ≤ length a') × (m ≤ length b')
  filled-long = (front_long t m counted _ _ rows.kind_row, front_long t m counted _ _ rows.a-row, front_long t m counted _ _ rows.b-row)

  pub filled-table : table_of (take m kinds') (take m a') (take m b') ≡ t
  filled-table = front-table t m counted _ _ _ rows.kind_row rows.a-row rows.b-row
