-- A loop over three rows side by side, `kinds.iter().zip(a).zip(b)`: it goes over the reaches of the table that they stand for.
-- Assumes nothing.
use Prim.Native.Nat.{ℕ, zero, suc, ◌+◌, ◌<◌}
use native.Mathlib.Omega.{arith}
use mathlib.Core.Path.{◌≡◌, refl, ap}
use mathlib.Core.List.{List, [], ◌∷◌, ◌++◌}
use lib.ListN.{length, get_or, length-append}
use Rattle.std.specs.Prelude.{Option, Some, None}
use Rattle.std.specs.Borrow.{Bor}
use Rattle.std.proofs.Common.{Iter}
use Rattle.std.specs.List.{zip}
use Rattle.std.specs.Slice.Iter.{iter_rest}
use Rattle.std.specs.Iterator.{Yields}
use Rattle.std.specs.Iterator.Adapters.{zip_first, zip_second}
use Rattle.std.specs.declared.iter.Zip.{Zip}
use Rattle.std.proofs.iter.Yields.{fronts}
use Rattle.std.proofs.lemmas.Iterator.{zips, YieldsList-from_slice, YieldsList-from_zip}
use Rattle.std.proofs.lemmas.Iterator.Consumers.{YieldsList-turn, YieldsList-end}
use Rattle.network.specs.Tables.{table_of}
use Rattle.tables.proofs.Laws.{reach_of_numbers}

abbrev rows_of : List ℕ → List ℕ → List ℕ → List ((ℕ × ℕ) × ℕ)
rows_of ks xs ys = zip (zip ks xs) ys

rows-long : (ks xs ys : List ℕ) → length (rows_of ks xs ys) ≡ length (table_of ks xs ys)
rows-long [] xs ys = refl
rows-long (k ∷ ks) [] ys = refl
rows-long (k ∷ ks) (x ∷ xs) [] = refl
rows-long (k ∷ ks) (x ∷ xs) (y ∷ ys) = ap suc (rows-long ks xs ys)

-- k, x and y are what the rows have at i
pub record RowAt (ks xs ys : List ℕ) (i k x y : ℕ) : Type 0 where
  pub within : i < length (table_of ks xs ys)
  pub kind : k ≡ get_or ks i 0
  pub a : x ≡ get_or xs i 0
  pub b : y ≡ get_or ys i 0

row-at : (ks xs ys : List ℕ) (i k x y : ℕ) → i < length (table_of ks xs ys) → ((k, x), y) ≡ get_or (rows_of ks xs ys) i ((k, x), y) → RowAt ks xs ys i k x y
row-at [] xs ys i k x y l e = absurd (omega arith)
row-at (k₀ ∷ ks) [] ys i k x y l e = absurd (omega arith)
row-at (k₀ ∷ ks) (x₀ ∷ xs) [] i k x y l e = absurd (omega arith)
row-at (k₀ ∷ ks) (x₀ ∷ xs) (y₀ ∷ ys) zero k x y l e =
    record { within = l; kind = ap (λ (p : (ℕ × ℕ) × ℕ). p.0.0) e; a = ap (λ (p : (ℕ × ℕ) × ℕ). p.0.1) e; b = ap (λ (p : (ℕ × ℕ) × ℕ). p.1) e }
row-at (k₀ ∷ ks) (x₀ ∷ xs) (y₀ ∷ ys) (suc i) k x y l e =
    let r = row-at ks xs ys i k x y (omega arith) e in
    record { within = l; kind = r.kind; a = r.a; b = r.b }

abbrev Rows : Type 0
Rows = Zip (Zip (Iter ℕ) (Iter ℕ)) (Iter ℕ)

abbrev Item : Type 0
Item = (Bor ℕ × Bor ℕ) × Bor ℕ

abbrev Steps : Rows → Option Item → Rows → Type 0
Steps = zips (zips fronts fronts) fronts

module _
    (ks xs ys : List ℕ) (s : Rows) (kinds : iter_rest (zip_first (zip_first s)) ≡ ks) (ends_a : iter_rest (zip_second (zip_first s)) ≡ xs) (ends_b : iter_rest (zip_second s) ≡ ys)
    (yielded : List Item) (t : Rows) (by : Yields Steps s yielded t) (r : Option Item) (u : Rows) where
  -- a turn of the loop has the row at as many as have been before
  pub rows-turn : (p : Item) → r ≡ Some p → Steps t r u → RowAt ks xs ys (length yielded) p.0.0.now p.0.1.now p.1.now
  rows-turn p e step =
      let turn = YieldsList-turn (YieldsList-from_zip (YieldsList-from_zip (YieldsList-from_slice ks kinds) (YieldsList-from_slice xs ends_a)) (YieldsList-from_slice ys ends_b)) yielded t by r u p e step in
      row-at ks xs ys (length yielded) p.0.0.now p.0.1.now p.1.now (omega (arith, turn.0, rows-long ks xs ys)) turn.1

  -- at its end it has gone over all
  pub rows-end : r ≡ None → Steps t r u → length yielded ≡ length (table_of ks xs ys)
  rows-end e step =
      let ended = YieldsList-end (YieldsList-from_zip (YieldsList-from_zip (YieldsList-from_slice ks kinds) (YieldsList-from_slice xs ends_a)) (YieldsList-from_slice ys ends_b)) yielded t by r u e step in
      omega (arith, ended.1, rows-long ks xs ys)

pub one-more : {A : Type 0} (xs : List A) (x : A) → length (xs ++ (x ∷ [])) ≡ length xs + 1
one-more xs x = omega (arith, length-append xs (x ∷ []))

pub row-reach : {ks xs ys : List ℕ} {i k x y : ℕ} → RowAt ks xs ys i k x y → reach_of_numbers k x y ≡ reach_of_numbers (get_or ks i 0) (get_or xs i 0) (get_or ys i 0)
row-reach r = rw (r.kind, r.a, r.b)
