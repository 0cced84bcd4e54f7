-- The record at the front of a file's bytes: what it is known by, and what stands at a position, case by case.
-- Assumes nothing.
use Rattle.std.specs.Prelude.{Err, Ok, Some, None, Option}
use Prim.Native.Nat.{ℕ, suc, ◌+◌, ◌-◌, ◌≤◌, ◌<◌}
use native.Mathlib.Omega.{arith}
use mathlib.Core.Path.{◌≡◌, refl, ap}
use mathlib.Core.Bool.{Bool, true, false, cond, true≢false}
use mathlib.Core.List.{List, [], ◌∷◌, ◌++◌}
use lib.ListN.{length, get_or, take, drop, length-drop, drop_of_length-le}
use lib.Dec.{leb}
use lib.Seq.{drop-cons}
use borrow.Author.Tests.{leb-true, le-leb, lt-leb}
use Rattle.network.specs.declared.Refusal.{Refusal}
use Rattle.network.specs.declared.Refusal.TheVariants.{Truncated, UnknownKind}
use Rattle.lists.specs.Lists.{elem}
use Rattle.file_records.specs.Records.{body_of, two_bytes, Front, broken, whole, with_body, take_record, taken_answer}

-- no record stands at the front
pub broken-is : (F : Front) (r : Refusal) → taken_answer F ≡ Err r → F ≡ broken r
broken-is (broken e) r h = cc
broken-is (whole k body rest) r h = cc

-- a record of kind k stands at the front
pub record Stands (kinds : List ℕ) (f : List ℕ) (k : ℕ) : Type 0 where
  pub size : ℕ
  pub comes : elem k kinds ≡ true
  pub sized : body_of k ≡ Some size
  pub long : suc size ≤ length f
  pub starts : f ≡ k ∷ drop 1 f
  pub taken : take_record kinds f ≡ whole k (take size (drop 1 f)) (drop size (drop 1 f))

pub stands : (kinds : List ℕ) (f : List ℕ) (k : ℕ) → taken_answer (take_record kinds f) ≡ Ok k → Stands kinds f k
stands kinds [] k e = absurd (true≢false (cc))
stands kinds (x ∷ f) k e = comes (elem x kinds) refl (body_of x) refl
  where
    fits : (n : ℕ) → elem x kinds ≡ true → body_of x ≡ Some n → (b : Bool) → leb n (length f) ≡ b → Stands kinds (x ∷ f) k
    fits n m h true l =
        let same : Ok x ≡ Ok k = rw (m, h, l) at e in
        let is : x ≡ k = cc in
        record {
          size = n;
          comes = rw is at m;
          sized = rw is at h;
          long = let q = leb-true n (length f) l in omega arith;
          starts = ap (λ y. y ∷ f) is;
          taken = rw (m, h, l) (ap (λ y. whole y (take n f) (drop n f)) is);
        }
    fits n m h false l =
        let never : Err Truncated ≡ Ok k = rw (m, h, l) at e in
        absurd (true≢false (cc))

    comes : (b : Bool) → elem x kinds ≡ b → (o : Option ℕ) → body_of x ≡ o → Stands kinds (x ∷ f) k
    comes false m o h =
        let never : Err UnknownKind ≡ Ok k = rw m at e in
        absurd (true≢false (cc))
    comes true m None h =
        let never : Err UnknownKind ≡ Ok k = rw (m, h) at e in
        absurd (true≢false (cc))
    comes true m (Some n) h = fits n m h (leb n (length f)) refl

pub same_size : {o : Option ℕ} {m n : ℕ} → o ≡ Some m → o ≡ Some n → m ≡ n
same_size {o} {m} {n} p q = cc

-- a kind with a value for its body stands at the front of its bytes
pub value_taken :
    (kinds : List ℕ) (k n : ℕ) (rest : List ℕ) → elem k kinds ≡ true → body_of k ≡ Some 2
    → take_record kinds (k ∷ (two_bytes n ++ rest)) ≡ whole k (two_bytes n) rest
value_taken kinds k n rest m h = rw (m, h, le-leb 2 (suc (suc (length rest))) (omega arith))

module _ (kinds : List ℕ) (f : List ℕ) (at : ℕ) where
  pub taken-nothing : length f ≤ at → Err Truncated ≡ taken_answer (take_record kinds (drop at f))
  taken-nothing l = rw (drop_of_length-le f l)

  take-here :
      at < length f
      → take_record kinds (drop at f) ≡ cond (elem (get_or f at 0) kinds) (with_body (get_or f at 0) (body_of (get_or f at 0)) (drop (suc at) f)) (broken UnknownKind)
  take-here l = rw (drop-cons f at 0 l)

  pub taken-unknown : at < length f → elem (get_or f at 0) kinds ≡ false → Err UnknownKind ≡ taken_answer (take_record kinds (drop at f))
  taken-unknown l m = rw (take-here l, m)

  pub taken-bodiless :
      at < length f → elem (get_or f at 0) kinds ≡ true → body_of (get_or f at 0) ≡ None
      → Err UnknownKind ≡ taken_answer (take_record kinds (drop at f))
  taken-bodiless l m e = rw (take-here l, m, e)

  pub taken-whole :
      (n : ℕ) → at < length f → elem (get_or f at 0) kinds ≡ true → body_of (get_or f at 0) ≡ Some n → n ≤ length f - (at + 1)
      → Ok (get_or f at 0) ≡ taken_answer (take_record kinds (drop at f))
  taken-whole n l m e h =
      rw (take-here l, m, e, le-leb n (length (drop (suc at) f)) (simp length-drop (omega arith)))

  pub taken-short :
      (n : ℕ) → at < length f → elem (get_or f at 0) kinds ≡ true → body_of (get_or f at 0) ≡ Some n → length f - (at + 1) < n
      → Err Truncated ≡ taken_answer (take_record kinds (drop at f))
  taken-short n l m e h =
      rw (take-here l, m, e, lt-leb n (length (drop (suc at) f)) (simp length-drop (omega arith)))
