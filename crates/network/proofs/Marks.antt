-- The laws of marks: which basin each bit stands for, that the ones in the bytes count the basins, and that a word's ones are its bytes'.
-- Assumes nothing.
use Prim.Native.Nat.{ℕ, zero, suc, ◌+◌, ◌-◌, ◌*◌, ◌/◌, ◌%◌, ◌^◌, ◌≤◌, ◌<◌}
use native.Mathlib.Nat.{add_comm, zero-add, pow-suc}
use native.Mathlib.Decide.{dec_lt}
use native.Mathlib.Omega.{arith}
use mathlib.Core.Path.{◌≡◌, refl, sym, ap, ◌∙◌}
use mathlib.Core.Bool.{Bool, true, false, cond}
use mathlib.Core.List.{List, [], ◌∷◌, map}
use lib.ListN.{length, get_or, get_or-eq_default}
use lib.Dec.{eqb}
use lib.Count.{ones, ones_cat, ones_step}
use mathlib.Mathlib.Data.Bool.Basic.{Bool-eq-false}
use Rattle.lists.specs.Lists.{range, keep, elem}
use Rattle.network.specs.Marks.{mark_bytes, bit, binary_of, mark_byte, marks_of, bit_at, marked, mark_count}
use Rattle.lists.specs.Words.{word_of}
use Rattle.lists.proofs.Searches.{keep-in, elem_in, elem-keep, keep_same, keep-none, count-append}
use Rattle.lists.proofs.Ranges.{range-in, range-add, map-range-at, map-range-same}

-- ---- a number by its binary digits: its size and its bits

pub bit-lt : (x : Bool) → bit x < 2
bit-lt true = omega arith
bit-lt false = omega arith

digits_lt : (xs : List Bool) → binary_of xs < 2 ^ length xs
digits_lt [] = omega arith
digits_lt (x ∷ xs) = rw pow-suc (omega (arith, bit-lt x, digits_lt xs))

bit_is : (x : Bool) → eqb (bit x) 1 ≡ x
bit_is true = refl
bit_is false = refl

bit-of-zero : (j : ℕ) → bit_at j 0 ≡ false
bit-of-zero zero = refl
bit-of-zero (suc j) = bit-of-zero j

low_digit : (x : Bool) (n : ℕ) → (bit x + 2 * n) % 2 ≡ bit x
low_digit x n = omega (arith, bit-lt x)

rest-digits : (x : Bool) (n : ℕ) → (bit x + 2 * n) / 2 ≡ n
rest-digits x n = omega (arith, bit-lt x)

bit-of-digits : (j : ℕ) (xs : List Bool) → bit_at j (binary_of xs) ≡ get_or xs j false
bit-of-digits j [] = bit-of-zero j
bit-of-digits zero (x ∷ xs) = rw low_digit (bit_is x)
bit-of-digits (suc j) (x ∷ xs) = rw rest-digits (bit-of-digits j xs)

-- ---- how many members pass a test

count-one : (b : Bool) (x : ℕ) (xs : List ℕ) → length (cond b (x ∷ xs) xs) ≡ bit b + length xs
count-one true x xs = omega arith
count-one false x xs = omega arith

-- as many as there are ones in the number whose digits the test gives
ones-of-digits : (p : ℕ → Bool) (xs : List ℕ) → ones (binary_of (map p xs)) ≡ length (keep p xs)
unfolding ones
ones-of-digits p [] = refl
ones-of-digits p (x ∷ xs) = rw (ones_step, low_digit, rest-digits, ones-of-digits p xs, count-one)

-- The ones in the n bytes of marks from byte k on count the members of S from 8 * k on, up to 8 * n further.
ones-of-bytes : (S : List ℕ) (k n : ℕ) → mark_count (map (mark_byte S) (range k n)) ≡ length (keep (λ b. elem b S) (range (8 * k) (8 * n)))
ones-of-bytes S k zero = refl
ones-of-bytes S k (suc n) =
    let is : ℕ → Bool = λ b. elem b S in
    let more : 8 * suc n ≡ 8 + 8 * n = omega arith in
    let next : 8 * suc k ≡ 8 * k + 8 = omega arith in
    rw (ones-of-digits is (range (8 * k) 8), ones-of-bytes S (suc k) n, more, next, range-add (8 * k) 8 (8 * n))
    (sym (count-append is (range (8 * k) 8) (range (8 * k + 8) (8 * n))))

-- ---- the marks

pub length-marks : (S : List ℕ) → length (marks_of S) ≡ mark_bytes
unfolding marks_of
length-marks S = refl

-- Byte k of the marks.
byte-is : (S : List ℕ) (k : ℕ) → k < mark_bytes → get_or (marks_of S) k 0 ≡ mark_byte S k
unfolding marks_of
byte-is S k h = map-range-at (mark_byte S) 0 0 mark_bytes k h ∙ ap (mark_byte S) (zero-add k)

-- Past the marks.
past-marks : (S : List ℕ) (k : ℕ) → mark_bytes ≤ k → get_or (marks_of S) k 0 ≡ 0
past-marks S k h = get_or-eq_default (marks_of S) 0 (rw (length-marks S) h)

-- Every byte of the marks is below 256.
pub marks-byte : (S : List ℕ) (k : ℕ) → get_or (marks_of S) k 0 < 256
marks-byte S k = go (dec_lt k mark_bytes)
  where
    go : Dec (k < mark_bytes) → get_or (marks_of S) k 0 < 256
    go (yes h) = rw (byte-is S k h) (digits_lt (map (λ b. elem b S) (range (8 * k) 8)))
    go (no h) = rw (past-marks S k (omega arith)) (omega arith)

-- "Basin b is bit b mod 8, lowest bit first, of byte b div 8."
pub marked-is : (S : List ℕ) (b : ℕ) → b < 8 * mark_bytes → marked (marks_of S) b ≡ elem b S
unfolding marked
marked-is S b h =
    ap (bit_at (b % 8)) (byte-is S (b / 8) (omega arith))
    ∙ bit-of-digits (b % 8) (map (λ c. elem c S) (range (8 * (b / 8)) 8))
    ∙ map-range-at (λ c. elem c S) false (8 * (b / 8)) 8 (b % 8) (omega arith)
    ∙ ap (λ (c : ℕ). elem c S) (omega arith)

-- No basin past the marks is marked.
pub unmarked-past : (S : List ℕ) (b : ℕ) → 8 * mark_bytes ≤ b → marked (marks_of S) b ≡ false
unfolding marked
unmarked-past S b h = rw (past-marks S (b / 8) (omega arith)) (bit-of-zero (b % 8))

-- Sets with the same basins have the same marks.
pub marks-same : (S S' : List ℕ) → ((b : ℕ) → b < 8 * mark_bytes → elem b S ≡ elem b S') → marks_of S ≡ marks_of S'
unfolding marks_of
marks-same S S' h = map-range-same (mark_byte S) (mark_byte S') 0 mark_bytes
    (λ k _ u. ap binary_of (map-range-same (λ b. elem b S) (λ b. elem b S') (8 * k) 8 (λ b _ v. h b (omega arith))))

-- Sets with the same marks have the same basins.
pub marks-inj : (S S' : List ℕ) → marks_of S ≡ marks_of S' → (b : ℕ) → b < 8 * mark_bytes → elem b S ≡ elem b S'
marks-inj S S' e b h = sym (marked-is S b h) ∙ ap (λ m. marked m b) e ∙ marked-is S' b h

-- ---- the count

-- S being kept of the basins below n, the basins below n + d that are in S are as many as S has.
count-below : (p : ℕ → Bool) (n d : ℕ) → length (keep (λ b. elem b (keep p (range 0 n))) (range 0 (n + d))) ≡ length (keep p (range 0 n))
count-below p n d =
    let S : List ℕ = keep p (range 0 n) in
    let is : ℕ → Bool = λ b. elem b S in
    let inside : keep is (range 0 n) ≡ S = keep_same is p (range 0 n) (λ b m. elem-keep p m) in
    let outside : keep is (range (0 + n) d) ≡ [] =
    keep_same is (λ b. false) (range (0 + n) d)
    (λ b m. Bool-eq-false {b = elem b S} (λ e. let r = range-in 0 n (keep-in p (range 0 n) (elem_in b S e)).0 in let r' = range-in (0 + n) d m in omega arith))
    ∙ keep-none (range (0 + n) d) in
    rw range-add (count-append is (range 0 n) (range (0 + n) d) ∙ omega (arith, ap length inside, ap length outside))

-- The same in k bytes that have a bit for every basin below n.
count-in-bytes : (p : ℕ → Bool) (n k : ℕ) → n ≤ 8 * k → mark_count (map (mark_byte (keep p (range 0 n))) (range 0 k)) ≡ length (keep p (range 0 n))
count-in-bytes p n k h =
    let more : 8 * k ≡ n + (8 * k - n) = omega arith in
    ones-of-bytes (keep p (range 0 n)) 0 k ∙ rw more (count-below p n (8 * k - n))

-- The ones in the marks of a set of basins are as many as its basins.
pub count-is : (p : ℕ → Bool) (n : ℕ) → n ≤ 8 * mark_bytes → mark_count (marks_of (keep p (range 0 n))) ≡ length (keep p (range 0 n))
unfolding marks_of
count-is p n h = count-in-bytes p n mark_bytes h

-- ---- words

-- The ones of a word are the ones of its bytes.
pub word_ones : (xs : List ℕ) → ((i : ℕ) → get_or xs i 0 < 256) → ones (word_of xs) ≡ mark_count xs
unfolding ones
word_ones [] h = refl
word_ones (x ∷ xs) h =
    let turned : x + 256 * word_of xs ≡ word_of xs * 2 ^ 8 + x = omega arith in
    rw (turned, ones_cat 8 (word_of xs) x (h 0), word_ones xs (λ i. h (suc i))) (add_comm (mark_count xs) (ones x))
