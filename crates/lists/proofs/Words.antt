-- Laws of bytes read as one number: parts of bytes, and words of two.
-- Assumes nothing.
use Prim.Native.Nat.{ℕ, zero, suc, ◌+◌, ◌*◌, ◌/◌, ◌%◌, ◌<◌}
use native.Mathlib.Numerals.{add-one}
use native.Mathlib.Omega.{arith}
use mathlib.Core.Path.{◌≡◌}
use mathlib.Core.List.{List, [], ◌∷◌}
use lib.ListN.{length, get_or, take, drop}
use lib.Seq.{drop-cons, get_or-drop}
use Rattle.lists.specs.Words.{word_of}

-- Every element is a byte.
abbrev pub Bytes : List ℕ → Type 0
Bytes m = (i : ℕ) → get_or m i 0 < 256

take-bytes : (n : ℕ) (m : List ℕ) → Bytes m → Bytes (take n m)
take-bytes zero m h i = omega arith
take-bytes (suc n) [] h i = h i
take-bytes (suc n) (x ∷ m) h zero = h 0
take-bytes (suc n) (x ∷ m) h (suc i) = take-bytes n m (λ k. h (suc k)) i

-- a part of bytes is bytes
pub bytes-part : (at n : ℕ) (m : List ℕ) → Bytes m → Bytes (take n (drop at m))
bytes-part at n m h = take-bytes n (drop at m) (λ i. rw get_or-drop (h (at + i)))

-- ---- words of two bytes

front-two : (f : List ℕ) (i : ℕ) → i + 1 < length f → take 2 (drop i f) ≡ get_or f i 0 ∷ get_or f (i + 1) 0 ∷ []
front-two f i h = rw (drop-cons f i 0 (omega arith), drop-cons f (suc i) 0 (omega arith), add-one)

-- the two bytes at a place of a list
pub word_two : (f : List ℕ) (i : ℕ) → i + 1 < length f → get_or f i 0 + 256 * get_or f (i + 1) 0 ≡ word_of (take 2 (drop i f))
word_two f i h = rw (front-two f i h) (omega arith)

-- two bytes are those of the number that they are read as
pub low_byte : (x y : ℕ) → x < 256 → word_of (x ∷ y ∷ []) % 256 ≡ x
low_byte x y h = omega arith

pub high_byte : (x y : ℕ) → x < 256 → word_of (x ∷ y ∷ []) / 256 ≡ y
high_byte x y h = omega arith
