-- Counting marks: the ones in one word after the other.
-- Assumes nothing.
use Prim.Native.Nat.{ℕ, ◌+◌}
use native.Mathlib.Omega.{arith}
use mathlib.Core.Path.{◌≡◌, sym}
use mathlib.Core.List.{List, [], ◌∷◌, ◌++◌}
use lib.ListN.{take, drop}
use lib.Seq.{take-add}
use lib.Count.{ones}
use Rattle.network.specs.Marks.{mark_count}
use Rattle.lists.specs.Words.{word_of}
use Rattle.network.proofs.Marks.{word_ones}
use Rattle.lists.proofs.Words.{Bytes, bytes-part}

ones-append : (xs ys : List ℕ) → mark_count (xs ++ ys) ≡ mark_count xs + mark_count ys
ones-append [] ys = omega arith
ones-append (x ∷ xs) ys = omega (arith, ones-append xs ys)

-- the ones of the word from `at` on, added to those before it
pub count-more : (at : ℕ) (m : List ℕ) → Bytes m → mark_count (take at m) + ones (word_of (take 8 (drop at m))) ≡ mark_count (take (at + 8) m)
count-more at m h =
    let w : List ℕ = take 8 (drop at m) in
    rw (word_ones w (bytes-part at 8 m h), take-add at 8 m) (sym (ones-append (take at m) w))
