-- Bytes that are stored one after the other: runs of stores, a value, a run of bytes, a part of a buffer that was lent.
-- Assumes nothing.
use Prim.Native.Nat.{ℕ, ◌+◌, ◌-◌, ◌/◌, ◌%◌, ◌≤◌}
use native.Mathlib.Nat.{zero-add}
use native.Mathlib.Numerals.{add-one}
use native.Mathlib.Omega.{arith}
use mathlib.Core.Path.{◌≡◌}
use mathlib.Core.List.{List, ◌++◌, append-nil, append_assoc}
use lib.ListN.{length, take, drop, set, length-drop}
use lib.Seq.{sets, sets-eq, drop-drop}
use Rattle.lists.proofs.Lists.{take_rest, drop-rest}
use Rattle.file_records.specs.Records.{two_bytes}

pub put_two : (l : List ℕ) (at v : ℕ) → set (set l at (v % 256)) (at + 1) (v / 256) ≡ sets l at (two_bytes v)
put_two l at v = rw add-one

-- ---- a part of a buffer, from place n on, that was lent and is back with the bytes xs in it

pub part-put :
    (n k : ℕ) (l part xs : List ℕ) → n + length xs ≤ length l → k ≡ length xs → part ≡ xs
    → take n l ++ (part ++ drop k (drop n l)) ≡ sets l n xs
part-put n k l part xs h len e = rw (e, len, sets-eq xs l n h, drop-drop (length xs) n l, append_assoc (take n l) xs (drop (n + length xs) l))

-- ---- a part of a buffer, from place n on, that was lent and is back

pub part-back :
    (n : ℕ) (l part xs : List ℕ) → n + length xs ≤ length l → part ≡ sets (take (length l - n) (drop n l)) 0 xs
    → take n l ++ (part ++ drop (length l - n) (drop n l)) ≡ sets l n xs
part-back n l part xs h e =
    rw (
      e,
      take_rest n l,
      drop-rest n l,
      append-nil,
      sets-eq xs (drop n l) 0 (omega (arith, length-drop n l)),
      sets-eq xs l n h,
      zero-add (length xs),
      drop-drop (length xs) n l,
      append_assoc (take n l) xs (drop (n + length xs) l),
    )
