-- Marks: a set of basins as bytes, and the count of marked basins.
-- Assumes nothing.
use Rattle.std.specs.Prelude.{ℕ, zero, suc, ◌+◌, ◌*◌, ◌/◌, ◌%◌, Bool, true, false, List, [], ◌∷◌, map, get_or, eqb}
use Rattle.std.specs.Int.Count.{ones}
use Rattle.lists.specs.Lists.{range, elem}

-- "9 and 10 write the 32 bytes of marks."
abbrev pub mark_bytes : ℕ
mark_bytes = 32

abbrev pub bit : Bool → ℕ
bit true = 1
bit false = 0

-- The number whose binary digits are these, lowest first.
abbrev pub binary_of : List Bool → ℕ
binary_of [] = 0
binary_of (x ∷ xs) = bit x + 2 * binary_of xs

-- "Basin b is bit b mod 8, lowest bit first, of byte b div 8; unused bits are 0": byte k of the marks of the basins S.
abbrev pub mark_byte : List ℕ → ℕ → ℕ
mark_byte S k = binary_of (map (λ b. elem b S) (range (8 * k) 8))

unfoldable pub marks_of : List ℕ → List ℕ
marks_of S = map (mark_byte S) (range 0 mark_bytes)

-- Bit j of a number.
abbrev pub bit_at : ℕ → ℕ → Bool
bit_at zero x = eqb (x % 2) 1
bit_at (suc j) x = bit_at j (x / 2)

-- Basin b is marked.
unfoldable pub marked : List ℕ → ℕ → Bool
marked m b = bit_at (b % 8) (get_or m (b / 8) 0)

-- "The count of marked basins is the number of ones in the 32 bytes."
abbrev pub mark_count : List ℕ → ℕ
mark_count [] = 0
mark_count (x ∷ m) = ones x + mark_count m
