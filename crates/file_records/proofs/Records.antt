-- Laws of file records: kinds and their bodies, two-byte values, and the record at the front of a file.
-- Assumes nothing.
use Rattle.std.specs.Prelude.{Some, None}
use Prim.Native.Nat.{ℕ, zero, suc, ◌≤◌, ◌<◌}
use native.Mathlib.Omega.{arith}
use mathlib.Core.Path.{◌≡◌, refl, ap, ◌∙◌}
use mathlib.Core.Bool.{true}
use mathlib.Core.List.{List, [], ◌∷◌, ◌++◌}
use lib.ListN.{length, get_or, take, drop, length-drop}
use lib.Seq.{drop-drop}
use lib.Pow.{are_bytes}
use lib.Dec.{ltb, leb}
use borrow.Author.Tests.{ne_eqb, ltb-true, leb-true, lt-ltb}
use Rattle.lists.proofs.Words.{high_byte, low_byte}
use mathlib.Mathlib.Data.Bool.Basic.{and_elim_left, and_elim_right, and_intro}
use Rattle.lists.specs.Lists.{every}
use Rattle.lists.specs.Words.{word_of}
use Rattle.file_records.specs.Records.{lookup, bodies, body_of, two_bytes}

-- a number above all of a table's is not in it
lookup-above : (k m : ℕ) (t : List (ℕ × ℕ)) → every (λ e. leb e.0 m) t ≡ true → m < k → lookup k t ≡ None
lookup-above k m [] h l = refl
lookup-above k m (e ∷ t) h l =
    let here : e.0 ≤ m = leb-true _ _ (and_elim_left (leb e.0 m) _ h) in
    rw (ne_eqb k e.0 (λ q. omega arith), lookup) (lookup-above k m t (and_elim_right (leb e.0 m) _ h) l)

-- kinds over 31 have no body
pub body-above : (k : ℕ) → 31 < k → body_of k ≡ None
unfolding body_of
body-above k l = lookup-above k 31 bodies refl l

pub body_end : body_of 9 ≡ Some 0
unfolding body_of
body_end = refl

-- what a number's two bytes are read as
pub word_bytes : (n : ℕ) → word_of (two_bytes n) ≡ n
word_bytes n = omega arith

-- the bytes of a file, and of what is left of it
pub byte_at : (f : List ℕ) (i : ℕ) → are_bytes f ≡ true → i < length f → get_or f i 0 < 256
byte_at [] i b l = absurd (omega arith)
byte_at (x ∷ f) zero b l = ltb-true x 256 (and_elim_left (ltb x 256) _ b)
byte_at (x ∷ f) (suc i) b l = byte_at f i (and_elim_right (ltb x 256) _ b) (omega arith)

pub bytes_drop : (i : ℕ) (f : List ℕ) → are_bytes f ≡ true → are_bytes (drop i f) ≡ true
bytes_drop zero f b = b
bytes_drop (suc i) [] b = b
bytes_drop (suc i) (x ∷ f) b = bytes_drop i f (and_elim_right (ltb x 256) _ b)

pub bytes-make : (f : List ℕ) → ((i : ℕ) → get_or f i 0 < 256) → are_bytes f ≡ true
bytes-make [] h = refl
bytes-make (x ∷ f) h = and_intro (lt-ltb x 256 (h 0)) (bytes-make f (λ i. h (suc i)))

-- two bytes are those of the value that they are read as
pub two-again : (f : List ℕ) → are_bytes f ≡ true → 2 ≤ length f → f ≡ two_bytes (word_of (take 2 f)) ++ drop 2 f
two-again [] b l = absurd (omega arith)
two-again (x ∷ []) b l = absurd (omega arith)
two-again (x ∷ y ∷ f) b l =
    let p : x < 256 = byte_at (x ∷ y ∷ f) 0 b (omega arith) in
    cc (low_byte x y p, high_byte x y p)

-- three bytes are the kind and the value that they are read as
pub three-again :
    (k : ℕ) (f rest : List ℕ) → are_bytes f ≡ true → 3 ≤ length f → f ≡ k ∷ drop 1 f → drop 3 f ≡ rest
    → f ≡ k ∷ (two_bytes (word_of (take 2 (drop 1 f))) ++ rest)
three-again k f rest b l s e =
    s
    ∙ ap (λ g. k ∷ g)
    (two-again (drop 1 f) (bytes_drop 1 f b) (omega (arith, length-drop 1 f)) ∙ ap (λ g. two_bytes (word_of (take 2 (drop 1 f))) ++ g) (drop-drop 2 1 f ∙ e))
