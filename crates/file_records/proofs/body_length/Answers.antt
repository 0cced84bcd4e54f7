-- `file_records::body_length` meets its contract: the table's rule is one test, computed over all of its thirty-two entries.
-- Assumes nothing.
use Rattle.std.specs.Prelude.{Some, None, Option}
use Prim.Native.Nat.{ℕ, ◌≤◌, ◌<◌}
use native.Mathlib.Omega.{arith}
use mathlib.Core.Path.{◌≡◌, refl, ap}
use mathlib.Core.Bool.{Bool, true, ◌&&◌}
use mathlib.Core.List.{List, [], ◌∷◌}
use lib.Dec.{eqb, ltb}
use lib.ListN.{get_or}
use borrow.Author.Tests.{eqb-true, ltb-true}
use mathlib.Mathlib.Data.Bool.Basic.{and_elim_left, and_elim_right}
use Rattle.lists.specs.Lists.{range}
use Rattle.lists.proofs.Searches.{every-at}
use Rattle.lists.proofs.Ranges.{range-has}
use Rattle.file_records.specs.Records.{body_of}
use Rattle.file_records.proofs.Records.{body-above}
use Rattle.file_records.proofs.body_length.Goals as goal

-- the entries of `BODY`
abbrev table : List ℕ
table =
    255 ∷ 2 ∷ 4 ∷ 4 ∷ 4 ∷ 5 ∷ 255 ∷ 255 ∷ 255 ∷ 0 ∷ 255 ∷ 255 ∷ 255 ∷ 255 ∷ 255 ∷ 255 ∷ 2 ∷ 2 ∷ 2 ∷ 255 ∷ 32 ∷ 34 ∷ 255 ∷ 255 ∷ 255 ∷ 255
    ∷ 255 ∷ 255 ∷ 255 ∷ 255 ∷ 255 ∷ 255 ∷ []

-- an entry stands for a body length, 255 for none
stands : Option ℕ → ℕ → Bool
stands None x = eqb x 255
stands (Some n) x = eqb x n && ltb n 255

rule : (k : ℕ) → k ≤ 31 → stands (body_of k) (get_or table k 0) ≡ true
unfolding body_of stands
rule k l = every-at (λ j. stands (body_of j) (get_or table j 0)) {x = k} {xs = range 0 32} refl (range-has 0 32 (omega arith) (omega arith))

unknown : (o : Option ℕ) (x : ℕ) → stands o x ≡ true → x ≡ 255 → None ≡ o
unfolding stands
unknown None x h e = refl
unknown (Some n) x h e =
    let same : x ≡ n = eqb-true x n (and_elim_left (eqb x n) _ h) in
    let small : n < 255 = ltb-true n 255 (and_elim_right (eqb x n) _ h) in
    absurd (omega arith)

known : (o : Option ℕ) (x : ℕ) → stands o x ≡ true → (x ≡ 255 → ⊥) → Some x ≡ o
unfolding stands
known None x h e = absurd (e (eqb-true x 255 h))
known (Some n) x h e = ap Some (eqb-true x n (and_elim_left (eqb x n) _ h))

pub returns-then-kind-gt31 : goal.returns-then-kind-gt31
returns-then-kind-gt31 c = rw (body-above _ c.if-kind-gt31.true)

pub returns-then-n : goal.returns-then-n
returns-then-n c = unknown _ _ (rule _ c.if-kind-gt31.false) c.if-n.true

pub returns-else-n : goal.returns-else-n
returns-else-n c = known _ _ (rule _ c.if-kind-gt31.false) c.if-n.false
