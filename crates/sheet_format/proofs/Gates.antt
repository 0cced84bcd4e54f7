-- The gated reaches of a row of kinds, one after the other, and those of a table.
-- Assumes nothing.
use Prim.Native.Nat.{ℕ, suc, ◌+◌, ◌≤◌, ◌<◌}
use native.Mathlib.Numerals.{add-one}
use native.Mathlib.Omega.{arith}
use mathlib.Core.Path.{◌≡◌, refl, ap, ◌∙◌}
use mathlib.Core.Bool.{cond}
use mathlib.Core.List.{List, [], ◌∷◌}
use lib.ListN.{length, get_or, take, drop_of_length-le}
use lib.Seq.{drop-cons}
use Rattle.network.proofs.Networks.{not-gated}
use Rattle.lists.proofs.Lists.{length-cond, length-cond-le}
use Rattle.network.specs.Tables.{state_of, table_of}
use Rattle.network.specs.Settings.{is_gated, gates_from}
use Rattle.tables.specs.Rows.{gates_in}
use Rattle.sheet_format.specs.Rows.{gates_row, due, NextGate}

-- the gated reaches of a table, by the kinds that it has
pub gates-row : (i : ℕ) (ks xs ys : List ℕ) → gates_row i (take (length (table_of ks xs ys)) ks) ≡ gates_from i (table_of ks xs ys)
gates-row i [] xs ys = refl
gates-row i (k ∷ ks) [] ys = refl
gates-row i (k ∷ ks) (x ∷ xs) [] = refl
gates-row i (k ∷ ks) (x ∷ xs) (y ∷ ys) = ap (λ l. cond (is_gated (state_of k)) (i ∷ l) l) (gates-row (suc i) ks xs ys)

pub gates-few : (i : ℕ) (ks : List ℕ) → length (gates_row i ks) ≤ length ks
gates-few i [] = omega arith
gates-few i (k ∷ ks) = length-cond-le (is_gated (state_of k)) i (gates_row (suc i) ks) (length ks) (gates-few (suc i) ks)

pub count-row : (i : ℕ) (ks : List ℕ) → length (gates_row i ks) ≡ gates_in ks
count-row i [] = refl
count-row i (k ∷ ks) = length-cond (is_gated (state_of k)) i (gates_row (suc i) ks) (count-row (suc i) ks)

-- from reach i on: reach i first, if it is gated
due-gate : (ks : List ℕ) (i : ℕ) → i < length ks → get_or ks i 0 ≡ 0 → due ks i ≡ i ∷ due ks (suc i)
due-gate ks i l e = rw (drop-cons ks i 0 l, e)

due-other : (ks : List ℕ) (i : ℕ) → i < length ks → (get_or ks i 0 ≡ 0 → ⊥) → due ks i ≡ due ks (i + 1)
due-other ks i l n = rw (drop-cons ks i 0 l, not-gated (get_or ks i 0) n, add-one)

due-none : (ks : List ℕ) (i : ℕ) → length ks ≤ i → due ks i ≡ []
due-none ks i l = rw (drop_of_length-le ks l)

-- the search for the next gated reach: none was passed
pub record GatesPassed (ks : List ℕ) (from i : ℕ) : Type 0 where
  pub below : i ≤ length ks
  pub same : due ks from ≡ due ks i

pub gates-passed-none : (ks : List ℕ) (i : ℕ) → i ≤ length ks → GatesPassed ks i i
gates-passed-none ks i l = record { below = l; same = refl }

module _ (ks : List ℕ) (from i : ℕ) (p : GatesPassed ks from i) where
  pub gates-passed-more : i < length ks → (get_or ks i 0 ≡ 0 → ⊥) → GatesPassed ks from (i + 1)
  gates-passed-more l n = record { below = omega arith; same = p.same ∙ due-other ks i l n }

  pub gates-passed-to : i < length ks → get_or ks i 0 ≡ 0 → NextGate ks from i
  gates-passed-to l e = record { below = p.below; is-next = λ _. p.same ∙ due-gate ks i l e; none_left = λ h. absurd (omega arith) }

  pub gates-passed-all : length ks ≤ i → NextGate ks from i
  gates-passed-all l = record { below = p.below; is-next = λ h. absurd (omega arith); none_left = λ _. p.same ∙ due-none ks i l }
