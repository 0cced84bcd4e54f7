-- Bytes that are stored one after the other: a record, a table's records; and their lengths.
-- Assumes nothing.
use Prim.Native.Nat.{ℕ, zero, suc, ◌+◌, ◌*◌, ◌≤◌, ◌<◌}
use native.Mathlib.Numerals.{add-one}
use native.Mathlib.Omega.{arith}
use mathlib.Core.Path.{◌≡◌, refl, sym, ap, ◌∙◌}
use mathlib.Core.Bool.{cond}
use mathlib.Core.List.{List, [], ◌∷◌, ◌++◌, append-nil, append_assoc}
use mathlib.Core.Logic.{◌⊎◌, inl, inr}
use lib.ListN.{length, get_or, take, drop, set, length-append, take-append-drop}
use lib.Seq.{sets, take-suc, take_all}
use Rattle.network.specs.declared.State.{State}
use Rattle.network.specs.declared.State.TheVariants.{InService, Shut}
use Rattle.network.specs.declared.Reach.{Reach}
use Rattle.network.specs.Networks.{Network, in_service, kind_in}
use Rattle.network.specs.Bridges.{no_reach}
use Rattle.network.specs.Tables.{state_of, table_of}
use Rattle.network.proofs.Networks.{state-in-service, state-shut}
use Rattle.tables.proofs.Laws.{reach_of_numbers, table_at}
use Rattle.file_records.specs.Records.{two_bytes}
use Rattle.netfile_format.specs.Files.{reach_kind, state_record, reach_record, reach_records, file_of}
use Rattle.netfile_format.specs.Answers.{state_length}
use Rattle.lists.proofs.Lists.{sets-after, sets-long}
use Rattle.netfile_format.proofs.Files.{length-file}

-- ---- one record, by the number of the reach's state

pub other-kinds : (k : ℕ) → ((k ≡ 0) ⊎ (k ≡ 3) → ⊥) → ((k ≡ 1) ⊎ (k ≡ 4) → ⊥) → 4 ≡ reach_kind (kind_in (state_of k))
other-kinds zero p q = absurd (p (inl refl))
other-kinds (suc zero) p q = absurd (q (inl refl))
other-kinds (suc (suc zero)) p q = refl
other-kinds (suc (suc (suc zero))) p q = absurd (p (inr refl))
other-kinds (suc (suc (suc (suc zero)))) p q = absurd (q (inr refl))
other-kinds (suc (suc (suc (suc (suc k))))) p q = refl

record-in : (s : State) (ends : List ℕ) → state_record s ends ≡ cond (in_service s) (reach_kind (kind_in s) ∷ ends) (5 ∷ (ends ++ (reach_kind (kind_in s) ∷ [])))
record-in (InService k) ends = refl
record-in (Shut k) ends = refl

length-record : (r : Reach) → length (reach_record r) ≡ state_length r.state
length-record r = go r.state
  where
    go : (s : State) → length (state_record s (two_bytes r.a ++ two_bytes r.b)) ≡ state_length s
    go (InService k) = refl
    go (Shut k) = refl

-- it has at most six bytes
state-small : (s : State) → state_length s ≤ 6
state-small (InService k) = omega arith
state-small (Shut k) = omega arith

-- a kind byte and two ends, stored one after the other
pub put-ends :
    (l l₁ l₂ : List ℕ) (at k a b : ℕ) → l₁ ≡ sets (set l at k) (at + 1) (two_bytes a) → l₂ ≡ sets l₁ (at + 3) (two_bytes b)
    → l₂ ≡ sets l at (k ∷ (two_bytes a ++ two_bytes b))
put-ends l l₁ l₂ at k a b p q =
    q
    ∙ ap (λ m. sets m (at + 3) (two_bytes b)) (p ∙ sets-after l at (at + 1) (k ∷ []) (two_bytes a) (omega arith))
    ∙ sets-after l at (at + 3) (k ∷ two_bytes a) (two_bytes b) (omega arith)

module _ (l l₁ : List ℕ) (at k kind a b : ℕ) (e : k ≡ reach_kind (kind_in (state_of kind))) where
  abbrev ends : List ℕ
  ends = two_bytes a ++ two_bytes b

  pub put-in-service : kind < 3 → l₁ ≡ sets l at (k ∷ ends) → l₁ ≡ sets l at (reach_record (reach_of_numbers kind a b))
  put-in-service h p =
      let is : k ∷ ends ≡ reach_record (reach_of_numbers kind a b) = rw (record-in (state_of kind) ends, state-in-service kind h, e) in
      p ∙ ap (sets l at) is

  pub put-shut : 3 ≤ kind → l₁ ≡ sets l at (5 ∷ ends) → set l₁ (at + 5) k ≡ sets l at (reach_record (reach_of_numbers kind a b))
  put-shut h p =
      let is : (5 ∷ ends) ++ (k ∷ []) ≡ reach_record (reach_of_numbers kind a b) = rw (record-in (state_of kind) ends, state-shut kind h, e) in
      ap (λ m. set m (at + 5) k) p ∙ sets-after l at (at + 5) (5 ∷ ends) (k ∷ []) (omega arith) ∙ ap (sets l at) is

-- ---- the records of a table

records-append : (s t : List Reach) → reach_records (s ++ t) ≡ reach_records s ++ reach_records t
records-append [] t = refl
records-append (r ∷ s) t = ap (λ l. reach_record r ++ l) (records-append s t) ∙ sym (append_assoc (reach_record r) (reach_records s) (reach_records t))

module _ (ks ys zs : List ℕ) (i : ℕ) (l : i < length (table_of ks ys zs)) where
  abbrev t : List Reach
  t = table_of ks ys zs

  abbrev r : Reach
  r = reach_of_numbers (get_or ks i 0) (get_or ys i 0) (get_or zs i 0)

  -- those of the first reaches, with one more
  records-more : reach_records (take (i + 1) t) ≡ reach_records (take i t) ++ reach_record r
  records-more = rw (add-one, take-suc t i no_reach l, table_at i ks ys zs l) (records-append (take i t) (r ∷ []) ∙ ap (λ x. reach_records (take i t) ++ x) (append-nil (reach_record r)))

  length_more : length (reach_records (take (i + 1) t)) ≡ length (reach_records (take i t)) + state_length (state_of (get_or ks i 0))
  length_more = ap length records-more ∙ length-append (reach_records (take i t)) (reach_record r) ∙ ap (λ m. length (reach_records (take i t)) + m) (length-record r)

length_front : (t : List Reach) (i : ℕ) → length (reach_records (take i t)) ≤ length (reach_records t)
length_front t i =
    omega
    (arith, ap (λ u. length (reach_records u)) (take-append-drop i t), ap length (records-append (take i t) (drop i t)), length-append (reach_records (take i t)) (reach_records (drop i t)))

-- the buffer after the first i reaches of a table
pub record PuttingReaches (t : List Reach) (out₀ out : List ℕ) (i at : ℕ) : Type 0 where
  pub place : at ≡ 3 + length (reach_records (take i t))
  pub below : i ≤ length t
  pub bytes : out ≡ sets out₀ 3 (reach_records (take i t))
  pub long : length out ≡ length out₀

pub putting-none : (t : List Reach) (out : List ℕ) → PuttingReaches t out out 0 3
putting-none t out = record { place = omega arith; below = omega arith; bytes = refl; long = refl }

module _ (ks ys zs : List ℕ) {out₀ out : List ℕ} {i at : ℕ} (p : PuttingReaches (table_of ks ys zs) out₀ out i at) (l : i < length (table_of ks ys zs)) where
  pub putting-fits : 3 + length (reach_records (table_of ks ys zs)) < length out₀ → at + state_length (state_of (get_or ks i 0)) < length out
  putting-fits h = omega (arith, p.place, p.long, length_more ks ys zs i l, length_front (table_of ks ys zs) (i + 1))

  pub putting-more :
      (out' : List ℕ) (m : ℕ) → out' ≡ sets out at (reach_record (reach_of_numbers (get_or ks i 0) (get_or ys i 0) (get_or zs i 0))) → m ≡ state_length (state_of (get_or ks i 0))
      → PuttingReaches (table_of ks ys zs) out₀ out' (i + 1) (at + m)
  putting-more out' m e q =
      record {
        place = omega (arith, p.place, length_more ks ys zs i l);
        below = omega arith;
        bytes =
            e
            ∙ ap (λ o. sets o at (reach_record (r ks ys zs i l))) p.bytes
            ∙ sets-after out₀ 3 at (reach_records (take i (table_of ks ys zs))) (reach_record (r ks ys zs i l)) p.place
            ∙ ap (sets out₀ 3) (sym (records-more ks ys zs i l));
        long = sets-long out out' at (reach_record (r ks ys zs i l)) e ∙ p.long;
      }

pub putting-all :
    (t : List Reach) (out₀ out : List ℕ) (i at : ℕ) → PuttingReaches t out₀ out i at → length t ≤ i → out ≡ sets out₀ 3 (reach_records t)
putting-all t out₀ out i at p l = p.bytes ∙ rw (take_all i t l)

-- the length of a file that ends after the first i reaches of a table
pub record Measuring (t : List Reach) (i size : ℕ) : Type 0 where
  pub is : size ≡ 4 + length (reach_records (take i t))
  pub below : i ≤ length t
  pub small : size ≤ 4 + 6 * i

pub measuring-none : (t : List Reach) → Measuring t 0 4
measuring-none t = record { is = omega arith; below = omega arith; small = omega arith }

pub measuring-more :
    (ks ys zs : List ℕ) {i size : ℕ} → Measuring (table_of ks ys zs) i size → i < length (table_of ks ys zs) → (m : ℕ) → m ≡ state_length (state_of (get_or ks i 0))
    → Measuring (table_of ks ys zs) (i + 1) (size + m)
measuring-more ks ys zs {i} p l m e =
    record { is = omega (arith, p.is, length_more ks ys zs i l); below = omega arith; small = omega (arith, p.small, state-small (state_of (get_or ks i 0))) }

pub measuring-all : (N : Network) (i size : ℕ) → Measuring N.reaches i size → length N.reaches ≤ i → size ≡ length (file_of N)
measuring-all N i size p l = p.is ∙ rw (take_all i N.reaches l) (sym (length-file N))
