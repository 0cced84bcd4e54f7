-- Bytes that are stored one after the other: a gated reach's record, the records of a setting.
-- Assumes nothing.
use Prim.Native.Nat.{ℕ, zero, suc, ◌+◌, ◌*◌, ◌≤◌, ◌<◌}
use native.Mathlib.Omega.{arith}
use mathlib.Core.Path.{◌≡◌, refl, ap, ◌∙◌}
use mathlib.Core.List.{List, [], ◌∷◌, ◌++◌}
use mathlib.Core.Logic.{⊎_elim}
use lib.ListN.{length, get_or, drop, set, drop_of_length-le}
use lib.Seq.{sets, drop-cons}
use lib.Dec.{ltb}
use borrow.Author.Tests.{ltb-true, ltb-false}
use Rattle.lists.proofs.Bools.{decide}
use Rattle.file_records.specs.Records.{two_bytes}
use Rattle.lists.proofs.Lists.{sets-after, sets-long}
use Rattle.sheet_format.specs.Sheets.{gate_kind, gate_record, gate_records}
use Rattle.sheet_format.specs.Rows.{gates_row, due, NextGate, Records}

pub other_byte : (x : ℕ) → (x ≡ 0 → ⊥) → 18 ≡ gate_kind x
other_byte zero n = absurd (n refl)
other_byte (suc x) n = refl

pub put_record :
    (l l₁ : List ℕ) (at k i x : ℕ) → k ≡ gate_kind x → l₁ ≡ sets (set l at k) (at + 1) (two_bytes i) → l₁ ≡ sets l at (gate_record i x)
put_record l l₁ at k i x e p =
    p
    ∙ ap (λ y. sets (set l at y) (at + 1) (two_bytes i)) e
    ∙ sets-after l at (at + 1) (gate_kind x ∷ []) (two_bytes i) (omega arith)

-- ---- the records of a setting, of which the first k are stored; i is past the reach of the last

pub record Recording (ks s out₀ out : List ℕ) (i k : ℕ) : Type 0 where
  pub below : k ≤ length s
  pub within : i ≤ length ks
  pub count : k + length (due ks i) ≡ length s
  pub left : sets out (3 * k) (gate_records (due ks i) (drop k s) ++ (9 ∷ [])) ≡ sets out₀ 0 (gate_records (gates_row 0 ks) s ++ (9 ∷ []))
  pub long : length out ≡ length out₀

pub recording-none : (ks s out₀ : List ℕ) → Records ks s → Recording ks s out₀ out₀ 0 0
recording-none ks s out₀ r =
    record { below = omega arith; within = omega arith; count = let e = r.full in omega arith; left = refl; long = refl }

module _ (ks s out₀ out : List ℕ) (i k : ℕ) (p : Recording ks s out₀ out i k) where
  module _ (r : ℕ) (g : NextGate ks i r) (l : k < length s) where
    -- while a byte is left, so is a gated reach
    pub gate-there : r < length ks
    gate-there =
        ⊎_elim (λ h. ltb-true r (length ks) h)
        (λ h. let e = ap length (g.none_left (ltb-false r (length ks) h)) in let c = p.count in omega arith) (decide (ltb r (length ks)))

    pub recording-more : (out' : List ℕ) → out' ≡ sets out (3 * k) (gate_record r (get_or s k 0)) → Recording ks s out₀ out' (r + 1) (k + 1)
    recording-more out' e =
        let after-r : r + 1 ≡ suc r = omega arith in
        let after-k : k + 1 ≡ suc k = omega arith in
        record {
          below = omega arith;
          within = let q = gate-there in omega arith;
          count = rw after-r (let n = ap length (g.is-next gate-there) in let c = p.count in omega arith);
          left =
              ap (λ o. sets o (3 * (k + 1)) (gate_records (due ks (r + 1)) (drop (k + 1) s) ++ (9 ∷ []))) e
              ∙ sets-after out (3 * k) (3 * (k + 1)) (gate_record r (get_or s k 0)) (gate_records (due ks (r + 1)) (drop (k + 1) s) ++ (9 ∷ [])) (omega arith)
              ∙ rw (after-r, after-k) (rw (g.is-next gate-there, drop-cons s k 0 l) at p.left);
          long = sets-long out out' (3 * k) (gate_record r (get_or s k 0)) e ∙ p.long;
        }

  no_bytes : (gs : List ℕ) → gate_records gs [] ≡ []
  no_bytes [] = refl
  no_bytes (i ∷ gs) = refl

  pub recording-all : length s ≤ k → set out (3 * k) 9 ≡ sets out₀ 0 (gate_records (gates_row 0 ks) s ++ (9 ∷ []))
  recording-all l = rw (drop_of_length-le s l, no_bytes (due ks i)) at p.left
