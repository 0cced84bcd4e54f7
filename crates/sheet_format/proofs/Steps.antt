-- One record of a plan sheet: what it does to the reading.
-- Assumes nothing.
use Rattle.std.specs.Prelude.{Err, Ok}
use Prim.Native.Nat.{ℕ, ◌≤◌}
use native.Mathlib.Omega.{arith}
use mathlib.Core.Path.{◌≡◌, ap, ◌∙◌}
use mathlib.Core.Bool.{cond}
use mathlib.Core.List.{List, [], ◌∷◌}
use lib.ListN.{length, take, drop}
use lib.Seq.{drop-drop}
use lib.Dec.{eqb}
use borrow.Author.Tests.{ne_eqb}
use Rattle.network.specs.declared.Refusal.{Refusal}
use Rattle.network.specs.declared.Refusal.TheVariants.{BadSetting}
use Rattle.lists.specs.Words.{word_of}
use Rattle.file_records.specs.Records.{body_of, broken, whole, take_record, taken_answer}
use Rattle.file_records.proofs.Records.{body_end}
use Rattle.file_records.proofs.Taking.{broken-is, Stands, stands, same_size}
use Rattle.sheet_format.specs.Readings.{plan_head_due, gate_due, sheet_refused, at_sheet_end, byte_in, with_byte, read_gates, read_count, read_records}
use Rattle.sheet_format.proofs.Marking.{orientation, sheet-comes-first, body-oriented, body-plan}

-- a whole record of kind k stands at the front of the bytes, after the head
abbrev pub GateStood : List ℕ → ℕ → Type 0
GateStood f k = taken_answer (take_record gate_due f) ≡ Ok k

module _ (f : List ℕ) where
  pub sheet-step-broken : (gs : List ℕ) (r : Refusal) → taken_answer (take_record gate_due f) ≡ Err r → read_gates gs f ≡ sheet_refused r
  unfolding read_gates
  sheet-step-broken gs r e = go gs
    where
      is : take_record gate_due f ≡ broken r
      is = broken-is (take_record gate_due f) r e

      go : (gs : List ℕ) → read_gates gs f ≡ sheet_refused r
      go [] = rw is
      go (i ∷ gs) = rw is

  -- the end
  module _ (e : GateStood f 9) where
    ended : take_record gate_due f ≡ whole 9 (take 0 (drop 1 f)) (drop 0 (drop 1 f))
    ended =
        let s = stands gate_due f 9 e in
        let none_left : s.size ≡ 0 = same_size s.sized body_end in
        rw none_left at s.taken

    pub sheet-step-end : read_gates [] f ≡ at_sheet_end (drop 1 f)
    unfolding read_gates
    sheet-step-end = rw ended

    pub sheet-step-early : (i : ℕ) (gs : List ℕ) → read_gates (i ∷ gs) f ≡ sheet_refused BadSetting
    unfolding read_gates
    sheet-step-early i gs = rw ended

-- a gated reach stands at the front: it fits, and how the reading goes on
pub record GateStep (f : List ℕ) (k : ℕ) : Type 0 where
  pub fits : 3 ≤ length f
  pub over : read_gates [] f ≡ sheet_refused BadSetting
  pub next :
      (i : ℕ) (gs : List ℕ)
      → read_gates (i ∷ gs) f ≡ cond (eqb (word_of (take 2 (drop 1 f))) i) (with_byte (byte_in k) (read_gates gs (drop 3 f))) (sheet_refused BadSetting)

pub gate-step :
    (f : List ℕ) (k : ℕ) → 3 ≤ length f → take_record gate_due f ≡ whole k (take 2 (drop 1 f)) (drop 2 (drop 1 f)) → (k ≡ 9 → ⊥) → GateStep f k
unfolding read_gates
gate-step f k l t q = record { fits = l; over = rw (t, ne_eqb k 9 q); next = λ i gs. rw (t, ne_eqb k 9 q, drop-drop 2 1 f) }

pub gate-front : (f : List ℕ) (k : ℕ) → GateStood f k → (k ≡ 9 → ⊥) → GateStep f k
gate-front f k e q = gate-step f k (omega (arith, s.long, two)) (rw two at s.taken) q
  where
    s : Stands gate_due f k
    s = stands gate_due f k e

    two : s.size ≡ 2
    two = same_size s.sized (body-oriented k (orientation k q s.comes))

-- the head stands at the front: it fits, and how the reading goes on
pub record PlanHeadStep (gs f : List ℕ) : Type 0 where
  pub fits : 3 ≤ length f
  pub next : read_records gs f ≡ read_count gs (word_of (take 2 (drop 1 f))) (drop 3 f)

pub sheet-head-step :
    (gs f : List ℕ) (k : ℕ) → 3 ≤ length f → take_record plan_head_due f ≡ whole k (take 2 (drop 1 f)) (drop 2 (drop 1 f)) → PlanHeadStep gs f
unfolding read_records
sheet-head-step gs f k l t = record { fits = l; next = rw (t, drop-drop 2 1 f) }

pub sheet-head-at : (gs f : List ℕ) (k : ℕ) → taken_answer (take_record plan_head_due f) ≡ Ok k → PlanHeadStep gs f
sheet-head-at gs f k e = sheet-head-step gs f k (omega (arith, s.long, two)) (rw two at s.taken)
  where
    s : Stands plan_head_due f k
    s = stands plan_head_due f k e

    two : s.size ≡ 2
    two = same_size s.sized (ap body_of (sheet-comes-first k s.comes) ∙ body-plan)

pub sheet-head-broken : (gs f : List ℕ) (r : Refusal) → taken_answer (take_record plan_head_due f) ≡ Err r → read_records gs f ≡ sheet_refused r
unfolding read_records
sheet-head-broken gs f r e = rw (broken-is (take_record plan_head_due f) r e)
