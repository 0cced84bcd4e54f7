-- Two plan sheets of one network whose settings differ part at the record of the first gate at which these differ: the sheets' order is that of the
-- settings, and the first byte that differs is the first of that record.
-- Assumes nothing.
use Rattle.std.specs.declared.cmp.Ordering.TheVariants.{Equal, Less}
use Prim.Native.Nat.{ℕ, zero, suc, ◌*◌, ◌<◌}
use native.Mathlib.Omega.{arith}
use mathlib.Core.Path.{◌≡◌, refl, sym, ap, ◌∙◌}
use mathlib.Core.Bool.{Bool, true, false, true≢false, false≢true}
use mathlib.Core.List.{List, [], ◌∷◌, ◌++◌}
use lib.Dec.{leb}
use lib.ListN.{length, get_or, take, drop}
use borrow.Author.Tests.{leb-true}
use mathlib.Mathlib.Data.Bool.Basic.{and_elim_left, and_elim_right}
use Rattle.lists.specs.Lists.{every}
use Rattle.network.specs.Settings.{before}
use Rattle.network.proofs.Order.{before-irrefl, before-asym}
use Rattle.file_records.specs.Records.{two_bytes, end_kind}
use Rattle.sheet_format.specs.Sheets.{plan_kind, gate_record, gate_records, sheet_records, plan_sheet}
use Rattle.std.specs.Ordering.{ordering_reverse}
use Rattle.sheet_order.specs.Orders.{setting_order}
use Rattle.sheet_order.specs.Parts.{common_prefix, record_place}
use Rattle.sheet_order.proofs.Prefixes.{prefix_same, order_same, prefix-both, order-both}

-- ---- the order of two settings

pub order-refl : (s : List ℕ) → setting_order s s ≡ Equal
order-refl s = rw (before-irrefl s)

-- Exchanging two settings exchanges their order.
pub order-exchanged : (s t : List ℕ) → setting_order t s ≡ ordering_reverse (setting_order s t)
order-exchanged s t = go (before s t) refl (before t s) refl
  where
    go : (a : Bool) → before s t ≡ a → (b : Bool) → before t s ≡ b → setting_order t s ≡ ordering_reverse (setting_order s t)
    go true e true f = absurd (false≢true (sym (before-asym s t e) ∙ f))
    go true e false f = rw (e, f)
    go false e true f = rw (e, f)
    go false e false f = rw (e, f)

-- ---- two settings of the gates with these numbers, gate by gate up to the first at which they differ

pub data Alongside : List ℕ → List ℕ → List ℕ → Type 0 where
  ended : Alongside [] [] []
  alike : (i x : ℕ) {gs s t : List ℕ} → Alongside gs s t → Alongside (i ∷ gs) (x ∷ s) (x ∷ t)
  drawn-first : (i : ℕ) (gs s t : List ℕ) → Alongside (i ∷ gs) (0 ∷ s) (1 ∷ t)
  turned-first : (i : ℕ) (gs s t : List ℕ) → Alongside (i ∷ gs) (1 ∷ s) (0 ∷ t)

-- a byte is 0 or 1
data Bit : ℕ → Type 0 where
  drawn : Bit 0
  turned : Bit 1

bit : (x : ℕ) → leb x 1 ≡ true → Bit x
bit zero h = drawn
bit (suc zero) h = turned
bit (suc (suc x)) h = let l = leb-true (suc (suc x)) 1 h in absurd (omega (arith, l))

alongside-bits : (i : ℕ) (gs : List ℕ) {x y : ℕ} (s t : List ℕ) → Bit x → Bit y → Alongside gs s t → Alongside (i ∷ gs) (x ∷ s) (y ∷ t)
alongside-bits i gs s t drawn drawn l = alike i 0 l
alongside-bits i gs s t drawn turned l = drawn-first i gs s t
alongside-bits i gs s t turned drawn l = turned-first i gs s t
alongside-bits i gs s t turned turned l = alike i 1 l

pub alongside : (gs s t : List ℕ) → length s ≡ length gs → length t ≡ length gs → every (λ x. leb x 1) s ≡ true → every (λ x. leb x 1) t ≡ true → Alongside gs s t
alongside [] [] [] ls lt bs bt = ended
alongside [] (x ∷ s) t ls lt bs bt = absurd (omega (arith, ls))
alongside [] [] (y ∷ t) ls lt bs bt = absurd (omega (arith, lt))
alongside (i ∷ gs) [] t ls lt bs bt = absurd (omega (arith, ls))
alongside (i ∷ gs) (x ∷ s) [] ls lt bs bt = absurd (omega (arith, lt))
alongside (i ∷ gs) (x ∷ s) (y ∷ t) ls lt bs bt =
    alongside-bits i gs s t (bit x (and_elim_left (leb x 1) _ bs)) (bit y (and_elim_left (leb y 1) _ bt))
    (alongside gs s t (omega (arith, ls)) (omega (arith, lt)) (and_elim_right (leb x 1) _ bs) (and_elim_right (leb y 1) _ bt))

-- settings none of which is earlier are the same
pub equal-settings : {gs s t : List ℕ} → Alongside gs s t → setting_order s t ≡ Equal → s ≡ t
equal-settings ended e = refl
equal-settings (alike i x {gs} {s} {t} l) e = ap (λ u. x ∷ u) (equal-settings l (sym (order_same x s t) ∙ e))
equal-settings (drawn-first i gs s t) e = absurd (true≢false (cc))
equal-settings (turned-first i gs s t) e = absurd (true≢false (cc))

-- ---- the records of both, with the same behind them

module _ (tail : List ℕ) where
  order-records : {gs s t : List ℕ} → Alongside gs s t → setting_order (gate_records gs s ++ tail) (gate_records gs t ++ tail) ≡ setting_order s t
  order-records ended = order-refl tail
  order-records (alike i x {gs} {s} {t} l) = order-both (gate_record i x) (gate_records gs s ++ tail) (gate_records gs t ++ tail) ∙ order-records l ∙ sym (order_same x s t)
  order-records (drawn-first i gs s t) = refl
  order-records (turned-first i gs s t) = refl

  -- where the first is earlier: which gate it is, where the bytes differ, and what the records there say
  record Apart (gs s t : List ℕ) : Type 0 where
    gate : common_prefix s t < length gs
    place : common_prefix (gate_records gs s ++ tail) (gate_records gs t ++ tail) ≡ 3 * common_prefix s t
    early : take 3 (drop (3 * common_prefix s t) (gate_records gs s ++ tail)) ≡ gate_record (get_or gs (common_prefix s t) 0) 0
    late : take 3 (drop (3 * common_prefix s t) (gate_records gs t ++ tail)) ≡ gate_record (get_or gs (common_prefix s t) 0) 1

  -- one record more in front of both
  apart_more : (i x : ℕ) {gs s t : List ℕ} → Apart gs s t → Apart (i ∷ gs) (x ∷ s) (x ∷ t)
  apart_more i x {gs} {s} {t} a =
      let p = prefix_same x s t in
      let n : 3 * common_prefix (x ∷ s) (x ∷ t) ≡ suc (suc (suc (3 * common_prefix s t))) = omega (arith, p) in
      record {
        gate = omega (arith, p, a.gate);
        place = prefix-both (gate_record i x) (gate_records gs s ++ tail) (gate_records gs t ++ tail) ∙ omega (arith, n, a.place);
        early = rw (n, p) a.early;
        late = rw (n, p) a.late;
      }

  apart : {gs s t : List ℕ} → Alongside gs s t → setting_order s t ≡ Less → Apart gs s t
  apart ended e = absurd (true≢false (cc))
  apart (alike i x {gs} {s} {t} l) e = apart_more i x (apart l (sym (order_same x s t) ∙ e))
  apart (drawn-first i gs s t) e = record { gate = omega arith; place = refl; early = refl; late = refl }
  apart (turned-first i gs s t) e = absurd (true≢false (cc))

-- ---- whole sheets

abbrev head : List ℕ → List ℕ
head gs = plan_kind ∷ two_bytes (length gs)

pub order-sheets : {gs s t : List ℕ} → Alongside gs s t → setting_order (plan_sheet gs s) (plan_sheet gs t) ≡ setting_order s t
order-sheets {gs} {s} {t} l = order-both (head gs) (sheet_records gs s) (sheet_records gs t) ∙ order-records (end_kind ∷ []) l

-- where the first is earlier
pub record SheetsApart (gs s t : List ℕ) : Type 0 where
  pub gate : common_prefix s t < length gs
  pub place : common_prefix (plan_sheet gs s) (plan_sheet gs t) ≡ record_place (common_prefix s t)
  pub early : take 3 (drop (record_place (common_prefix s t)) (plan_sheet gs s)) ≡ gate_record (get_or gs (common_prefix s t) 0) 0
  pub late : take 3 (drop (record_place (common_prefix s t)) (plan_sheet gs t)) ≡ gate_record (get_or gs (common_prefix s t) 0) 1

pub sheets-apart : {gs s t : List ℕ} → Alongside gs s t → setting_order s t ≡ Less → SheetsApart gs s t
sheets-apart {gs} {s} {t} l e =
    let a = apart (end_kind ∷ []) l e in
    let n : record_place (common_prefix s t) ≡ suc (suc (suc (3 * common_prefix s t))) = omega arith in
    record {
      gate = a.gate;
      place = prefix-both (head gs) (sheet_records gs s) (sheet_records gs t) ∙ omega (arith, a.place);
      early = rw n a.early;
      late = rw n a.late;
    }
