-- What a sheet that is read comes to, case by case: the working memory, the setting's buffer.
-- Assumes nothing.
use Rattle.std.specs.Prelude.{Err, Ok, Result}
use Prim.Native.Nat.{ℕ, ◌≤◌, ◌<◌}
use native.Mathlib.Nat.{zero-add}
use native.Mathlib.Omega.{arith}
use mathlib.Core.Path.{◌≡◌, refl, sym, ap, subst, ◌∙◌}
use mathlib.Core.Bool.{Bool, true, false, cond, true≢false}
use mathlib.Core.List.{List, ◌++◌}
use mathlib.Core.Option.{some}
use lib.ListN.{length, take, drop, length-take}
use lib.Seq.{sets, sets-eq, length-take-le}
use borrow.Author.Tests.{le-leb, lt-leb}
use Rattle.network.specs.declared.Refusal.{Refusal}
use Rattle.network.specs.declared.Refusal.TheVariants.{ShortBuffer, BadSetting}
use Rattle.network.specs.Networks.{Network, table_fault, Accepted}
use Rattle.network.specs.Settings.{gates}
use Rattle.network.specs.Plans.{is_plan}
use Rattle.sheet_format.specs.Readings.{SheetReading, sheet_refused, sheet_says, read_records, if_plan, read_sheet, sheet_with_room}
use Rattle.sheet_format.specs.Answers.{sheet_answer, setting_read, Got, Held, PlanJudged}
use Rattle.sheet_format.proofs.Scan.{held-refused}

-- ---- what is read into the working memory

pub refused-is : (x : SheetReading) (r : Refusal) → Err r ≡ sheet_answer x → x ≡ sheet_refused r
refused-is (sheet_refused e) r h = cc
refused-is (sheet_says s) r h = cc

-- the setting that was read stands in the first n bytes
pub record Stored (x : SheetReading) (n : ℕ) (held : List ℕ) : Type 0 where
  pub fits : n ≤ length held
  pub is : x ≡ sheet_says (take n held)

stored_of : (x : SheetReading) (n : ℕ) (held : List ℕ) → Ok n ≡ sheet_answer x → take (length (setting_read x)) held ≡ setting_read x → Stored x n held
stored_of (sheet_refused r) n held h b = absurd (true≢false (cc))
stored_of (sheet_says s) n held h b =
    let size : n ≡ length s = cc in
    record { fits = omega (arith, ap length b, length-take (length s) held, size); is = ap sheet_says (sym (rw size b)) }

-- what is read where the answer is known: a refusal, or a setting
module _ {x : SheetReading} {a : Result ℕ Refusal} {held : List ℕ} (h : Held x a held) where
  pub refuses : {r : Refusal} → a ≡ Err r → x ≡ sheet_refused r
  refuses {r} e = refused-is x r (sym e ∙ h.answer)

  pub stored : {n : ℕ} → a ≡ Ok n → Stored x n held
  stored {n} e = stored_of x n held (sym e ∙ h.answer) h.bytes

-- it stands there still once it is judged
still-held :
    (b : Bool) {n : ℕ} {held : List ℕ} {r : Result ℕ Refusal} → n ≤ length held → r ≡ sheet_answer (cond b (sheet_says (take n held)) (sheet_refused BadSetting))
    → Held (cond b (sheet_says (take n held)) (sheet_refused BadSetting)) r held
still-held true {n} {held} l j = record { answer = j; bytes = ap (λ k. take k held) (length-take-le n held l) }
still-held false l j = record { answer = j; bytes = refl }

-- the table is refused, the records are, and the bytes that they say are judged
module _ (N : Network) (f : List ℕ) where
  pub held-table : {r : Refusal} {held : List ℕ} → table_fault N ≡ some r → Held (read_sheet N f) (Err r) held
  unfolding read_sheet
  held-table {r} {held} t = held-refused r held (rw t)

  module _ (ok : Accepted N) {gs : List ℕ} (e : gs ≡ gates N) where
    sheet-is : read_sheet N f ≡ if_plan N (read_records gs f)
    unfolding read_sheet
    sheet-is = rw (ok, e)

    module _ {a : Result ℕ Refusal} {held : List ℕ} (h : Held (read_records gs f) a held) where
      pub held-torn : {r : Refusal} → a ≡ Err r → Held (read_sheet N f) (Err r) held
      held-torn {r} d = held-refused r held (sheet-is ∙ ap (if_plan N) (refuses h d))

      pub held-judged : {n : ℕ} → a ≡ Ok n → {r : Result ℕ Refusal} → PlanJudged N (take n held) r → Held (read_sheet N f) r held
      held-judged {n} d j = rw (sheet-is, (stored h d).is) (still-held (is_plan N (take n held)) (stored h d).fits (rw ok at j))

-- ---- what is left in the buffer

pub got-refused : {x : SheetReading} (setting : List ℕ) (r : Refusal) → x ≡ sheet_refused r → Got x setting (Err r) setting
got-refused setting r e = rw e (record { answer = refl; number = refl; bytes = refl })

-- the bytes that a sheet says, by the room
module _ (s setting : List ℕ) where
  pub got-short : length setting < length s → Got (sheet_with_room (length setting) (sheet_says s)) setting (Err ShortBuffer) setting
  got-short l = got-refused setting ShortBuffer (rw (lt-leb (length s) (length setting) l))

  pub got-whole : {setting' : List ℕ} → length s ≤ length setting → setting' ≡ sets setting 0 s → Got (sheet_with_room (length setting) (sheet_says s)) setting (Ok (length s)) setting'
  got-whole l q =
      rw (le-leb (length s) (length setting) l) (record {
        answer = refl;
        number = refl;
        bytes = q ∙ sets-eq s setting 0 (omega arith) ∙ ap (λ n. s ++ drop n setting) (zero-add (length s));
      })

-- a sheet, by what the working memory holds
module _ {x : SheetReading} (setting : List ℕ) {a : Result ℕ Refusal} {held : List ℕ} (h : Held x a held) where
  pub got-none : {r : Refusal} → a ≡ Err r → Got (sheet_with_room (length setting) x) setting (Err r) setting
  got-none {r} e = got-refused setting r (ap (sheet_with_room (length setting)) (refuses h e))

  pub got-held :
      {n : ℕ} → a ≡ Ok n → {r : Result ℕ Refusal} {setting' : List ℕ} → Got (sheet_with_room (length setting) (sheet_says (take n held))) setting r setting'
      → Got (sheet_with_room (length setting) x) setting r setting'
  got-held e {r} {setting'} = subst (λ y. Got (sheet_with_room (length setting) y) setting r setting') (sym (stored h e).is)
