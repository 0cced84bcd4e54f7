-- A plan's sheet is read as it is written, and written as it is read; what is read is a plan.
-- Assumes nothing.
use Rattle.std.specs.Prelude.{Err, Ok, Result}
use Prim.Native.Nat.{ℕ, zero, suc, ◌+◌, ◌*◌}
use native.Mathlib.Omega.{arith}
use mathlib.Core.Path.{◌≡◌, refl, sym, ap, ◌∙◌}
use mathlib.Core.Bool.{Bool, true, false, cond, true≢false}
use mathlib.Core.List.{List, [], ◌∷◌, ◌++◌}
use mathlib.Core.Option.{Option, none, some}
use mathlib.Core.Logic.{inl, inr}
use lib.ListN.{length, take, drop, length-append}
use lib.Dec.{leb, eqb}
use borrow.Author.Tests.{leb-true, eqb-true, eqb-false, eq-eqb}
use mathlib.Mathlib.Data.Bool.Basic.{and_elim_left, and_elim_right}
use Rattle.network.specs.declared.Refusal.{Refusal}
use Rattle.network.specs.declared.Refusal.TheVariants.{TrailingBytes, BadSetting}
use Rattle.lists.specs.Lists.{every}
use Rattle.network.specs.Networks.{Network, Accepted, table_fault}
use Rattle.network.specs.Settings.{gates, gate_count, is_setting}
use Rattle.network.specs.Plans.{is_plan}
use Rattle.lists.specs.Words.{word_of}
use Rattle.network.proofs.Order.{setting-length, plan-setting}
use Rattle.file_records.specs.Records.{body_of, two_bytes, whole, take_record, taken_answer}
use lib.Pow.{are_bytes}
use Rattle.file_records.proofs.Records.{word_bytes, bytes_drop, three-again}
use Rattle.file_records.proofs.Taking.{stands, value_taken}
use Rattle.sheet_format.specs.Sheets.{gate_kind, gate_record, gate_records, plan_sheet, sheet_of}
use Rattle.sheet_format.specs.Readings.{plan_head_due, gate_due, SheetReading, sheet_refused, sheet_says, at_sheet_end, byte_in, with_byte, read_gates, read_count, read_records, if_plan, unless_fault, read_sheet}
use Rattle.sheet_format.proofs.Marking.{orientation, sheet-comes-first, body-oriented, body-plan, kind-again}
use Rattle.sheet_format.proofs.Steps.{GateStood, sheet-step-broken, sheet-step-end, sheet-step-early, GateStep, gate-step, gate-front, sheet-head-step, sheet-head-at, sheet-head-broken}

-- ---- what is written is read again

-- a gated reach's record stands at the front of its bytes
gate-taken : (i x : ℕ) (rest : List ℕ) → take_record gate_due (gate_record i x ++ rest) ≡ whole (gate_kind x) (two_bytes i) rest
gate-taken i zero rest = value_taken gate_due 17 i rest refl (body-oriented 17 (inl refl))
gate-taken i (suc x) rest = value_taken gate_due 18 i rest refl (body-oriented 18 (inr refl))

oriented-no-end : (x : ℕ) → gate_kind x ≡ 9 → ⊥
oriented-no-end zero e = omega arith
oriented-no-end (suc x) e = omega arith

byte-again : (x : ℕ) → leb x 1 ≡ true → byte_in (gate_kind x) ≡ x
byte-again zero h = refl
byte-again (suc x) h = let l = leb-true (suc x) 1 h in omega arith

pub read-gates : (gs s : List ℕ) → length s ≡ length gs → every (λ x. leb x 1) s ≡ true → read_gates gs (gate_records gs s ++ (9 ∷ [])) ≡ sheet_says s
unfolding read_gates body_of
read-gates [] [] e h = refl
read-gates [] (x ∷ s) e h = absurd (omega arith)
read-gates (i ∷ gs) [] e h = absurd (omega arith)
read-gates (i ∷ gs) (x ∷ s) e h =
    let rest = gate_records gs s ++ (9 ∷ []) in
    (gate-step (gate_record i x ++ rest) (gate_kind x) (omega arith) (gate-taken i x rest) (oriented-no-end x)).next i gs
    ∙ rw (word_bytes i, eq-eqb i i refl, byte-again x (and_elim_left (leb x 1) _ h), read-gates gs s (omega arith) (and_elim_right (leb x 1) _ h))

pub read-records : (gs s : List ℕ) → length s ≡ length gs → every (λ x. leb x 1) s ≡ true → read_records gs (plan_sheet gs s) ≡ sheet_says s
read-records gs s e h =
    (sheet-head-step gs (plan_sheet gs s) 16 (omega arith) (value_taken plan_head_due 16 (length gs) (gate_records gs s ++ (9 ∷ [])) refl body-plan)).next
    ∙ rw (word_bytes (length gs), eq-eqb (length gs) (length gs) refl) (read-gates gs s e h)

-- what a plan has: a byte for each gated reach, each 0 or 1
pub plan-long : (N : Network) (s : List ℕ) → is_plan N s ≡ true → length s ≡ gate_count N
plan-long N s p = setting-length N s (plan-setting N s p)

pub plan-bits : (N : Network) (s : List ℕ) → is_plan N s ≡ true → every (λ x. leb x 1) s ≡ true
unfolding is_setting
plan-bits N s p = and_elim_right (eqb (length s) (gate_count N)) _ (plan-setting N s p)

-- The sheet of a plan of an accepted network is read as that plan.
pub sheet-read-write : (N : Network) (s : List ℕ) → Accepted N → is_plan N s ≡ true → read_sheet N (sheet_of N s) ≡ sheet_says s
unfolding read_sheet
sheet-read-write N s ok p = rw (ok, read-records (gates N) s (plan-long N s p) (plan-bits N s p), p)

-- ---- what is read was written so

no-setting {ℓ} : {A : Type ℓ} (r : Refusal) (s : List ℕ) → sheet_refused r ≡ sheet_says s → A
no-setting r s e = absurd (true≢false (cc))

pub read-inj : (s t : List ℕ) → sheet_says s ≡ sheet_says t → t ≡ s
read-inj s t e = cc

end_is : (f s : List ℕ) → at_sheet_end f ≡ sheet_says s → (f ≡ []) × (s ≡ [])
end_is [] s e = (refl, read-inj [] s e)
end_is (x ∷ f) s e = no-setting TrailingBytes s e

with-byte-is : (x : ℕ) (y : SheetReading) (s : List ℕ) → with_byte x y ≡ sheet_says s → (t : List ℕ) × (y ≡ sheet_says t) × (s ≡ x ∷ t)
with-byte-is x (sheet_refused r) s h = no-setting r s h
with-byte-is x (sheet_says t) s h = (t, refl, read-inj (x ∷ t) s h)

-- the end, which ends the sheet; a gated reach is left to h
unread-end :
    (gs f s : List ℕ) → read_gates gs f ≡ sheet_says s → ((k : ℕ) → GateStood f k → (k ≡ 9 → ⊥) → f ≡ gate_records gs s ++ (9 ∷ [])) → f ≡ gate_records gs s ++ (9 ∷ [])
unread-end gs f s e h = go (taken_answer (take_record gate_due f)) refl
  where
    ended : (gs : List ℕ) → read_gates gs f ≡ sheet_says s → GateStood f 9 → f ≡ gate_records gs s ++ (9 ∷ [])
    ended [] e w = (stands gate_due f 9 w).starts ∙ ap (λ l. 9 ∷ l) (end_is (drop 1 f) s (sym (sheet-step-end f w) ∙ e)).0
    ended (i ∷ gs) e w = no-setting BadSetting s (sym (sheet-step-early f w i gs) ∙ e)

    go : (a : Result ℕ Refusal) → taken_answer (take_record gate_due f) ≡ a → f ≡ gate_records gs s ++ (9 ∷ [])
    go (Err r) w = no-setting r s (sym (sheet-step-broken f gs r w) ∙ e)
    go (Ok k) w = test (eqb k 9) refl
      where
        test : (t : Bool) → eqb k 9 ≡ t → f ≡ gate_records gs s ++ (9 ∷ [])
        test true q = ended gs e (w ∙ ap Ok (eqb-true k 9 q))
        test false q = h k w (eqb-false k 9 q)

-- a gated reach, and what is known of the bytes after it
unread-gate :
    (i : ℕ) (gs f s : List ℕ) (k : ℕ) → are_bytes f ≡ true → GateStood f k → (k ≡ 9 → ⊥) → read_gates (i ∷ gs) f ≡ sheet_says s
    → ((t : List ℕ) → read_gates gs (drop 3 f) ≡ sheet_says t → drop 3 f ≡ gate_records gs t ++ (9 ∷ []))
    → f ≡ gate_records (i ∷ gs) s ++ (9 ∷ [])
unread-gate i gs f s k b w q e rec = go (eqb n i) refl
  where
    n : ℕ
    n = word_of (take 2 (drop 1 f))

    st : GateStep f k
    st = gate-front f k w q

    goes : cond (eqb n i) (with_byte (byte_in k) (read_gates gs (drop 3 f))) (sheet_refused BadSetting) ≡ sheet_says s
    goes = sym (st.next i gs) ∙ e

    go : (t : Bool) → eqb n i ≡ t → f ≡ gate_records (i ∷ gs) s ++ (9 ∷ [])
    go true g =
        let x = with-byte-is (byte_in k) (read_gates gs (drop 3 f)) s (rw g at goes) in
        let v = stands gate_due f k w in
        three-again k f (gate_records gs x.0 ++ (9 ∷ [])) b st.fits v.starts (rec x.0 x.1)
        ∙ ap (λ h. h ∷ (two_bytes n ++ (gate_records gs x.0 ++ (9 ∷ [])))) (sym (kind-again k (orientation k q v.comes)))
        ∙ ap (λ j. gate_record j (byte_in k) ++ (gate_records gs x.0 ++ (9 ∷ []))) (eqb-true n i g)
        ∙ ap (λ u. gate_records (i ∷ gs) u ++ (9 ∷ [])) (sym x.2)
    go false g = no-setting BadSetting s (rw g at goes)

-- the records and the end are those of the setting that they are read as
unread : (gs f s : List ℕ) → are_bytes f ≡ true → read_gates gs f ≡ sheet_says s → f ≡ gate_records gs s ++ (9 ∷ [])
unread [] f s b e = unread-end [] f s e (λ k w q. no-setting BadSetting s (sym (gate-front f k w q).over ∙ e))
unread (i ∷ gs) f s b e =
    unread-end (i ∷ gs) f s e (λ k w q. unread-gate i gs f s k b w q e (λ t h. unread gs (drop 3 f) t (bytes_drop 3 f b) h))

pub write-records : (gs f s : List ℕ) → are_bytes f ≡ true → read_records gs f ≡ sheet_says s → f ≡ plan_sheet gs s
write-records gs f s b e = go (taken_answer (take_record plan_head_due f)) refl
  where
    n : ℕ
    n = word_of (take 2 (drop 1 f))

    value :
        (k : ℕ) → taken_answer (take_record plan_head_due f) ≡ Ok k → (x : Bool) → eqb n (length gs) ≡ x → read_count gs n (drop 3 f) ≡ sheet_says s
        → f ≡ plan_sheet gs s
    value k w true g h =
        let v = stands plan_head_due f k w in
        let first : f ≡ 16 ∷ drop 1 f = v.starts ∙ ap (λ x. x ∷ drop 1 f) (sheet-comes-first k v.comes) in
        three-again 16 f (gate_records gs s ++ (9 ∷ [])) b (sheet-head-at gs f k w).fits first (unread gs (drop 3 f) s (bytes_drop 3 f b) (rw g at h))
        ∙ ap (λ m. 16 ∷ (two_bytes m ++ (gate_records gs s ++ (9 ∷ [])))) (eqb-true n (length gs) g)
    value k w false g h = no-setting BadSetting s (rw g at h)

    go : (a : Result ℕ Refusal) → taken_answer (take_record plan_head_due f) ≡ a → f ≡ plan_sheet gs s
    go (Err r) w = no-setting r s (sym (sheet-head-broken gs f r w) ∙ e)
    go (Ok k) w = value k w (eqb n (length gs)) refl (sym (sheet-head-at gs f k w).next ∙ e)

-- a sheet that is read: the network is accepted, the setting is a plan, and the records say it
pub record WasRead (N : Network) (f s : List ℕ) : Type 0 where
  pub accepted : Accepted N
  pub is-plan : is_plan N s ≡ true
  pub records : read_records (gates N) f ≡ sheet_says s

if-plan-is : (N : Network) (x : SheetReading) (s : List ℕ) → if_plan N x ≡ sheet_says s → (is_plan N s ≡ true) × (x ≡ sheet_says s)
if-plan-is N (sheet_refused r) s h = no-setting r s h
if-plan-is N (sheet_says t) s h = go (is_plan N t) refl h
  where
    go : (b : Bool) → is_plan N t ≡ b → cond b (sheet_says t) (sheet_refused BadSetting) ≡ sheet_says s → (is_plan N s ≡ true) × (sheet_says t ≡ sheet_says s)
    go true p e = (rw (read-inj t s e) p, e)
    go false p e = no-setting BadSetting s e

pub was_read : (N : Network) (f s : List ℕ) → read_sheet N f ≡ sheet_says s → WasRead N f s
unfolding read_sheet
was_read N f s e = go (table_fault N) refl e
  where
    go : (o : Option Refusal) → table_fault N ≡ o → unless_fault o (if_plan N (read_records (gates N) f)) ≡ sheet_says s → WasRead N f s
    go (some r) t h = no-setting r s h
    go none t h = let x = if-plan-is N (read_records (gates N) f) s h in record { accepted = t; is-plan = x.0; records = x.1 }

-- A sheet that is read as a setting is the one that is written for it.
pub sheet-write-read : (N : Network) (f s : List ℕ) → are_bytes f ≡ true → read_sheet N f ≡ sheet_says s → f ≡ sheet_of N s
sheet-write-read N f s b e = write-records (gates N) f s b (was_read N f s e).records

-- Two sheets that are read as one setting are the same bytes.
pub same-sheet : (N : Network) (f g s : List ℕ) → are_bytes f ≡ true → are_bytes g ≡ true → read_sheet N f ≡ sheet_says s → read_sheet N g ≡ sheet_says s → f ≡ g
same-sheet N f g s p q d e = sheet-write-read N f s p d ∙ sym (sheet-write-read N g s q e)

-- What the reader accepts is a plan, of an accepted network.
pub read-is-plan : (N : Network) (f s : List ℕ) → read_sheet N f ≡ sheet_says s → is_plan N s ≡ true
read-is-plan N f s e = (was_read N f s e).is-plan

-- the length of a plan sheet
pub length-records : (gs s : List ℕ) → length s ≡ length gs → length (gate_records gs s) ≡ 3 * length s
length-records [] [] e = omega arith
length-records [] (x ∷ s) e = absurd (omega arith)
length-records (i ∷ gs) [] e = absurd (omega arith)
length-records (i ∷ gs) (x ∷ s) e = omega (arith, length-records gs s (omega arith))

pub length-sheet : (gs s : List ℕ) → length s ≡ length gs → length (plan_sheet gs s) ≡ 3 * length s + 4
length-sheet gs s e = omega (arith, length-append (gate_records gs s) (9 ∷ []), length-records gs s e)
