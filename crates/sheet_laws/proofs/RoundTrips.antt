-- Writing and reading one after the other, by what the calls promise of any network, so that the laws hold of the calls on rows (`sheet_rows`,
-- `planner_rows::check`) and on records (`sheet`, `planner::check`) alike; and that every accepted network has exactly one reply sheet.
-- Where the first call refuses, its refusal is handed on and the second is not made.
-- Assumes nothing.
use Rattle.std.specs.Prelude.{Err, Ok, Result}
use Prim.Native.Nat.{ℕ, ◌≤◌}
use native.Mathlib.Omega.{arith}
use mathlib.Core.Path.{◌≡◌, refl, sym, ap, subst, subst⁻¹, ◌∙◌}
use mathlib.Core.Bool.{Bool, true, false, cond, true≢false}
use mathlib.Core.List.{List, [], ◌∷◌, ◌++◌}
use mathlib.Core.Option.{Option, none, some}
use lib.ListN.{length, take, drop, length-append}
use lib.Seq.{take_at}
use lib.Dec.{leb}
use Rattle.network.specs.declared.Refusal.{Refusal}
use Rattle.network.specs.declared.Refusal.TheVariants.{ShortBuffer}
use Rattle.network.specs.Networks.{Network, table_fault, Accepted}
use Rattle.network.specs.Plans.{is_plan}
use Rattle.network.specs.Marks.{mark_bytes, marks_of, mark_count}
use Rattle.network.specs.Replies.{Outcome, shut_in, lone, shut_in_side, bridge_side, first_answer, first_of, plan_fault}
use Rattle.lists.proofs.Bools.{clash}
use Rattle.network.proofs.Bridges.{bridge-blocks}
use Rattle.network.proofs.Order.{first-is-plan}
use Rattle.network.proofs.Marks.{length-marks}
use Rattle.network.proofs.Replies.{lowest-is-bridge, First, is-plan, is-shut, is-bridge, first-cases, first-assoc, first-of-none}
use Rattle.network.proofs.Theorem.{plan-passable}
use lib.Pow.{are_bytes}
use Rattle.file_records.specs.Records.{end_kind}
use Rattle.file_records.specs.Puts.{Wrote, room_for, WroteWhole}
use Rattle.replies.specs.Answers.{check_of, CheckCall}
use Rattle.replies.proofs.Answers.{check-yes}
use Rattle.sheet_format.specs.Sheets.{sheet_of, outcome_sheet, reply_sheet}
use Rattle.sheet_format.specs.Readings.{SheetReading, sheet_refused, sheet_says, unless_fault, read_records, read_sheet, sheet_with_room}
use Rattle.sheet_format.specs.Answers.{sheet_answer, setting_read, Got, sheet_fault, reply_fault, SheetRead, SheetWritten, ReplyWritten}
use Rattle.sheet_laws.specs.Laws.{SheetWriteRead, sheet_again, SheetReadWrite, checked_back, SheetReadCheck, reply_read, ReplyWriteRead, Replies, says-plan, says-shut-in, says-lone, marks_on, plan_on, reply_on, SheetShown}
use Rattle.sheet_format.proofs.Sheets.{sheet-read-write, sheet-write-read, was_read}
use Rattle.planner_laws.specs.Demands.{FirstShown}
use Rattle.planner_laws.proofs.Demands.{first-shown}
use Rattle.file_records.proofs.Records.{word_bytes}
use Rattle.file_records.proofs.Puts.{put_refused, unwritten, written, written-front}
use Rattle.sheet_plans.proofs.Calls.{Plan, no-fault}
use Rattle.sheet_format.proofs.Getting.{got-refused, refused-is}

-- ---- written, then read

-- a sheet f that is read as x, unless the writer refuses
module _ (N : Network) (o : Option Refusal) (f : List ℕ) (x : SheetReading) {out out' setting : List ℕ} where
  unwritten-got : {e : Refusal} → Wrote o f out (Err e) out' → Got (unless_fault o (sheet_with_room (length setting) x)) setting (Err e) setting
  unwritten-got {e} p = got-refused setting e (ap (λ o. unless_fault o (sheet_with_room (length setting) x)) (unwritten o f out out' e p))

  written-got :
      {n : ℕ} {r : Result ℕ Refusal} {setting' : List ℕ} → Wrote o f out (Ok n) out' → (o ≡ none → read_sheet N f ≡ x) → SheetRead N (take n out') setting r setting'
      → Got (unless_fault o (sheet_with_room (length setting) x)) setting r setting'
  written-got {n} {r} {setting'} p same g =
      let sound : o ≡ none = written o f out out' n p in
      subst (λ y. Got y setting r setting')
      (ap (λ h. sheet_with_room (length setting) (read_sheet N h)) (written-front o f out out' n p)
      ∙ ap (sheet_with_room (length setting)) (same sound)
      ∙ ap (λ o. unless_fault o (sheet_with_room (length setting) x)) (sym sound)) g

-- what is written is the sheet of a plan
its-plan : (N : Network) (s : List ℕ) (room : ℕ) → sheet_fault N s room ≡ none → Plan N s
its-plan N s room sound =
    no-fault N s (table_fault N) (is_plan N s) refl refl
    (first-of-none (first_of (table_fault N) (plan_fault N s)) (room_for (sheet_of N s) room)
    (sym (first-assoc (table_fault N) (plan_fault N s) (room_for (sheet_of N s) room)) ∙ sound)).0

module _ (N : Network) (s : List ℕ) {out out' setting : List ℕ} where
  pub plan-unwritten : {x : Refusal} → SheetWritten N s out (Err x) out' → SheetWriteRead N s out setting (Err x) out' setting
  plan-unwritten p = record { again = unwritten-got N (sheet_fault N s (length out)) (sheet_of N s) (sheet_says s) p; sheet = p.bytes }

  pub plan-read-again :
      {n : ℕ} {r : Result ℕ Refusal} {setting' : List ℕ} → SheetWritten N s out (Ok n) out' → SheetRead N (take n out') setting r setting'
      → SheetWriteRead N s out setting r out' setting'
  plan-read-again p g =
      record {
        again =
            written-got N (sheet_fault N s (length out)) (sheet_of N s) (sheet_says s) p
            (λ sound. let p = its-plan N s (length out) sound in sheet-read-write N s p.accepted-net p.is-plan) g;
        sheet = p.bytes;
      }

-- ---- read, then written or checked

room-kept : (room : ℕ) (x : SheetReading) (s : List ℕ) → sheet_with_room room x ≡ sheet_says s → x ≡ sheet_says s
room-kept room (sheet_refused r) s h = h
room-kept room (sheet_says t) s h = go (leb (length t) room) h
  where
    go : (b : Bool) → cond b (sheet_says t) (sheet_refused ShortBuffer) ≡ sheet_says s → sheet_says t ≡ sheet_says s
    go true e = e
    go false e = cc

-- a reading whose answer is a count is a setting of that length
counted : (x : SheetReading) (n : ℕ) → Ok n ≡ sheet_answer x → (x ≡ sheet_says (setting_read x)) × (n ≡ length (setting_read x))
counted (sheet_refused r) n h = absurd (true≢false (cc))
counted (sheet_says s) n h = (refl, cc)

-- what a sheet is read as with the room of the buffer
abbrev got : Network → List ℕ → List ℕ → SheetReading
got N f setting = sheet_with_room (length setting) (read_sheet N f)

module _ (N : Network) (f : List ℕ) {setting setting' : List ℕ} where
  pub sheet-unread : {out : List ℕ} {x : Refusal} → SheetRead N f setting (Err x) setting' → SheetReadWrite N f setting out (Err x) setting' out
  sheet-unread {out} {x} g =
      record { again = put_refused f out x (ap (λ y. sheet_again y f (length out)) (refused-is (got N f setting) x g.answer)); bytes = g.bytes }

  pub sheet-unchecked : {x : Refusal} → SheetRead N f setting (Err x) setting' → SheetReadCheck N f setting (Err x) setting'
  sheet-unchecked {x} g = record { answer = sym (ap checked_back (refused-is (got N f setting) x g.answer)); bytes = g.bytes }

  module _ {n : ℕ} (g : SheetRead N f setting (Ok n) setting') where
    abbrev s : List ℕ
    s = setting_read (got N f setting)

    is : got N f setting ≡ sheet_says s
    is = (counted (got N f setting) n g.answer).0

    size-read : n ≡ length s
    size-read = (counted (got N f setting) n g.answer).1

    sheet-is : read_sheet N f ≡ sheet_says s
    sheet-is = room-kept (length setting) (read_sheet N f) s is

    pub read_fits : n ≤ length setting'
    read_fits = omega (arith, size-read, ap length g.bytes, length-append s (drop (length s) setting))

    front : take n setting' ≡ s
    front = ap (take n) g.bytes ∙ take_at s (drop (length s) setting) n (sym size-read)

    plan-fault : plan_fault N s ≡ none
    plan-fault = rw (was_read N f s sheet-is).is-plan

    pub sheet-written-again :
        {out : List ℕ} {r : Result ℕ Refusal} {out' : List ℕ} → are_bytes f ≡ true → SheetWritten N (take n setting') out r out'
        → SheetReadWrite N f setting out r setting' out'
    sheet-written-again {out} {r} {out'} b p =
        record {
          again =
              subst (λ x. Wrote (sheet_again x f (length out)) f out r out') (sym is)
              (subst (λ h. WroteWhole h out r out') (sym (sheet-write-read N f s b sheet-is))
              (subst (λ o. Wrote o (sheet_of N s) out r out') fault (subst (λ t. SheetWritten N t out r out') front p)));
          bytes = g.bytes;
        }
      where
        fault : sheet_fault N s (length out) ≡ room_for (sheet_of N s) (length out)
        fault =
            ap (λ o. first_of o (first_of (plan_fault N s) (room_for (sheet_of N s) (length out)))) (was_read N f s sheet-is).accepted
            ∙ ap (λ o. first_of o (room_for (sheet_of N s) (length out))) plan-fault

    pub sheet-checked : {v : Result Bool Refusal} → CheckCall N (take n setting') v → SheetReadCheck N f setting v setting'
    sheet-checked e =
        record {
          answer =
              e.answer
              ∙ ap (check_of N) front
              ∙ check-yes N s (was_read N f s sheet-is).accepted (was_read N f s sheet-is).is-plan
              ∙ sym (ap checked_back is);
          bytes = g.bytes;
        }

-- ---- the reply's sheet

says : (N : Network) → Accepted N → {o : Outcome} → First N o → Replies N (outcome_sheet N o)
says N ok (is-plan s e) = says-plan s e (sheet-read-write N s ok (first-is-plan N e))
says N ok (is-shut n) = says-shut-in n refl
says N ok (is-bridge i y e) = says-lone i y e refl

-- The reply sheet of an accepted network says what the network gets,
pub reply-says : (N : Network) → Accepted N → Replies N (reply_sheet N)
unfolding reply_sheet
reply-says N ok = says N ok (first-cases N ok)

-- and it is the only one that does.
pub reply-only : (N : Network) (f : List ℕ) → Accepted N → are_bytes f ≡ true → Replies N f → f ≡ reply_sheet N
unfolding reply_sheet
reply-only N f ok b q = go (first-cases N ok) q
  where
    one : {i j : ℕ} → some i ≡ some j → i ≡ j
    one e = cc

    same-plan : {s t : List ℕ} → some s ≡ some t → s ≡ t
    same-plan e = cc

    go : {o : Outcome} → First N o → Replies N f → f ≡ outcome_sheet N o
    go (is-plan s e) (says-plan t d r) = sheet-write-read N f t b r ∙ ap (sheet_of N) (same-plan (sym d ∙ e))
    go (is-plan s e) (says-shut-in n r) = clash (plan-passable N s (first-is-plan N e)) n
    go (is-plan s e) (says-lone i y l r) = absurd (bridge-blocks N i (lowest-is-bridge N l) s (first-is-plan N e))
    go (is-shut n) (says-plan t d r) = clash (plan-passable N t (first-is-plan N d)) n
    go (is-shut n) (says-shut-in m r) = r
    go (is-shut n) (says-lone i y l r) = clash y n
    go (is-bridge i y l) (says-plan t d r) = absurd (bridge-blocks N i (lowest-is-bridge N l) t (first-is-plan N d))
    go (is-bridge i y l) (says-shut-in n r) = clash y n
    go (is-bridge i y l) (says-lone j z m r) = r ∙ ap (λ k. outcome_sheet N (lone k (marks_of (bridge_side N k)) 0)) (one (sym m ∙ l))

-- its reading as a plan sheet is the first plan, where there is one
read-outcome : (N : Network) → Accepted N → {o : Outcome} → First N o → read_sheet N (outcome_sheet N o) ≡ reply_read o
unfolding read_sheet read_records
read-outcome N ok (is-plan s e) = sheet-read-write N s ok (first-is-plan N e)
read-outcome N ok (is-shut n) = rw ok
read-outcome N ok (is-bridge i y e) = rw ok

pub read-reply : (N : Network) → Accepted N → read_sheet N (reply_sheet N) ≡ reply_read (first_answer N)
unfolding reply_sheet
read-reply N ok = read-outcome N ok (first-cases N ok)

module _ (N : Network) {out out' setting : List ℕ} where
  pub reply-unwritten : {x : Refusal} → ReplyWritten N out (Err x) out' → ReplyWriteRead N out setting (Err x) out' setting
  reply-unwritten p = record { again = unwritten-got N (reply_fault N (length out)) (reply_sheet N) (reply_read (first_answer N)) p; sheet = p.bytes }

  pub reply-read-again :
      {n : ℕ} {r : Result ℕ Refusal} {setting' : List ℕ} → ReplyWritten N out (Ok n) out' → SheetRead N (take n out') setting r setting'
      → ReplyWriteRead N out setting r out' setting'
  reply-read-again p g =
      record {
        again =
            written-got N (reply_fault N (length out)) (reply_sheet N) (reply_read (first_answer N)) p
            (λ sound. read-reply N (first-of-none (table_fault N) (room_for (reply_sheet N) (length out)) sound).0) g;
        sheet = p.bytes;
      }

-- ---- demand 2 for who holds only the sheet

-- the marks on a finding sheet, before its end
marks-on : (S : List ℕ) → take mark_bytes (marks_of S ++ (end_kind ∷ [])) ≡ marks_of S
marks-on S = take_at (marks_of S) (end_kind ∷ []) mark_bytes (length-marks S)

outcome-on : (N : Network) → Accepted N → {o : Outcome} → First N o → reply_on N (outcome_sheet N o) ≡ o
unfolding reply_on
outcome-on N ok (is-plan s e) = ap plan_on (sheet-read-write N s ok (first-is-plan N e))
outcome-on N ok (is-shut n) = ap (λ (m : List ℕ). shut_in m (mark_count m)) (marks-on (shut_in_side N))
outcome-on N ok (is-bridge i y e) =
    ap (λ (j : ℕ). lone j (marks_on 3 (outcome_sheet N (lone i (marks_of (bridge_side N i)) 0))) (mark_count (marks_on 3 (outcome_sheet N (lone i (marks_of (bridge_side N i)) 0))))) (word_bytes i)
    ∙ ap (λ (m : List ℕ). lone i m (mark_count m)) (marks-on (bridge_side N i))

-- The reply is read off its sheet as it was given,
pub reply-on : (N : Network) → Accepted N → reply_on N (reply_sheet N) ≡ first_answer N
unfolding reply_sheet
reply-on N ok = outcome-on N ok (first-cases N ok)

-- so who holds only the bytes that the reply writer wrote holds the first plan, or the finding with its certificate.
pub reply-shown : (N : Network) {out out' : List ℕ} {n : ℕ} → ReplyWritten N out (Ok n) out' → SheetShown N (take n out')
reply-shown N {out} {out'} {n} p =
    let sound = written (reply_fault N (length out)) (reply_sheet N) out out' n p in
    let ok = (first-of-none (table_fault N) (room_for (reply_sheet N) (length out)) sound).0 in
    subst⁻¹ (FirstShown N) (ap (reply_on N) (written-front (reply_fault N (length out)) (reply_sheet N) out out' n p) ∙ reply-on N ok) (first-shown N ok)
