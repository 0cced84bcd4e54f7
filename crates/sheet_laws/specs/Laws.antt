-- The laws of the sheets, as the calls are held to them.
-- Assumes nothing.
use Rattle.std.specs.Prelude.{ℕ, ◌≡◌, true, false, cond, List, ◌++◌, length, get_or, take, drop, eqb, Err, Ok, Result, Bool}
use Rattle.std.proofs.Math.Option.{Option, some}
use Rattle.lists.specs.Words.{word_of}
use Rattle.network.specs.declared.Refusal.{Refusal}
use Rattle.network.specs.declared.Refusal.TheVariants.{UnknownKind}
use Rattle.network.specs.Networks.{Network}
use Rattle.network.specs.Plans.{passable, first_plan}
use Rattle.network.specs.Bridges.{lowest_bridge}
use Rattle.network.specs.Marks.{mark_bytes, marks_of, mark_count}
use Rattle.network.specs.Replies.{Outcome, plan, shut_in, lone, refused as told, first_answer, shut_in_side, bridge_side}
use Rattle.planner_laws.specs.Demands.{FirstShown}
use Rattle.sheet_format.specs.Sheets.{shut_in_kind, lone_kind, sheet_of, shut_in_sheet, lone_sheet, reply_sheet}
use Rattle.sheet_format.specs.Readings.{SheetReading, sheet_refused, sheet_says, unless_fault, read_sheet, sheet_with_room}
use Rattle.sheet_format.specs.Answers.{setting_read, Got, sheet_fault, reply_fault}
use Rattle.file_records.specs.Puts.{bytes_written, Wrote, room_for}

-- What the sheet of a setting is read as that was written: refused where the writer refuses, else the setting itself.
pub record SheetWriteRead (N : Network) (s out setting : List ℕ) (r : Result ℕ Refusal) (out' setting' : List ℕ) : Type 0 where
  pub again : Got (unless_fault (sheet_fault N s (length out)) (sheet_with_room (length setting) (sheet_says s))) setting r setting'
  pub sheet : out' ≡ bytes_written (sheet_fault N s (length out)) (sheet_of N s) ++ drop (length (bytes_written (sheet_fault N s (length out)) (sheet_of N s))) out

-- What a sheet is written as that was read: refused where the reader refuses it or the buffer is too short, else the sheet itself.
abbrev pub sheet_again : SheetReading → List ℕ → ℕ → Option Refusal
sheet_again (sheet_refused r) f room = some r
sheet_again (sheet_says s) f room = room_for f room

pub record SheetReadWrite (N : Network) (f setting out : List ℕ) (r : Result ℕ Refusal) (setting' out' : List ℕ) : Type 0 where
  pub again : Wrote (sheet_again (sheet_with_room (length setting) (read_sheet N f)) f (length out)) f out r out'
  pub bytes :
      setting'
      ≡ setting_read (sheet_with_room (length setting) (read_sheet N f)) ++ drop (length (setting_read (sheet_with_room (length setting) (read_sheet N f)))) setting

-- "Its setting is a plan": what the check says of a setting that was read.
abbrev pub checked_back : SheetReading → Result Bool Refusal
checked_back (sheet_refused r) = Err r
checked_back (sheet_says s) = Ok true

pub record SheetReadCheck (N : Network) (f setting : List ℕ) (r : Result Bool Refusal) (setting' : List ℕ) : Type 0 where
  pub answer : r ≡ checked_back (sheet_with_room (length setting) (read_sheet N f))
  pub bytes :
      setting'
      ≡ setting_read (sheet_with_room (length setting) (read_sheet N f)) ++ drop (length (setting_read (sheet_with_room (length setting) (read_sheet N f)))) setting

-- What a reply's sheet is read as: the plan; a finding sheet is "written only", its kind may not come.
abbrev pub reply_read : Outcome → SheetReading
reply_read (plan s) = sheet_says s
reply_read (shut_in m c) = sheet_refused UnknownKind
reply_read (lone i m c) = sheet_refused UnknownKind
reply_read (told r) = sheet_refused r

pub record ReplyWriteRead (N : Network) (out setting : List ℕ) (r : Result ℕ Refusal) (out' setting' : List ℕ) : Type 0 where
  pub again : Got (unless_fault (reply_fault N (length out)) (sheet_with_room (length setting) (reply_read (first_answer N)))) setting r setting'
  pub sheet : out' ≡ bytes_written (reply_fault N (length out)) (reply_sheet N) ++ drop (length (bytes_written (reply_fault N (length out)) (reply_sheet N))) out

-- The sheet f says what the network gets: it is read as the first plan, or shows the side that is shut in, or the lowest lone reach and its side.
pub data Replies (N : Network) (f : List ℕ) : Type 0 where
  says-plan : (s : List ℕ) → first_plan N ≡ some s → read_sheet N f ≡ sheet_says s → Replies N f
  says-shut-in : passable N ≡ false → f ≡ shut_in_sheet (marks_of (shut_in_side N)) → Replies N f
  says-lone : (i : ℕ) → passable N ≡ true → lowest_bridge N ≡ some i → f ≡ lone_sheet i (marks_of (bridge_side N i)) → Replies N f

-- ---- demand 2 for who holds only the sheet

-- What stands on a finding sheet: after the kind the marks, on a lone one the reach number before them.
abbrev pub marks_on : ℕ → List ℕ → List ℕ
marks_on k f = take mark_bytes (drop k f)

abbrev pub reach_on : List ℕ → ℕ
reach_on f = word_of (take 2 (drop 1 f))

-- The reply that is read off a sheet of the network, by its first kind: that of the plan, or the finding with the count of its marks.
abbrev pub plan_on : SheetReading → Outcome
plan_on (sheet_refused r) = told r
plan_on (sheet_says s) = plan s

unfoldable pub reply_on : Network → List ℕ → Outcome
reply_on N f =
    cond (eqb (get_or f 0 0) shut_in_kind) (shut_in (marks_on 1 f) (mark_count (marks_on 1 f)))
    (cond (eqb (get_or f 0 0) lone_kind) (lone (reach_on f) (marks_on 3 f) (mark_count (marks_on 3 f))) (plan_on (read_sheet N f)))

-- The bytes of the sheet alone show what the reply of first does: the first plan, or the finding with what somebody with the map checks.
abbrev pub SheetShown : Network → List ℕ → Type 0
SheetShown N f = FirstShown N (reply_on N f)
