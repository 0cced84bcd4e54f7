-- What the calls answer, and what they leave in the buffers that they are lent.
-- Assumes nothing.
use Rattle.std.specs.Prelude.{ℕ, ◌≡◌, List, [], ◌++◌, length, drop, take, Err, Ok, Result}
use Rattle.std.proofs.Math.Option.{Option}
use Rattle.network.specs.declared.Refusal.{Refusal}
use Rattle.network.specs.Networks.{Network, table_fault}
use Rattle.network.specs.Replies.{refusal_number, first_of, plan_fault}
use Rattle.file_records.specs.Puts.{Wrote, room_for}
use Rattle.sheet_format.specs.Sheets.{sheet_of, reply_sheet}
use Rattle.sheet_format.specs.Readings.{SheetReading, sheet_refused, sheet_says, if_plan, unless_fault, read_sheet, sheet_with_room}

-- The reader's answer: the refusal, or "the counts it read", here that of the gated reaches.
abbrev pub sheet_answer : SheetReading → Result ℕ Refusal
sheet_answer (sheet_refused r) = Err r
sheet_answer (sheet_says s) = Ok (length s)

-- Document 01's number of the reader's answer, 0 where the sheet is read; and the same of a reading.
abbrev pub sheet_number : Result ℕ Refusal → ℕ
sheet_number (Err r) = refusal_number r
sheet_number (Ok n) = 0

abbrev pub sheet_reading_number : SheetReading → ℕ
sheet_reading_number (sheet_refused r) = refusal_number r
sheet_reading_number (sheet_says s) = 0

-- The setting that was read; nothing where the sheet is refused: refusals "write nothing".
abbrev pub setting_read : SheetReading → List ℕ
setting_read (sheet_refused r) = []
setting_read (sheet_says s) = s

-- What the reader answers to a sheet that is read as x, its number, and what it leaves in the buffer: the setting first; "all beyond is untouched".
pub record Got (x : SheetReading) (setting : List ℕ) (r : Result ℕ Refusal) (setting' : List ℕ) : Type 0 where
  pub answer : r ≡ sheet_answer x
  pub number : sheet_number r ≡ sheet_reading_number x
  pub bytes : setting' ≡ setting_read x ++ drop (length (setting_read x)) setting

-- The same of the working memory that a sheet is read into: the setting that was read stands first. What stands behind it is free, and all of it where the
-- sheet is refused.
pub record Held (x : SheetReading) (r : Result ℕ Refusal) (held' : List ℕ) : Type 0 where
  pub answer : r ≡ sheet_answer x
  pub bytes : take (length (setting_read x)) held' ≡ setting_read x

-- What is answered where the bytes s that a sheet says are judged: 1, 2 and 3 of the table, 8 where they are no plan.
abbrev pub PlanJudged : Network → List ℕ → Result ℕ Refusal → Type 0
PlanJudged N s r = r ≡ sheet_answer (unless_fault (table_fault N) (if_plan N (sheet_says s)))

-- "Writers check the table, then the setting (..), then 7."
abbrev pub sheet_fault : Network → List ℕ → ℕ → Option Refusal
sheet_fault N s room = first_of (table_fault N) (first_of (plan_fault N s) (room_for (sheet_of N s) room))

-- "The reply writer .. refuses only 1, 2, 3 and 7."
abbrev pub reply_fault : Network → ℕ → Option Refusal
reply_fault N room = first_of (table_fault N) (room_for (reply_sheet N) room)

-- The three calls: what each answers, its number, and what it leaves in the buffer that it is lent.
abbrev pub SheetRead : Network → List ℕ → List ℕ → Result ℕ Refusal → List ℕ → Type 0
SheetRead N f setting r setting' = Got (sheet_with_room (length setting) (read_sheet N f)) setting r setting'

abbrev pub SheetWritten : Network → List ℕ → List ℕ → Result ℕ Refusal → List ℕ → Type 0
SheetWritten N s out r out' = Wrote (sheet_fault N s (length out)) (sheet_of N s) out r out'

abbrev pub ReplyWritten : Network → List ℕ → Result ℕ Refusal → List ℕ → Type 0
ReplyWritten N out r out' = Wrote (reply_fault N (length out)) (reply_sheet N) out r out'
