-- What the bytes of a plan sheet are read as, record by record: the first refusal decides.
-- Assumes nothing.
use Rattle.std.specs.Prelude.{ℕ, cond, List, [], ◌∷◌, length, eqb, leb}
use Rattle.std.proofs.Math.Option.{Option, none, some}
use Rattle.network.specs.declared.Refusal.{Refusal}
use Rattle.network.specs.declared.Refusal.TheVariants.{TrailingBytes, ShortBuffer, BadSetting}
use Rattle.network.specs.Networks.{Network, table_fault}
use Rattle.network.specs.Settings.{gates}
use Rattle.network.specs.Plans.{is_plan}
use Rattle.lists.specs.Words.{word_of}
use Rattle.file_records.specs.Records.{Front, broken, whole, take_record, end_kind}
use Rattle.sheet_format.specs.Sheets.{plan_kind, as_drawn_kind, turned_kind}

-- What a sheet is read as: a refusal, or a setting.
pub data SheetReading : Type 0 where
  sheet_refused : Refusal → SheetReading
  sheet_says : List ℕ → SheetReading

-- The kinds that may come: where the head is due only it, after that a gated reach or the end.
abbrev pub plan_head_due : List ℕ
plan_head_due = plan_kind ∷ []

abbrev pub gate_due : List ℕ
gate_due = as_drawn_kind ∷ turned_kind ∷ end_kind ∷ []

-- The record at the front, if there is a whole one, is read by g.
abbrev pub on_sheet_record : Front → (ℕ → List ℕ → List ℕ → SheetReading) → SheetReading
on_sheet_record (broken r) g = sheet_refused r
on_sheet_record (whole k body rest) g = g k body rest

-- The end. Refusal 6, overrun: "a byte follows the end record".
abbrev pub at_sheet_end : List ℕ → SheetReading
at_sheet_end [] = sheet_says []
at_sheet_end (x ∷ rest) = sheet_refused TrailingBytes

-- The byte of a gated reach whose kind byte is k, which is 17 or 18.
abbrev pub byte_in : ℕ → ℕ
byte_in k = cond (eqb k as_drawn_kind) 0 1

-- The reading with one byte more, in front of the others.
abbrev pub with_byte : ℕ → SheetReading → SheetReading
with_byte x (sheet_refused r) = sheet_refused r
with_byte x (sheet_says s) = sheet_says (x ∷ s)

-- The records and the end, where the gated reaches with these numbers still lack theirs. 8 where "a record isn't the next gated reach, a record
-- comes after all have theirs, or the end comes before".
unfoldable pub read_gates : List ℕ → List ℕ → SheetReading
read_gates [] f = on_sheet_record (take_record gate_due f) (λ k body rest. cond (eqb k end_kind) (at_sheet_end rest) (sheet_refused BadSetting))
read_gates (i ∷ gs) f =
    on_sheet_record (take_record gate_due f) (λ k body rest.
    cond (eqb k end_kind) (sheet_refused BadSetting)
    (cond (eqb (word_of body) i) (with_byte (byte_in k) (read_gates gs rest)) (sheet_refused BadSetting)))

-- "8 is given if the head's number is wrong": it is the "number of gated reaches".
abbrev pub read_count : List ℕ → ℕ → List ℕ → SheetReading
read_count gs n rest = cond (eqb n (length gs)) (read_gates gs rest) (sheet_refused BadSetting)

-- The head, the records, the end.
unfoldable pub read_records : List ℕ → List ℕ → SheetReading
read_records gs f = on_sheet_record (take_record plan_head_due f) (λ k body rest. read_count gs (word_of body) rest)

-- "Then 6, then 8 if a sheet's setting isn't a plan."
abbrev pub if_plan : Network → SheetReading → SheetReading
if_plan N (sheet_refused r) = sheet_refused r
if_plan N (sheet_says s) = cond (is_plan N s) (sheet_says s) (sheet_refused BadSetting)

-- A refusal if there is one, else the reading.
abbrev pub unless_fault : Option Refusal → SheetReading → SheetReading
unless_fault (some r) x = sheet_refused r
unless_fault none x = x

-- "Sheet calls check 1, 2 and 3 of the table before the sheet."
unfoldable pub read_sheet : Network → List ℕ → SheetReading
read_sheet N f = unless_fault (table_fault N) (if_plan N (read_records (gates N) f))

-- The reader, lent a buffer of so much room: 7 comes last. "Readers need .. a byte for each gated reach".
abbrev pub sheet_with_room : ℕ → SheetReading → SheetReading
sheet_with_room room (sheet_refused r) = sheet_refused r
sheet_with_room room (sheet_says s) = cond (leb (length s) room) (sheet_says s) (sheet_refused ShortBuffer)
