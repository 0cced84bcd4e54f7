-- What the calls answer, and what they leave in the rows and buffers that they are lent.
-- Assumes nothing.
use Rattle.network.specs.declared.Counts.{Counts}
use Rattle.std.specs.Prelude.{ℕ, zero, suc, ◌+◌, ◌≤◌, ◌≡◌, cond, List, [], ◌∷◌, ◌++◌, length, get_or, drop, leb, eqb, Err, Ok, Result}
use Rattle.std.proofs.Math.Option.{Option}
use Rattle.network.specs.declared.State.{State}
use Rattle.network.specs.declared.Reach.{Reach}
use Rattle.network.specs.declared.Refusal.{Refusal}
use Rattle.network.specs.declared.Refusal.TheVariants.{ShortBuffer}
use Rattle.network.specs.Networks.{Network, in_service, table_fault, counts_of}
use Rattle.tables.specs.Rows.{room_of, RowsFilled}
use Rattle.network.specs.Replies.{refusal_number, first_of}
use Rattle.file_records.specs.Puts.{Wrote, room_for}
use Rattle.netfile_format.specs.Files.{shut_kind, record_reach, Reading, refused, read, read_file, file_of}

-- The reader's answer: the refusal, or "the counts it read".
abbrev pub read_answer : Reading → Result Counts Refusal
read_answer (refused r) = Err r
read_answer (read N) = Ok (counts_of N)

-- Document 01's number of the reader's answer, 0 where the file is read; and the same of a reading.
abbrev pub read_number : Result Counts Refusal → ℕ
read_number (Err r) = refusal_number r
read_number (Ok c) = 0

abbrev pub reading_number : Reading → ℕ
reading_number (refused r) = refusal_number r
reading_number (read N) = 0

-- The reader, lent rows of so much room: 7 comes last. "Readers need a record for each reach".
abbrev pub with_room : ℕ → Reading → Reading
with_room room (refused r) = refused r
with_room room (read N) = cond (leb (length N.reaches) room) (read N) (refused ShortBuffer)

-- The table that was read; nothing where the file is refused: refusals "write nothing".
abbrev pub reaches_read : Reading → List Reach
reaches_read (refused r) = []
reaches_read (read N) = N.reaches

-- What the reader answers to a file, its number, and what it leaves in the rows that it is lent.
pub record NetworkRead (file kinds a b : List ℕ) (r : Result Counts Refusal) (kinds' a' b' : List ℕ) : Type 0 where
  pub answer : r ≡ read_answer (with_room (room_of kinds a b) (read_file file))
  pub number : read_number r ≡ reading_number (with_room (room_of kinds a b) (read_file file))
  pub rows : RowsFilled (reaches_read (with_room (room_of kinds a b) (read_file file))) kinds a b kinds' a' b'

-- The same where the reader is lent a table of records. What a reading leaves in it: its reaches in the first records; "all beyond is untouched". A refusal writes nothing.
abbrev pub left_in : Reading → List Reach → List Reach
left_in R t = reaches_read R ++ drop (length (reaches_read R)) t

-- What the reader answers to a file, its number, and what it leaves in the table that it is lent. "Readers need a record for each reach."
pub record ReadTable (file : List ℕ) (t : List Reach) (r : Result Counts Refusal) (t' : List Reach) : Type 0 where
  pub answer : r ≡ read_answer (with_room (length t) (read_file file))
  pub number : read_number r ≡ reading_number (with_room (length t) (read_file file))
  pub table : t' ≡ left_in (with_room (length t) (read_file file)) t

-- The length of a reach's record, by its kind byte and by the reach's state: a kind byte, and a body of 4 bytes, or of 5 if it is shut.
abbrev pub record_length : ℕ → ℕ
record_length k = cond (eqb k shut_kind) 6 5

abbrev pub state_length : State → ℕ
state_length s = cond (in_service s) 5 6

-- The reach of the record at the front of the bytes f, and those of the first n records.
abbrev pub reach_at_front : List ℕ → Reach
reach_at_front f = record_reach (get_or f 0 0) (drop 1 f)

abbrev pub reaches_at : ℕ → List ℕ → List Reach
reaches_at zero f = []
reaches_at (suc n) f = reach_at_front f ∷ reaches_at n (drop (record_length (get_or f 0 0)) f)

-- The length of the first n records.
abbrev pub span_of : ℕ → List ℕ → ℕ
span_of zero f = 0
span_of (suc n) f = record_length (get_or f 0 0) + span_of n (drop (record_length (get_or f 0 0)) f)

-- What the second pass asks: n records after the head, and room for them.
pub record Fills (file : List ℕ) (n : ℕ) (kinds a b : List ℕ) : Type 0 where
  pub records : 3 + span_of n (drop 3 file) ≤ length file
  pub kind-room : n ≤ length kinds
  pub a-room : n ≤ length a
  pub b-room : n ≤ length b

-- "Writers check the table, then the setting (..), then 7"; a network has no setting. Writers need "the length of what they write".
abbrev pub write_fault : Network → ℕ → Option Refusal
write_fault N room = first_of (table_fault N) (room_for (file_of N) room)

-- What the writer answers to a network, its number, and what it leaves in the buffer: the file first; "all beyond is untouched".
abbrev pub NetworkWritten : Network → List ℕ → Result ℕ Refusal → List ℕ → Type 0
NetworkWritten N out r out' = Wrote (write_fault N (length out)) (file_of N) out r out'
