-- The two laws of the network file, as the calls are held to them: what is written is read again, what is read is written again; over rows, and over a
-- table of records.
-- Assumes nothing.
use Rattle.network.specs.declared.Counts.{Counts}
use Rattle.std.specs.Prelude.{ℕ, ◌≡◌, List, ◌++◌, length, drop, Result}
use Rattle.std.proofs.Math.Option.{Option, none, some}
use Rattle.network.specs.declared.Reach.{Reach}
use Rattle.network.specs.declared.Refusal.{Refusal}
use Rattle.network.specs.Networks.{Network}
use Rattle.tables.specs.Rows.{room_of, RowsFilled}
use Rattle.netfile_format.specs.Files.{Reading, refused, read, read_file, file_of}
use Rattle.netfile_format.specs.Answers.{read_answer, with_room, reaches_read, left_in, write_fault}
use Rattle.file_records.specs.Puts.{bytes_written, Wrote, room_for}

-- What a network is read as that was written: refused where the writer refuses it, else the network itself.
abbrev pub network_again : Option Refusal → ℕ → Network → Reading
network_again (some r) room N = refused r
network_again none room N = with_room room (read N)

pub record NetworkWriteRead (N : Network) (out kinds a b : List ℕ) (r : Result Counts Refusal) (out' kinds' a' b' : List ℕ) : Type 0 where
  pub answer : r ≡ read_answer (network_again (write_fault N (length out)) (room_of kinds a b) N)
  pub rows : RowsFilled (reaches_read (network_again (write_fault N (length out)) (room_of kinds a b) N)) kinds a b kinds' a' b'
  pub file : out' ≡ bytes_written (write_fault N (length out)) (file_of N) ++ drop (length (bytes_written (write_fault N (length out)) (file_of N))) out

pub record TableWriteRead (N : Network) (out : List ℕ) (t : List Reach) (r : Result Counts Refusal) (out' : List ℕ) (t' : List Reach) : Type 0 where
  pub answer : r ≡ read_answer (network_again (write_fault N (length out)) (length t) N)
  pub table : t' ≡ left_in (network_again (write_fault N (length out)) (length t) N) t
  pub file : out' ≡ bytes_written (write_fault N (length out)) (file_of N) ++ drop (length (bytes_written (write_fault N (length out)) (file_of N))) out

-- What a file is written as that was read: refused where the reader refuses it or the buffer is too short, else the file itself.
abbrev pub file_again : Reading → List ℕ → ℕ → Option Refusal
file_again (refused r) file room = some r
file_again (read N) file room = room_for file room

pub record NetworkReadWrite (file kinds a b out : List ℕ) (r : Result ℕ Refusal) (kinds' a' b' out' : List ℕ) : Type 0 where
  pub again : Wrote (file_again (with_room (room_of kinds a b) (read_file file)) file (length out)) file out r out'
  pub rows : RowsFilled (reaches_read (with_room (room_of kinds a b) (read_file file))) kinds a b kinds' a' b'

pub record TableReadWrite (file : List ℕ) (t : List Reach) (out : List ℕ) (r : Result ℕ Refusal) (t' : List Reach) (out' : List ℕ) : Type 0 where
  pub again : Wrote (file_again (with_room (length t) (read_file file)) file (length out)) file out r out'
  pub table : t' ≡ left_in (with_room (length t) (read_file file)) t
