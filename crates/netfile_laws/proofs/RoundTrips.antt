-- Writing and then reading, and reading and then writing, by what the two calls promise: once for any room, then over rows (the calls of `netfile_rows`)
-- and over a table of records (the calls of `netfile`). Where the first call refuses, its refusal is handed on and the second is not made.
-- Assumes nothing.
use Rattle.network.specs.declared.Counts.{Counts}
use Rattle.std.specs.Prelude.{Err, Ok, Result}
use Prim.Native.Nat.{ℕ}
use mathlib.Core.Path.{◌≡◌, refl, sym, ap, subst, subst⁻¹, ◌∙◌}
use mathlib.Core.Bool.{true}
use mathlib.Core.List.{List}
use mathlib.Core.Option.{none}
use lib.ListN.{length, take, drop}
use lib.Seq.{take_at}
use Rattle.network.specs.declared.Reach.{Reach}
use Rattle.network.specs.declared.Refusal.{Refusal}
use Rattle.network.specs.Networks.{Network, table_fault, net, counts}
use Rattle.tables.specs.Rows.{net_of, room_of, RowsFilled}
use lib.Pow.{are_bytes}
use Rattle.netfile_format.specs.Files.{file_of, Reading, refused, read_file}
use Rattle.netfile_format.specs.Answers.{read_answer, with_room, reaches_read, NetworkRead, left_in, ReadTable, write_fault, NetworkWritten}
use Rattle.file_records.specs.Puts.{Wrote, room_for, WroteWhole}
use Rattle.network.specs.Replies.{first_of}
use Rattle.netfile_laws.specs.Laws.{network_again, NetworkWriteRead, TableWriteRead, file_again, NetworkReadWrite, TableReadWrite}
use Rattle.network.proofs.Replies.{first-of-none}
use Rattle.file_records.proofs.Puts.{put_refused, unwritten, written, written-front}
use Rattle.netfile_format.proofs.Files.{file-read-write, WasWritten, file-write-read}
use Rattle.netfile_format.proofs.Calls.{reading-refused, Counted, answer-read, room-kept, counted, same-network}

-- ---- written, then read

module _ (N : Network) {out out' : List ℕ} where
  unwritten-again : (room : ℕ) {x : Refusal} → NetworkWritten N out (Err x) out' → network_again (write_fault N (length out)) room N ≡ refused x
  unwritten-again room {x} w = ap (λ o. network_again o room N) (unwritten (write_fault N (length out)) (file_of N) out out' x w)

  written-again : (room : ℕ) {n : ℕ} → NetworkWritten N out (Ok n) out' → with_room room (read_file (take n out')) ≡ network_again (write_fault N (length out)) room N
  written-again room {n} w =
      let sound : write_fault N (length out) ≡ none = written (write_fault N (length out)) (file_of N) out out' n w in
      ap (λ f. with_room room (read_file f)) (written-front (write_fault N (length out)) (file_of N) out out' n w)
      ∙ ap (with_room room) (file-read-write N (first-of-none (table_fault N) (room_for (file_of N) (length out)) sound).0)
      ∙ ap (λ o. network_again o room N) (sym sound)

  -- over rows
  module _ {kinds a b : List ℕ} where
    pub rows-unwritten : {x : Refusal} → NetworkWritten N out (Err x) out' → NetworkWriteRead N out kinds a b (Err x) out' kinds a b
    rows-unwritten w =
        let e = unwritten-again (room_of kinds a b) w in
        record {
          answer = sym (ap read_answer e);
          rows = subst⁻¹ (λ y. RowsFilled (reaches_read y) kinds a b kinds a b) e (record { kind_row = refl; a-row = refl; b-row = refl });
          file = w.bytes;
        }

    pub rows-read-again :
        {n : ℕ} {r : Result Counts Refusal} {kinds' a' b' : List ℕ} → NetworkWritten N out (Ok n) out' → NetworkRead (take n out') kinds a b r kinds' a' b'
        → NetworkWriteRead N out kinds a b r out' kinds' a' b'
    rows-read-again {kinds'} {a'} {b'} w c =
        let e = written-again (room_of kinds a b) w in
        record { answer = c.answer ∙ ap read_answer e; rows = subst (λ y. RowsFilled (reaches_read y) kinds a b kinds' a' b') e c.rows; file = w.bytes }

  -- over a table of records
  module _ {t : List Reach} where
    pub table-unwritten : {x : Refusal} → NetworkWritten N out (Err x) out' → TableWriteRead N out t (Err x) out' t
    table-unwritten w = let e = unwritten-again (length t) w in record { answer = sym (ap read_answer e); table = sym (ap (λ y. left_in y t) e); file = w.bytes }

    pub table-read-again : {n : ℕ} {r : Result Counts Refusal} {t' : List Reach} → NetworkWritten N out (Ok n) out' → ReadTable (take n out') t r t' → TableWriteRead N out t r out' t'
    table-read-again w c = let e = written-again (length t) w in record { answer = c.answer ∙ ap read_answer e; table = c.table ∙ ap (λ y. left_in y t) e; file = w.bytes }

-- ---- read, then written

module _ (file out : List ℕ) where
  unread : (x : Reading) {r : Refusal} → Err r ≡ read_answer x → Wrote (file_again x file (length out)) file out (Err r) out
  unread x {r} e = put_refused file out r (ap (λ y. file_again y file (length out)) (reading-refused x r (sym e)))

  -- the network that was read with so much room is accepted, so that only the room is left to be judged, and its file is the file
  file-again :
      (room : ℕ) {n m : ℕ} (C : Counted (with_room room (read_file file)) n m) → are_bytes file ≡ true → {r : Result ℕ Refusal} {out' : List ℕ} → NetworkWritten C.network out r out'
      → Wrote (file_again (with_room room (read_file file)) file (length out)) file out r out'
  file-again room C bytes {r} {out'} w =
      subst⁻¹ (λ x. Wrote (file_again x file (length out)) file out r out') C.is
      (subst⁻¹ (λ f. WroteWhole f out r out') was.bytes
      (subst (λ o. Wrote (first_of o (room_for (file_of C.network) (length out))) (file_of C.network) out r out') was.accepted w))
    where
      was : WasWritten file C.network
      was = file-write-read file C.network bytes (room-kept room (read_file file) C.network C.is)

module _ {file out : List ℕ} where
  -- over rows
  module _ {kinds a b kinds' a' b' : List ℕ} where
    pub rows-unread : {r : Refusal} → NetworkRead file kinds a b (Err r) kinds' a' b' → NetworkReadWrite file kinds a b out (Err r) kinds' a' b' out
    rows-unread c = record { again = unread file out (with_room (room_of kinds a b) (read_file file)) c.answer; rows = c.rows }

    pub rows-written-again :
        {n m : ℕ} {r : Result ℕ Refusal} {out' : List ℕ} → are_bytes file ≡ true → NetworkRead file kinds a b (Ok (counts n m)) kinds' a' b'
        → NetworkWritten (net_of n (take m kinds') (take m a') (take m b')) out r out' → NetworkReadWrite file kinds a b out r kinds' a' b' out'
    rows-written-again {n} {m} {r} {out'} bytes c w =
        record {
          again =
              file-again file out (room_of kinds a b) (counted file kinds a b kinds' a' b' n m c) bytes
              (subst (λ N. NetworkWritten N out r out') (same-network file kinds a b kinds' a' b' n m c) w);
          rows = c.rows;
        }

  -- over a table of records
  module _ {t t' : List Reach} where
    pub table-unread : {r : Refusal} → ReadTable file t (Err r) t' → TableReadWrite file t out (Err r) t' out
    table-unread c = record { again = unread file out (with_room (length t) (read_file file)) c.answer; table = c.table }

    pub table-written-again :
        {n m : ℕ} {r : Result ℕ Refusal} {out' : List ℕ} → are_bytes file ≡ true → ReadTable file t (Ok (counts n m)) t' → NetworkWritten (net n (take m t')) out r out'
        → TableReadWrite file t out r t' out'
    table-written-again {n} {m} {r} {out'} bytes c w =
        record { again = file-again file out (length t) C bytes (subst (λ N. NetworkWritten N out r out') same w); table = c.table }
      where
        C : Counted (with_room (length t) (read_file file)) n m
        C = answer-read (with_room (length t) (read_file file)) n m (sym c.answer)

        front : take m t' ≡ C.network.reaches
        front =
            ap (take m) (c.table ∙ ap (λ x. left_in x t) C.is)
            ∙ take_at C.network.reaches (drop (length C.network.reaches) t) m C.reaches

        same : net n (take m t') ≡ C.network
        same = λ i. net (sym C.basins i) (front i)
