-- What the reader's two passes and the writer's stores come to, case by case.
-- Assumes nothing.
use Rattle.std.specs.Prelude.{Err, Ok, Result}
use Prim.Native.Nat.{ℕ, ◌+◌, ◌-◌, ◌≤◌, ◌<◌}
use native.Mathlib.Omega.{arith}
use mathlib.Core.Path.{◌≡◌, refl, sym, ap, subst, ◌∙◌}
use mathlib.Core.Bool.{Bool, true, false, cond, true≢false}
use mathlib.Core.List.{List, [], ◌∷◌, ◌++◌}
use mathlib.Core.Option.{none, some}
use lib.ListN.{length, take, drop, set}
use lib.Seq.{sets}
use lib.Dec.{leb}
use borrow.Author.Tests.{le-leb, lt-leb}
use Rattle.network.specs.declared.Refusal.{Refusal}
use Rattle.network.specs.declared.Refusal.TheVariants.{ShortBuffer}
use Rattle.network.specs.Networks.{Network, table_fault, counts, counts_of}
use Rattle.tables.specs.Rows.{net_of, room_of, RowsFilled}
use Rattle.tables.proofs.Filling.{filled-long, filled-table}
use lib.Pow.{are_bytes}
use Rattle.file_records.specs.Records.{two_bytes}
use Rattle.netfile_format.specs.Files.{Reading, refused, read, read_file, reach_records, file_of}
use Rattle.netfile_format.specs.Answers.{read_answer, with_room, reaches_read, NetworkRead, reaches_at, span_of, Fills, NetworkWritten, read_number, reading_number}
use Rattle.file_records.specs.Puts.{Wrote, room_for, WroteWhole}
use Rattle.network.specs.Replies.{first_of}
use Rattle.netfile_format.proofs.Files.{file-write-read, length-file, reaches-again, span-again}
use Rattle.lists.proofs.Lists.{sets-after}
use Rattle.file_records.proofs.Puts.{put_refused, put-short, put_whole}

pub reading-refused : (x : Reading) (r : Refusal) → read_answer x ≡ Err r → x ≡ refused r
reading-refused (refused e) r h = cc
reading-refused (read N) r h = cc

-- a reading whose answer is two counts is a network with these counts
pub record Counted (x : Reading) (n m : ℕ) : Type 0 where
  pub network : Network
  pub is : x ≡ read network
  pub basins : network.basins ≡ n
  pub reaches : length network.reaches ≡ m

pub answer-read : (x : Reading) (n m : ℕ) → read_answer x ≡ Ok (counts n m) → Counted x n m
answer-read (refused e) n m h = absurd (true≢false (cc))
answer-read (read N) n m h =
    let e : counts_of N ≡ counts n m = cc in
    record { network = N; is = refl; basins = ap (λ c. c.basins) e; reaches = ap (λ c. c.reaches) e }

number_read : (x : Reading) → read_number (read_answer x) ≡ reading_number x
number_read (refused r) = refl
number_read (read N) = refl

module _ (file kinds a b : List ℕ) where
  -- the call, by what is read where there is so much room
  call-of :
      (kinds' a' b' : List ℕ) (x : Reading) → with_room (room_of kinds a b) (read_file file) ≡ x
      → RowsFilled (reaches_read x) kinds a b kinds' a' b' → NetworkRead file kinds a b (read_answer x) kinds' a' b'
  call-of kinds' a' b' x e rows =
      record { answer = ap read_answer (sym e); number = number_read x ∙ ap reading_number (sym e); rows = subst (λ y. RowsFilled (reaches_read y) kinds a b kinds' a' b') (sym e) rows }

  untouched : RowsFilled [] kinds a b kinds a b
  untouched = record { kind_row = refl; a-row = refl; b-row = refl }

  pub call-refused : (r : Refusal) → read_answer (read_file file) ≡ Err r → NetworkRead file kinds a b (Err r) kinds a b
  call-refused r h = call-of kinds a b (refused r) (rw (reading-refused (read_file file) r h)) untouched

  module _ (n m : ℕ) (h : read_answer (read_file file) ≡ Ok (counts n m)) where
    C : Counted (read_file file) n m
    C = answer-read (read_file file) n m h

    pub call-short : room_of kinds a b < m → NetworkRead file kinds a b (Err ShortBuffer) kinds a b
    call-short l =
        call-of kinds a b (refused ShortBuffer)
        (rw (C.is, lt-leb (length C.network.reaches) (room_of kinds a b) (omega (arith, C.reaches))))
        untouched

    module _ (bytes : are_bytes file ≡ true) (l : m ≤ room_of kinds a b) where
      written : file ≡ file_of C.network
      written = (file-write-read file C.network bytes C.is).bytes

      -- what the records of a table are read as by f
      of-table : {A : Type 0} (f : ℕ → List ℕ → A) → f m (drop 3 file) ≡ f (length C.network.reaches) (reach_records C.network.reaches ++ (9 ∷ []))
      of-table f = ap (λ l. f m (drop 3 l)) written ∙ ap (λ k. f k (drop 3 (file_of C.network))) (sym C.reaches)

      pub call-fills : Fills file m kinds a b
      call-fills =
          record {
            records = omega (arith, of-table span_of, span-again C.network.reaches (9 ∷ []), ap length written, length-file C.network);
            kind-room = omega arith;
            a-room = omega arith;
            b-room = omega arith;
          }

      table : reaches_at m (drop 3 file) ≡ C.network.reaches
      table = of-table reaches_at ∙ reaches-again C.network.reaches (9 ∷ [])

      pub call-read :
          (kinds' a' b' : List ℕ) → RowsFilled (reaches_at m (drop 3 file)) kinds a b kinds' a' b' → NetworkRead file kinds a b (Ok (counts n m)) kinds' a' b'
      call-read kinds' a' b' rows =
          subst (λ r. NetworkRead file kinds a b r kinds' a' b') (rw (C.basins, C.reaches))
          (call-of kinds' a' b' (read C.network)
          (rw (C.is, le-leb (length C.network.reaches) (room_of kinds a b) (omega (arith, C.reaches))))
          (rw table at rows))

-- a network that was read within the room of the rows was read
pub room-kept : (room : ℕ) (x : Reading) (N : Network) → with_room room x ≡ read N → x ≡ read N
room-kept room (refused r) N h = h
room-kept room (read M) N h = go (leb (length M.reaches) room) h
  where
    go : (t : Bool) → cond t (read M) (refused ShortBuffer) ≡ read N → read M ≡ read N
    go true e = e
    go false e = cc

-- ---- the rows after a reading

module _ (file kinds a b kinds' a' b' : List ℕ) (n m : ℕ) (c : NetworkRead file kinds a b (Ok (counts n m)) kinds' a' b') where
  pub counted : Counted (with_room (room_of kinds a b) (read_file file)) n m
  counted = answer-read (with_room (room_of kinds a b) (read_file file)) n m (sym c.answer)

  rows : RowsFilled counted.network.reaches kinds a b kinds' a' b'
  rows = subst (λ x. RowsFilled (reaches_read x) kinds a b kinds' a' b') counted.is c.rows

  -- they hold what was read in their first m entries
  pub rows_long : (m ≤ length kinds') × (m ≤ length a') × (m ≤ length b')
  rows_long = filled-long counted.network.reaches rows m counted.reaches

  pub same-network : net_of n (take m kinds') (take m a') (take m b') ≡ counted.network
  same-network = λ i. record { basins = sym counted.basins i; reaches = filled-table counted.network.reaches rows m counted.reaches i }

-- ---- the writer

module _ (N : Network) (out : List ℕ) where
  pub write-refused : (r : Refusal) → table_fault N ≡ some r → NetworkWritten N out (Err r) out
  write-refused r h = put_refused (file_of N) out r (rw h)

  module _ (h : table_fault N ≡ none) (size : ℕ) (e : size ≡ length (file_of N)) where
    -- an accepted table leaves only the room to be judged
    fits : {r : Result ℕ Refusal} {out' : List ℕ} → WroteWhole (file_of N) out r out' → NetworkWritten N out r out'
    fits {r} {out'} p = subst (λ o. Wrote (first_of o (room_for (file_of N) (length out))) (file_of N) out r out') (sym h) p

    pub write-short : length out < size → NetworkWritten N out (Err ShortBuffer) out
    write-short l = fits (put-short (file_of N) out (omega arith))

    pub write_done :
        (l₁ l₂ : List ℕ) → size ≤ length out → l₁ ≡ sets (set out 0 1) 1 (two_bytes N.basins) → l₂ ≡ sets l₁ 3 (reach_records N.reaches)
        → NetworkWritten N out (Ok size) (set l₂ (size - 1) 9)
    write_done l₁ l₂ l p q = fits (put_whole (file_of N) out size (set l₂ (size - 1) 9) e l whole)
      where
        front : List ℕ
        front = (1 ∷ two_bytes N.basins) ++ reach_records N.reaches

        behind-head : l₂ ≡ sets out 0 front
        behind-head =
            q
            ∙ ap (λ l. sets l 3 (reach_records N.reaches)) p
            ∙ sets-after out 0 3 (1 ∷ two_bytes N.basins) (reach_records N.reaches) (omega arith)

        place : size - 1 ≡ 0 + length front
        place = omega (arith, length-file N)

        whole : set l₂ (size - 1) 9 ≡ sets out 0 (file_of N)
        whole = ap (λ l. set l (size - 1) 9) behind-head ∙ sets-after out 0 (size - 1) front (9 ∷ []) place
