-- The start: the file's first bytes are read, and the first line is found.
-- Assumes nothing.
use Rattle.network.specs.declared.Counts.{Counts}
use Rattle.std.specs.Prelude.{Err, Ok, Result}
use Prim.Native.Nat.{ℕ, zero, suc, ◌≤◌, min}
use native.Mathlib.Omega.{arith}
use mathlib.Core.Path.{◌≡◌, refl, sym, ap, subst, ◌∙◌}
use mathlib.Core.Bool.{true}
use mathlib.Core.List.{List, [], ◌∷◌, ◌++◌, map}
use lib.ListN.{length, take, drop, length-append, length-map}
use lib.Dec.{ltb}
use borrow.Author.Tests.{le-leb}
use Rattle.lists.proofs.Lists.{take_min}
use mathlib.Mathlib.Data.Bool.Basic.{and_elim_left, and_elim_right, and_intro}
use Rattle.network.specs.declared.Reach.{Reach}
use Rattle.network.specs.declared.Refusal.{Refusal}
use Rattle.network.specs.Networks.{max_reaches, Accepted, counts}
use Rattle.network.specs.Replies.{refusal_number}
use Rattle.network.proofs.Networks.{accepted}
use Rattle.tables.specs.Rows.{net_of, room_of}
use lib.Pow.{are_bytes}
use Rattle.netfile_format.specs.Files.{Reading, refused, read, read_file}
use Rattle.netfile_format.specs.Answers.{with_room, reaches_read, NetworkRead}
use Rattle.netfile_format.proofs.Files.{file-write-read}
use Rattle.netfile_format.proofs.Calls.{room-kept, reading-refused, Counted, counted, same-network}
use Rattle.listing_state.specs.declared.Lister.{Lister}
use Rattle.listing_state.specs.declared.Started.{Started}
use Rattle.lines.specs.Listings.{max_bytes, max_plans, reply_lines, reading_lines, listing}
use Rattle.listing_state.specs.Pending.{pending_of, pending, file_read, Starting}
use Rattle.listing_state.specs.Parts.{FirstLine, RefusalLine}
use Rattle.listing_state.proofs.States.{first-roomy, refusal-pending}

-- what is read of them is read of the first 8,000
pub front_read : (file : List ℕ) {n : ℕ} {kinds a b kinds' a' b' : List ℕ} {r : Result Counts Refusal} → n ≡ min (length file) max_bytes → NetworkRead (take n file) kinds a b r kinds' a' b' → NetworkRead (take max_bytes file) kinds a b r kinds' a' b'
front_read file {kinds} {a} {b} {kinds'} {a'} {b'} {r} e c =
    subst (λ f. NetworkRead f kinds a b r kinds' a' b') (ap (λ (k : ℕ). take k file) e ∙ take_min max_bytes file) c

pub bytes-first : (m : ℕ) (file : List ℕ) → are_bytes file ≡ true → are_bytes (take m file) ≡ true
bytes-first zero file b = refl
bytes-first (suc m) [] b = refl
bytes-first (suc m) (x ∷ file) b = and_intro (and_elim_left (ltb x 256) _ b) (bytes-first m file (and_elim_right (ltb x 256) _ b))

module _ (file kinds a b kinds' a' b' : List ℕ) where
  -- the file is refused
  pub start-refused : (r : Refusal) (l : Lister) → NetworkRead (take max_bytes file) kinds a b (Err r) kinds' a' b' → RefusalLine (refusal_number r) l → Starting file kinds a b (record { lister = l; reaches = 0 }) kinds' a' b'
  start-refused r l c state =
      let none_read : file_read file kinds a b ≡ refused r = reading-refused _ r (sym c.answer) in
      record { rows = c.rows; counted = rw none_read; to-print = rw none_read (refusal-pending _ _ l state) }

  module _ (n m : ℕ) (c : NetworkRead (take max_bytes file) kinds a b (Ok (counts n m)) kinds' a' b') where
    abbrev C : Counted (file_read file kinds a b) n m
    C = counted (take max_bytes file) kinds a b kinds' a' b' n m c

    same : net_of n (take m kinds') (take m a') (take m b') ≡ C.network
    same = same-network (take max_bytes file) kinds a b kinds' a' b' n m c

    -- the file is read
    pub start-read : (l : Lister) → are_bytes (take max_bytes file) ≡ true → FirstLine n (take m kinds') (take m a') (take m b') l → Starting file kinds a b (record { lister = l; reaches = m }) kinds' a' b'
    start-read l bytes state =
        record {
          rows = c.rows;
          counted = rw C.is (sym C.reaches);
          to-print =
              rw C.is
              (ap (λ (k : ℕ). pending_of (net_of k (take m kinds') (take m a') (take m b')) l) state.basins-kept
              ∙ state.lines
              ∙ rw same
              (ap (reply_lines C.network max_plans) (first-roomy C.network good-table)));
        }
      where
        good-table : Accepted C.network
        good-table = (file-write-read (take max_bytes file) C.network bytes (room-kept _ (read_file (take max_bytes file)) C.network C.is)).accepted

-- ---- what a caller of the start knows

module _ (file kinds a b kinds' a' b' : List ℕ) (r : Started) (s : Starting file kinds a b r kinds' a' b') where
  row-long : (g : Reach → ℕ) (row row' : List ℕ) → row' ≡ map g (reaches_read (file_read file kinds a b)) ++ drop (length (reaches_read (file_read file kinds a b))) row → r.reaches ≤ length row'
  row-long g row row' e =
      let t = reaches_read (file_read file kinds a b) in
      omega (arith, ap length e, length-append (map g t) (drop (length t) row), length-map t g, s.counted)

  -- the rows hold the reaches
  pub started-long : (r.reaches ≤ length kinds') × (r.reaches ≤ length a') × (r.reaches ≤ length b')
  started-long = (row-long _ kinds kinds' s.rows.kind_row, row-long _ a a' s.rows.a-row, row-long _ b b' s.rows.b-row)

  -- with rows for as many reaches as there may be, all lines of the file are to be printed
  module _ (bytes : are_bytes file ≡ true) (room : max_reaches ≤ room_of kinds a b) where
    room-enough : (x : Reading) → read_file (take max_bytes file) ≡ x → with_room (room_of kinds a b) x ≡ x
    room-enough (refused e) h = refl
    room-enough (read N) h =
        rw (le-leb (length N.reaches) (room_of kinds a b) (omega (arith, (accepted N (file-write-read (take max_bytes file) N (bytes-first max_bytes file bytes) h).accepted).few-reaches)))

    pub started-listing : pending r.lister (take r.reaches kinds') (take r.reaches a') (take r.reaches b') ≡ listing file
    unfolding listing
    started-listing = s.to-print ∙ ap reading_lines (room-enough (read_file (take max_bytes file)) refl)
