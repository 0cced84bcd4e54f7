-- The network file is read as it is written, and written as it is read.
-- Assumes nothing.
use Rattle.std.specs.Prelude.{Err, Ok, Result}
use Prim.Native.Nat.{ℕ, zero, suc, ◌+◌, ◌≤◌}
use native.Mathlib.Nat.{le_of_suc-le-suc}
use native.Mathlib.Omega.{arith}
use mathlib.Core.Path.{◌≡◌, refl, sym, ap, ◌∙◌}
use mathlib.Core.Bool.{Bool, true, false, cond, ◌&&◌, true≢false}
use mathlib.Core.List.{List, [], ◌∷◌, ◌++◌, append_assoc}
use lib.ListN.{length, get_or, take, drop, length-drop, length-append}
use lib.Seq.{drop-cons, drop-drop, get_or-drop}
use lib.Dec.{leb, eqb}
use borrow.Author.Tests.{leb-true, le-leb, eqb-true, eqb-false}
use mathlib.Mathlib.Data.Bool.Basic.{and_elim_left, and_elim_right, and_intro}
use Rattle.network.specs.declared.Kind.{Kind}
use Rattle.network.specs.declared.Kind.TheVariants.{Gated, Flap, TwoWay}
use Rattle.network.specs.declared.State.{State}
use Rattle.network.specs.declared.State.TheVariants.{InService, Shut}
use Rattle.network.specs.declared.Reach.{Reach}
use Rattle.network.specs.declared.Refusal.{Refusal}
use Rattle.network.specs.declared.Refusal.TheVariants.{BasinCount, TooManyReaches, EndOutOfRange, UnknownKind, TrailingBytes}
use Rattle.lists.specs.Lists.{every}
use Rattle.network.specs.Networks.{Network, Accepted, max_basins, max_reaches}
use Rattle.lists.specs.Words.{word_of}
use Rattle.file_records.specs.Records.{body_of, two_bytes, take_record, taken_answer}
use lib.Pow.{are_bytes}
use Rattle.netfile_format.specs.Files.{reach_kind, known_kind, record_kind, state_record, reach_record, reach_records, file_of, head_due, reach_due, good_inner, Reading, refused, read, at_end, with_reach, read_reaches, read_basins, read_file}
use Rattle.netfile_format.specs.Answers.{record_length, reach_at_front, reaches_at, span_of}
use Rattle.netfile_format.proofs.Marking.{Reaching, of-reach, comes-first, body-head, kind-byte}
use Rattle.file_records.proofs.Records.{word_bytes, bytes_drop, two-again, three-again}
use Rattle.file_records.proofs.Taking.{stands, value_taken}
use Rattle.netfile_format.proofs.Steps.{step-broken, step_end, reach_from, front_ends, ReachStep, reach-front, head_step, head_at, head-broken}
use Rattle.netfile_format.proofs.Accepting.{good}
use Rattle.network.proofs.Networks.{ends_below, fault-none}

-- ---- a reach's record, as it is written

kind-again : (d : Kind) → record_kind (reach_kind d) ≡ d
kind-again Gated = refl
kind-again Flap = refl
kind-again TwoWay = refl

kind-listed : (d : Kind) → known_kind (reach_kind d) ≡ true
kind-listed Gated = refl
kind-listed Flap = refl
kind-listed TwoWay = refl

-- the bytes f start with the record of the reach r, and rest comes after it
record Starts (r : Reach) (rest f : List ℕ) : Type 0 where
  pub taken : taken_answer (take_record reach_due f) ≡ Ok (get_or f 0 0)
  pub no_end : get_or f 0 0 ≡ 9 → ⊥
  pub inner : good_inner (get_or f 0 0) (drop 1 f) ≡ true
  pub reach : reach_at_front f ≡ r
  pub size : record_length (get_or f 0 0) ≡ length (reach_record r)
  pub left : drop (record_length (get_or f 0 0)) f ≡ rest

starts : (r : Reach) (rest : List ℕ) → Starts r rest (reach_record r ++ rest)
unfolding body_of
starts r rest = go r.state r.a r.b
  where
    four : leb 4 (suc (suc (suc (suc (length rest))))) ≡ true
    four = le-leb 4 (suc (suc (suc (suc (length rest))))) (omega arith)

    five : leb 5 (suc (suc (suc (suc (suc (length rest)))))) ≡ true
    five = le-leb 5 (suc (suc (suc (suc (suc (length rest)))))) (omega arith)

    go : (s : State) (a b : ℕ) → Starts (record { state = s; a = a; b = b }) rest (state_record s (two_bytes a ++ two_bytes b) ++ rest)
    go (InService Gated) a b = record { taken = rw four; no_end = λ e. omega arith; inner = refl; reach = rw (word_bytes a, word_bytes b); size = refl; left = refl }
    go (InService Flap) a b = record { taken = rw four; no_end = λ e. omega arith; inner = refl; reach = rw (word_bytes a, word_bytes b); size = refl; left = refl }
    go (InService TwoWay) a b = record { taken = rw four; no_end = λ e. omega arith; inner = refl; reach = rw (word_bytes a, word_bytes b); size = refl; left = refl }
    go (Shut d) a b = record { taken = rw five; no_end = λ e. omega arith; inner = kind-listed d; reach = rw (word_bytes a, word_bytes b, kind-again d); size = refl; left = refl }

-- ---- what is written is read again

read-reaches :
    (n left : ℕ) (t : List Reach) → length t ≤ left → every (ends_below n) t ≡ true
    → read_reaches n left (reach_records t ++ (9 ∷ [])) ≡ read (record { basins = n; reaches = t })
unfolding read_reaches body_of
read-reaches n zero [] l h = refl
read-reaches n (suc left) [] l h = refl
read-reaches n zero (r ∷ t) l h = absurd (omega arith)
read-reaches n (suc left) (r ∷ t) l h =
    ap (read_reaches n (suc left)) (append_assoc (reach_record r) (reach_records t) (9 ∷ []))
    ∙ one (read-reaches n left t (le_of_suc-le-suc l) (and_elim_right (ends_below n r) _ h))
  where
    rest : List ℕ
    rest = reach_records t ++ (9 ∷ [])

    f : List ℕ
    f = reach_record r ++ rest

    s : Starts r rest f
    s = starts r rest

    one : read_reaches n left rest ≡ read (record { basins = n; reaches = t }) → read_reaches n (suc left) f ≡ read (record { basins = n; reaches = r ∷ t })
    one e =
        (reach-front n f (get_or f 0 0) s.taken s.no_end).next left s.inner
        ∙ ap (λ x. cond (ends_below n x) (with_reach x (read_reaches n left (drop (record_length (get_or f 0 0)) f))) (refused EndOutOfRange)) (sym (front_ends f) ∙ s.reach)
        ∙ rw (s.left, and_elim_left (ends_below n r) _ h, e)

-- An accepted network that is written is read again as it was.
pub file-read-write : (N : Network) → Accepted N → read_file (file_of N) ≡ read N
file-read-write N h =
    (head_step (file_of N) 1 (omega arith) (value_taken head_due 1 N.basins (reach_records N.reaches ++ (9 ∷ [])) refl body-head)).next
    ∙ rw (word_bytes N.basins, (good N h).count)
    (read-reaches N.basins max_reaches N.reaches (leb-true (length N.reaches) max_reaches (good N h).few) (good N h).ends)

-- ---- what is read was written so

-- a reading that is a network, and what is then known of the bytes
record Unread (n left : ℕ) (f : List ℕ) (N : Network) : Type 0 where
  pub basins : N.basins ≡ n
  pub bytes : f ≡ reach_records N.reaches ++ (9 ∷ [])
  pub few : length N.reaches ≤ left
  pub ends : every (ends_below n) N.reaches ≡ true

-- the bytes of a record are those of the reach that they are read as
reach-again :
    (f : List ℕ) → are_bytes f ≡ true → (k : ℕ) → Reaching k → record_length k ≤ length f → f ≡ k ∷ drop 1 f → good_inner k (drop 1 f) ≡ true
    → f ≡ reach_record (reach_from k (drop 1 f) (drop 3 f)) ++ drop (record_length k) f
reach-again f b =
    of-reach (λ k. record_length k ≤ length f → f ≡ k ∷ drop 1 f → good_inner k (drop 1 f) ≡ true → f ≡ reach_record (reach_from k (drop 1 f) (drop 3 f)) ++ drop (record_length k) f)
    (λ l e g. five 2 l e) (λ l e g. five 3 l e) (λ l e g. five 4 l e) (λ l e g. five 5 (omega arith) e ∙ six l g)
  where
    -- "ends A, B", and what stands behind them
    ends : List ℕ → List ℕ
    ends rest = two_bytes (word_of (take 2 (drop 1 f))) ++ (two_bytes (word_of (take 2 (drop 3 f))) ++ rest)

    five : (k : ℕ) → 5 ≤ length f → f ≡ k ∷ drop 1 f → f ≡ k ∷ ends (drop 5 f)
    five k l e =
        e
        ∙ ap (λ g. k ∷ g) (two-again (drop 1 f) (bytes_drop 1 f b) (omega (arith, length-drop 1 f)))
        ∙ ap (λ g. k ∷ (two_bytes (word_of (take 2 (drop 1 f))) ++ g))
        (drop-drop 2 1 f ∙ two-again (drop 3 f) (bytes_drop 3 f b) (omega (arith, length-drop 3 f)) ∙ ap (λ g. two_bytes (word_of (take 2 (drop 3 f))) ++ g) (drop-drop 2 3 f))

    six : 6 ≤ length f → good_inner 5 (drop 1 f) ≡ true → 5 ∷ ends (drop 5 f) ≡ 5 ∷ ends (reach_kind (record_kind (get_or (drop 1 f) 4 0)) ∷ drop 6 f)
    six l g =
        ap (λ x. 5 ∷ ends x)
        (drop-cons f 5 0 (omega arith) ∙ ap (λ x. x ∷ drop 6 f) (sym (get_or-drop 1 f 4 0) ∙ sym (kind-byte (get_or (drop 1 f) 4 0) g)))

no-network {ℓ} : {A : Type ℓ} (r : Refusal) (N : Network) → refused r ≡ read N → A
no-network r N e = absurd (true≢false (cc))

end_is : (n : ℕ) (f : List ℕ) (N : Network) → at_end n f ≡ read N → (f ≡ []) × (N ≡ record { basins = n; reaches = [] })
end_is n [] N e = (refl, cc)
end_is n (x ∷ f) N e = no-network TrailingBytes N e

with-reach-is :
    (r : Reach) (x : Reading) (N : Network) → with_reach r x ≡ read N
    → (M : Network) × (x ≡ read M) × (N ≡ record { basins = M.basins; reaches = r ∷ M.reaches })
with-reach-is r (refused e) N h = no-network e N h
with-reach-is r (read M) N h = (M, refl, cc)

-- the end, which ends the file; a reach is left to h
unread-end :
    (n left : ℕ) (f : List ℕ) (N : Network) → read_reaches n left f ≡ read N
    → ((k : ℕ) → taken_answer (take_record reach_due f) ≡ Ok k → (k ≡ 9 → ⊥) → Unread n left f N) → Unread n left f N
unread-end n left f N e h = go (taken_answer (take_record reach_due f)) refl
  where
    ended : taken_answer (take_record reach_due f) ≡ Ok 9 → Unread n left f N
    ended w =
        let x = end_is n (drop 1 f) N (sym (step_end n left f w) ∙ e) in
        rw x.1
        (record {
          basins = refl;
          bytes = (stands reach_due f 9 w).starts ∙ ap (λ l. 9 ∷ l) x.0;
          few = omega arith;
          ends = refl;
        })

    go : (a : Result ℕ Refusal) → taken_answer (take_record reach_due f) ≡ a → Unread n left f N
    go (Err r) w = no-network r N (sym (step-broken n left f r w) ∙ e)
    go (Ok k) w = test (eqb k 9) refl
      where
        test : (b : Bool) → eqb k 9 ≡ b → Unread n left f N
        test true q = ended (w ∙ ap Ok (eqb-true k 9 q))
        test false q = h k w (eqb-false k 9 q)

-- a reach, and what is known of the bytes after it
unread-reach :
    (n left : ℕ) (f : List ℕ) (N : Network) (k : ℕ) → are_bytes f ≡ true → taken_answer (take_record reach_due f) ≡ Ok k → (k ≡ 9 → ⊥)
    → good_inner k (drop 1 f) ≡ true → read_reaches n (suc left) f ≡ read N
    → ((M : Network) → read_reaches n left (drop (record_length k) f) ≡ read M → Unread n left (drop (record_length k) f) M)
    → Unread n (suc left) f N
unread-reach n left f N k b w q i e rec = go (ends_below n r) refl
  where
    r : Reach
    r = reach_from k (drop 1 f) (drop 3 f)

    s : ReachStep n f k
    s = reach-front n f k w q

    goes : cond (ends_below n r) (with_reach r (read_reaches n left (drop (record_length k) f))) (refused EndOutOfRange) ≡ read N
    goes = sym (s.next left i) ∙ e

    go : (x : Bool) → ends_below n r ≡ x → Unread n (suc left) f N
    go true g =
        let x = with-reach-is r (read_reaches n left (drop (record_length k) f)) N (rw g at goes) in
        let u = rec x.0 x.1 in
        let v = stands reach_due f k w in
        rw x.2
        (record {
          basins = u.basins;
          bytes =
              reach-again f b k (record { comes = v.comes; no_end = q }) s.fits v.starts i
              ∙ ap (λ l. reach_record r ++ l) u.bytes
              ∙ sym (append_assoc (reach_record r) (reach_records x.0.reaches) (9 ∷ []));
          few = omega (arith, u.few);
          ends = and_intro g u.ends;
        })
    go false g = no-network EndOutOfRange N (rw g at goes)

-- its inner kind, without which nothing is read; a good one is left to h
unread-inner :
    (n left : ℕ) (f : List ℕ) (N : Network) (k : ℕ) → taken_answer (take_record reach_due f) ≡ Ok k → (k ≡ 9 → ⊥) → read_reaches n left f ≡ read N
    → (good_inner k (drop 1 f) ≡ true → Unread n left f N) → Unread n left f N
unread-inner n left f N k w q e h = go (good_inner k (drop 1 f)) refl
  where
    go : (x : Bool) → good_inner k (drop 1 f) ≡ x → Unread n left f N
    go true i = h i
    go false i = no-network UnknownKind N (sym ((reach-front n f k w q).unknown left i) ∙ e)

unread : (n left : ℕ) (f : List ℕ) (N : Network) → are_bytes f ≡ true → read_reaches n left f ≡ read N → Unread n left f N
unread n zero f N b e =
    unread-end n zero f N e
    (λ k w q. unread-inner n zero f N k w q e (λ i. no-network TooManyReaches N (sym ((reach-front n f k w q).full i) ∙ e)))
unread n (suc left) f N b e =
    unread-end n (suc left) f N e
    (λ k w q.
    unread-inner n (suc left) f N k w q e
    (λ i. unread-reach n left f N k b w q i e (λ M h. unread n left (drop (record_length k) f) M (bytes_drop (record_length k) f b) h)))

-- what was read was written so
pub record WasWritten (f : List ℕ) (N : Network) : Type 0 where
  pub bytes : f ≡ file_of N
  pub accepted : Accepted N

-- A file that is read as a network is the one that is written for it, and the network is accepted.
pub file-write-read : (f : List ℕ) (N : Network) → are_bytes f ≡ true → read_file f ≡ read N → WasWritten f N
file-write-read f N b e = go (taken_answer (take_record head_due f)) refl
  where
    n : ℕ
    n = word_of (take 2 (drop 1 f))

    good-head :
        (k : ℕ) → taken_answer (take_record head_due f) ≡ Ok k → leb 1 n && leb n max_basins ≡ true → read_reaches n max_reaches (drop 3 f) ≡ read N
        → WasWritten f N
    good-head k w g h =
        let u = unread n max_reaches (drop 3 f) N (bytes_drop 3 f b) h in
        let v = stands head_due f k w in
        let first : f ≡ 1 ∷ drop 1 f = v.starts ∙ ap (λ x. x ∷ drop 1 f) (comes-first k v.comes) in
        record {
          bytes =
              three-again 1 f (reach_records N.reaches ++ (9 ∷ [])) b (head_at f k w).fits first u.bytes
              ∙ ap (λ m. 1 ∷ (two_bytes m ++ (reach_records N.reaches ++ (9 ∷ [])))) (sym u.basins);
          accepted = fault-none N (rw u.basins g) (le-leb (length N.reaches) max_reaches u.few) (rw u.basins u.ends);
        }

    value :
        (k : ℕ) → taken_answer (take_record head_due f) ≡ Ok k → (x : Bool) → leb 1 n && leb n max_basins ≡ x
        → read_basins n (drop 3 f) ≡ read N → WasWritten f N
    value k w true g h = good-head k w g (rw g at h)
    value k w false g h = no-network BasinCount N (rw g at h)

    go : (a : Result ℕ Refusal) → taken_answer (take_record head_due f) ≡ a → WasWritten f N
    go (Err r) w = no-network r N (sym (head-broken f r w) ∙ e)
    go (Ok k) w = value k w (leb 1 n && leb n max_basins) refl (sym (head_at f k w).next ∙ e)

-- Two files that are read as one network are the same bytes.
pub same-file : (f g : List ℕ) (N : Network) → are_bytes f ≡ true → are_bytes g ≡ true → read_file f ≡ read N → read_file g ≡ read N → f ≡ g
same-file f g N p q d e = (file-write-read f N p d).bytes ∙ sym (file-write-read g N q e).bytes

-- the length of a network file: the head and the end take four bytes
pub length-file : (N : Network) → length (file_of N) ≡ 4 + length (reach_records N.reaches)
length-file N = omega (arith, length-append (reach_records N.reaches) (9 ∷ []))

-- the reaches of the records of a table, and their length
pub reaches-again : (t : List Reach) (rest : List ℕ) → reaches_at (length t) (reach_records t ++ rest) ≡ t
reaches-again [] rest = refl
reaches-again (r ∷ t) rest =
    let s = starts r (reach_records t ++ rest) in
    ap (reaches_at (suc (length t))) (append_assoc (reach_record r) (reach_records t) rest) ∙ rw (s.reach, s.left) (ap (λ l. r ∷ l) (reaches-again t rest))

pub span-again : (t : List Reach) (rest : List ℕ) → span_of (length t) (reach_records t ++ rest) ≡ length (reach_records t)
span-again [] rest = refl
span-again (r ∷ t) rest =
    let s = starts r (reach_records t ++ rest) in
    ap (span_of (suc (length t))) (append_assoc (reach_record r) (reach_records t) rest)
    ∙ rw (s.left, s.size, span-again t rest) (sym (length-append (reach_record r) (reach_records t)))
