-- One record after the head: what it does to the reading of a file.
-- Assumes nothing.
use Rattle.std.specs.Prelude.{Err, Ok}
use Prim.Native.Nat.{ℕ, zero, suc, ◌+◌, ◌-◌, ◌≤◌}
use native.Mathlib.Omega.{arith}
use mathlib.Core.Path.{◌≡◌, refl, sym, ap, ◌∙◌}
use mathlib.Core.Bool.{Bool, true, false, cond}
use mathlib.Core.List.{List, [], ◌∷◌}
use lib.ListN.{length, get_or, take, drop, length-drop}
use lib.Seq.{take-nil, take-take, drop-drop, get_or-take, get_or-drop}
use lib.Dec.{eqb}
use borrow.Author.Tests.{eq-eqb, ne_eqb}
use Rattle.network.specs.declared.Kind.{Kind}
use Rattle.network.specs.declared.Kind.TheVariants.{Gated, Flap, TwoWay}
use Rattle.network.specs.declared.State.TheVariants.{InService, Shut}
use Rattle.network.specs.declared.Reach.{Reach}
use Rattle.network.specs.declared.Refusal.{Refusal}
use Rattle.network.specs.declared.Refusal.TheVariants.{BasinCount, TooManyReaches, EndOutOfRange, UnknownKind}
use Rattle.network.specs.Networks.{max_basins, max_reaches}
use Rattle.network.specs.Tables.{state_number}
use Rattle.lists.specs.Words.{word_of}
use Rattle.network.proofs.Networks.{ends_below}
use Rattle.tables.proofs.Faults.{count-good, count-bad}
use Rattle.file_records.specs.Records.{body_of, broken, whole, take_record, taken_answer}
use Rattle.netfile_format.specs.Files.{known_kind, record_kind, head_due, reach_due, inner_kind, record_state, good_inner, record_reach, refused, at_end, with_reach, read_reaches, read_basins, read_file}
use Rattle.netfile_format.specs.Answers.{record_length, reach_at_front}
use Rattle.file_records.proofs.Taking.{broken-is, Stands, stands, same_size}
use Rattle.netfile_format.proofs.Marking.{Reaching, of-reach, comes-first, body-reach, body-head}
use Rattle.file_records.proofs.Records.{body_end}

module _ (n : ℕ) (left : ℕ) (f : List ℕ) where
  pub step-broken : (r : Refusal) → taken_answer (take_record reach_due f) ≡ Err r → read_reaches n left f ≡ refused r
  unfolding read_reaches
  step-broken r e = go left
    where
      is : take_record reach_due f ≡ broken r
      is = broken-is (take_record reach_due f) r e

      go : (left : ℕ) → read_reaches n left f ≡ refused r
      go zero = rw is
      go (suc left) = rw is

  pub step_end : taken_answer (take_record reach_due f) ≡ Ok 9 → read_reaches n left f ≡ at_end n (drop 1 f)
  unfolding read_reaches
  step_end e = go left
    where
      s : Stands reach_due f 9
      s = stands reach_due f 9 e

      none_left : s.size ≡ 0
      none_left = same_size s.sized body_end

      is : take_record reach_due f ≡ whole 9 (take 0 (drop 1 f)) (drop 0 (drop 1 f))
      is = rw none_left at s.taken

      go : (left : ℕ) → read_reaches n left f ≡ at_end n (drop 1 f)
      go zero = rw is
      go (suc left) = rw is

-- the reach whose kind byte is k, its ends at the front of the bytes x and y; a shut one has its inner kind behind its ends
abbrev pub reach_from : ℕ → List ℕ → List ℕ → Reach
reach_from k x y = record { state = record_state k x; a = word_of (take 2 x); b = word_of (take 2 y) }

pub front_ends : (f : List ℕ) → reach_at_front f ≡ reach_from (get_or f 0 0) (drop 1 f) (drop 3 f)
front_ends f = rw (drop-drop 2 1 f)

pub record-long : (k : ℕ) → 5 ≤ record_length k
record-long k = go (eqb k 5)
  where
    go : (x : Bool) → 5 ≤ cond x 6 5
    go true = omega arith
    go false = omega arith

-- ---- a body is the front of what stands behind its kind byte

after_two : (n : ℕ) (f : List ℕ) → drop 2 (take (suc (suc n)) f) ≡ take n (drop 2 f)
after_two n [] = sym (take-nil n)
after_two n (x ∷ []) = sym (take-nil n)
after_two n (x ∷ y ∷ f) = refl

-- it has both ends
ends-in :
    (k n : ℕ) (f : List ℕ) → 2 ≤ n → record_state k (take (suc (suc n)) (drop 1 f)) ≡ record_state k (drop 1 f)
    → record_reach k (take (suc (suc n)) (drop 1 f)) ≡ reach_from k (drop 1 f) (drop 3 f)
ends-in k n f l e = rw (e, take-take 2 (suc (suc n)) (drop 1 f) (omega arith), after_two n (drop 1 f), take-take 2 n (drop 2 (drop 1 f)) l, drop-drop 2 1 f)

-- what is read of it by its kind
record BodyIn (f : List ℕ) (k : ℕ) : Type 0 where
  pub reach : record_reach k (take (record_length k - 1) (drop 1 f)) ≡ reach_from k (drop 1 f) (drop 3 f)
  pub inner : good_inner k (take (record_length k - 1) (drop 1 f)) ≡ good_inner k (drop 1 f)
  pub size : suc (record_length k - 1) ≡ record_length k

body-in : (f : List ℕ) (k : ℕ) → Reaching k → BodyIn f k
body-in f =
    of-reach (BodyIn f)
    (record { reach = ends-in 2 2 f (omega arith) refl; inner = refl; size = refl })
    (record { reach = ends-in 3 2 f (omega arith) refl; inner = refl; size = refl })
    (record { reach = ends-in 4 2 f (omega arith) refl; inner = refl; size = refl })
    (record {
      reach = ends-in 5 3 f (omega arith) (rw (get_or-take 5 (drop 1 f) 4 0 (omega arith)));
      inner = rw (get_or-take 5 (drop 1 f) 4 0 (omega arith));
      size = refl;
    })

-- a reach stands at the front: it fits, and how the reading goes on
pub record ReachStep (n : ℕ) (f : List ℕ) (k : ℕ) : Type 0 where
  pub fits : record_length k ≤ length f
  pub unknown : (left : ℕ) → good_inner k (drop 1 f) ≡ false → read_reaches n left f ≡ refused UnknownKind
  pub full : good_inner k (drop 1 f) ≡ true → read_reaches n 0 f ≡ refused TooManyReaches
  pub next :
      (left : ℕ) → good_inner k (drop 1 f) ≡ true
      → let r = reach_from k (drop 1 f) (drop 3 f) in
      read_reaches n (suc left) f ≡ cond (ends_below n r) (with_reach r (read_reaches n left (drop (record_length k) f))) (refused EndOutOfRange)

pub reach-front : (n : ℕ) (f : List ℕ) (k : ℕ) → taken_answer (take_record reach_due f) ≡ Ok k → (k ≡ 9 → ⊥) → ReachStep n f k
unfolding read_reaches
reach-front n f k e q =
    record {
      fits = omega (arith, s.long, size, b.size);
      unknown = unknown;
      full = λ g. rw (t, ne_eqb k 9 q, b.inner, g);
      next =
          λ left g.
          rw (t, ne_eqb k 9 q, b.inner, g, drop-drop (record_length k - 1) 1 f, after)
          (ap (λ r. cond (ends_below n r) (with_reach r (read_reaches n left (drop (record_length k) f))) (refused EndOutOfRange)) b.reach);
    }
  where
    s : Stands reach_due f k
    s = stands reach_due f k e

    reaches : Reaching k
    reaches = record { comes = s.comes; no_end = q }

    b : BodyIn f k
    b = body-in f k reaches

    size : s.size ≡ record_length k - 1
    size = same_size s.sized (body-reach k reaches)

    t : take_record reach_due f ≡ whole k (take (record_length k - 1) (drop 1 f)) (drop (record_length k - 1) (drop 1 f))
    t = rw size at s.taken

    after : 1 + (record_length k - 1) ≡ record_length k
    after = omega (arith, b.size)

    unknown : (left : ℕ) → good_inner k (drop 1 f) ≡ false → read_reaches n left f ≡ refused UnknownKind
    unknown zero g = rw (t, ne_eqb k 9 q, b.inner, g)
    unknown (suc left) g = rw (t, ne_eqb k 9 q, b.inner, g)

-- the same at a position of a file
pub record ReachAt (n : ℕ) (file : List ℕ) (at k : ℕ) : Type 0 where
  pub fits : at + record_length k ≤ length file
  pub unknown : (left : ℕ) → good_inner k (drop (at + 1) file) ≡ false → read_reaches n left (drop at file) ≡ refused UnknownKind
  pub full : good_inner k (drop (at + 1) file) ≡ true → read_reaches n 0 (drop at file) ≡ refused TooManyReaches
  pub next :
      (left : ℕ) → good_inner k (drop (at + 1) file) ≡ true
      → let r = reach_from k (drop (at + 1) file) (drop (at + 3) file) in
      read_reaches n (suc left) (drop at file)
      ≡ cond (ends_below n r) (with_reach r (read_reaches n left (drop (at + record_length k) file))) (refused EndOutOfRange)

pub reach-at :
    (n : ℕ) (file : List ℕ) (at k : ℕ) → taken_answer (take_record reach_due (drop at file)) ≡ Ok k → (k ≡ 9 → ⊥)
    → ReachAt n file at k
reach-at n file at k e q =
    record {
      fits = omega (arith, simp length-drop at r.fits, record-long k);
      unknown = λ left g. r.unknown left (simp drop-drop g);
      full = λ g. r.full (simp drop-drop g);
      next = λ left g. simp drop-drop at (r.next left (simp drop-drop g));
    }
  where
    r : ReachStep n (drop at file) k
    r = reach-front n (drop at file) k e q

-- ---- the inner kind of a shut reach, by its place j

number-shut : (d : Kind) → state_number (InService d) + 3 ≡ state_number (Shut d)
number-shut Gated = refl
number-shut Flap = refl
number-shut TwoWay = refl

module _ (file : List ℕ) (at k j : ℕ) (e : k ≡ 5) (q : j ≡ at + 5) where
  inner-place : inner_kind (drop (at + 1) file) ≡ get_or file j 0
  inner-place = get_or-drop (at + 1) file 4 0 ∙ ap (λ i. get_or file i 0) (omega arith)

  -- whether it is known, and the number of the state that it says
  pub inner-known : (g : Bool) → g ≡ known_kind (get_or file j 0) → g ≡ good_inner k (drop (at + 1) file)
  inner-known g h = h ∙ sym (rw (eq-eqb k 5 e, inner-place))

  pub inner-state : (m n : ℕ) → m ≡ state_number (InService (record_kind (get_or file j 0))) → n ≡ m + 3 → n ≡ state_number (record_state k (drop (at + 1) file))
  inner-state m n h p = p ∙ rw (eq-eqb k 5 e, inner-place, h) (number-shut (record_kind (get_or file j 0)))

-- the head stands at the front: it fits, and how the reading goes on
pub record HeadStep (f : List ℕ) : Type 0 where
  pub fits : 3 ≤ length f
  pub next : read_file f ≡ read_basins (word_of (take 2 (drop 1 f))) (drop 3 f)

pub head_step :
    (f : List ℕ) (k : ℕ) → 3 ≤ length f → take_record head_due f ≡ whole k (take 2 (drop 1 f)) (drop 2 (drop 1 f)) → HeadStep f
unfolding read_file
head_step f k l t = record { fits = l; next = rw (t, drop-drop 2 1 f) }

pub head_at : (file : List ℕ) (k : ℕ) → taken_answer (take_record head_due file) ≡ Ok k → HeadStep file
head_at file k e = head_step file k (omega (arith, s.long, two)) (rw two at s.taken)
  where
    s : Stands head_due file k
    s = stands head_due file k e

    two : s.size ≡ 2
    two = same_size s.sized (ap body_of (comes-first k s.comes) ∙ body-head)

pub head-broken : (file : List ℕ) (r : Refusal) → taken_answer (take_record head_due file) ≡ Err r → read_file file ≡ refused r
unfolding read_file
head-broken file r e = rw (broken-is (take_record head_due file) r e)

-- the head's value n
module _ (file : List ℕ) (k : ℕ) (e : taken_answer (take_record head_due file) ≡ Ok k) (n : ℕ) (is : n ≡ word_of (take 2 (drop 1 file))) where
  valued : read_file file ≡ read_basins n (drop 3 file)
  valued = (head_at file k e).next ∙ ap (λ m. read_basins m (drop 3 file)) (sym is)

  pub head-bad : (1 ≤ n → n ≤ max_basins → ⊥) → read_file file ≡ refused BasinCount
  head-bad h = valued ∙ rw (count-bad (record { basins = n; reaches = [] }) h)

  pub head-good : 1 ≤ n → n ≤ max_basins → read_file file ≡ read_reaches n max_reaches (drop 3 file)
  head-good p q = valued ∙ rw (count-good (record { basins = n; reaches = [] }) p q)
