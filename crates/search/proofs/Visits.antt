-- What visits change: the counts, the queue and the room in it.
-- Assumes nothing.
use Prim.Native.Nat.{ℕ, suc, ◌+◌, ◌≤◌, ◌<◌}
use mathlib.Core.Path.{◌≡◌, refl, sym, ◌∙◌}
use mathlib.Core.Logic.{◌⊎◌, inl, inr, ⊎_elim}
use mathlib.Core.List.{List}
use native.Mathlib.Decide.{ℕ_discrete}
use native.Mathlib.Omega.{arith}
use lib.ListN.{length, get_or, set, length-set}
use lib.Seq.{get_or-set_same, get_or-set_other}
use Rattle.distances.specs.Distances.{unreached}
use Rattle.search.specs.Searches.{Seen, Unseen, unseen, Visited, first, again, Grown, stay, more}
use Rattle.search.proofs.Counts.{unseen-set}
use Rattle.search.specs.Fronts.{QueueRoom, Waits}

-- What visits leave: what was seen is seen, what is newly seen is queued behind what was there, and there is room.
pub record Grew (seen queue : List ℕ) (tail : ℕ) (seen' queue' : List ℕ) (tail' : ℕ) : Type 0 where
  pub keeps : (v : ℕ) → Seen seen v → Seen seen' v
  pub news : (v : ℕ) → Seen seen' v → Seen seen v ⊎ Waits queue' tail tail' v
  pub queue-keeps : (k : ℕ) → k < tail → get_or queue' k 0 ≡ get_or queue k 0
  pub further : tail ≤ tail'
  pub room : QueueRoom seen' queue' tail'
  pub seen-length : length seen' ≡ length seen
  pub queue-length : length queue' ≡ length queue

pub grew_none : (seen queue : List ℕ) (tail : ℕ) → QueueRoom seen queue tail → Grew seen queue tail seen queue tail
grew_none seen queue tail r =
    record { keeps = λ v s. s; news = λ v s. inl s; queue-keeps = λ k l. refl; further = omega arith; room = r; seen-length = refl; queue-length = refl }

pub grew_trans : {s q s' q' s'' q'' : List ℕ} {t t' t'' : ℕ} → Grew s q t s' q' t' → Grew s' q' t' s'' q'' t'' → Grew s q t s'' q'' t''
grew_trans {s} {q} {s'} {q'} {s''} {q''} {t} {t'} {t''} g h =
    record {
      keeps = λ v x. h.keeps v (g.keeps v x);
      news = λ v x. ⊎_elim (λ y. ⊎_elim (λ z. inl z) (λ w. inr (carried v w)) (g.news v y)) (λ w. inr (record { place = w.place; from = omega arith; below = w.below; here = w.here })) (h.news v x);
      queue-keeps = λ k l. h.queue-keeps k (omega arith) ∙ g.queue-keeps k l;
      further = omega arith;
      room = h.room;
      seen-length = h.seen-length ∙ g.seen-length;
      queue-length = h.queue-length ∙ g.queue-length;
    }
  where
    carried : (v : ℕ) → Waits q' t t' v → Waits q'' t t'' v
    carried v w = record { place = w.place; from = w.from; below = omega arith; here = h.queue-keeps w.place w.below ∙ w.here }

-- a count at w
module _ (seen : List ℕ) (w count v : ℕ) where
  set_keeps : w < length seen → count < unreached → Seen seen v → Seen (set seen w count) v
  set_keeps l c s = at (ℕ_discrete v w)
    where
      at : Dec (v ≡ w) → Seen (set seen w count) v
      at (yes e) = rw (e, get_or-set_same seen w count 0 l) c
      at (no n) = rw (get_or-set_other seen w v count 0 n) s

  pub set-news : Seen (set seen w count) v → Seen seen v ⊎ (v ≡ w)
  set-news s = at (ℕ_discrete v w)
    where
      at : Dec (v ≡ w) → Seen seen v ⊎ (v ≡ w)
      at (yes e) = inr e
      at (no n) = inl (rw (get_or-set_other seen w v count 0 n) at s)

pub visited-grew : {w count : ℕ} {seen queue seen' queue' : List ℕ} {tail tail' : ℕ} → w < length seen → count < unreached → QueueRoom seen queue tail
    → Visited w count seen queue tail seen' queue' tail' → Grew seen queue tail seen' queue' tail'
visited-grew {seen} {queue} {tail} l c r (again s) = grew_none seen queue tail r
visited-grew {w} {count} {seen} {queue} {tail} l c r (first e) =
    let u : unseen seen ≡ suc (unseen (set seen w count)) = unseen-set seen w count l c e in
    record {
      keeps = λ v s. set_keeps seen w count v l c s;
      news = λ v s. ⊎_elim (λ x. inl x) (λ x. inr (record { place = tail; from = omega arith; below = omega arith; here = get_or-set_same queue tail w 0 (omega arith) ∙ sym x })) (set-news seen w count v s);
      queue-keeps = λ k m. get_or-set_other queue tail k w 0 (omega arith);
      further = omega arith;
      room = simp length-set (omega arith);
      seen-length = length-set seen w count;
      queue-length = length-set queue tail w;
    }

pub visited-seen : {w count : ℕ} {seen queue seen' queue' : List ℕ} {tail tail' : ℕ} → w < length seen → count < unreached → Visited w count seen queue tail seen' queue' tail'
    → Seen seen' w
visited-seen l c (again s) = s
visited-seen {w} {count} {seen} l c (first e) = rw (get_or-set_same seen w count 0 l) c

pub grown-grew : {P : ℕ → Type 0} {count : ℕ} {seen queue : List ℕ} {tail : ℕ} {seen' queue' : List ℕ} {tail' : ℕ} → ((w : ℕ) → P w → w < length seen) → count < unreached → QueueRoom seen queue tail
    → Grown P count seen queue tail seen' queue' tail' → Grew seen queue tail seen' queue' tail'
grown-grew {seen} {queue} {tail} f c r stay = grew_none seen queue tail r
grown-grew f c r (more {w = w} g p v) =
    let h = grown-grew f c r g in
    grew_trans h (visited-grew (omega (arith, f w p, h.seen-length)) c h.room v)

-- ---- the counts

-- What was seen keeps its count; what is newly seen passes the test and has the count, and so has each basin that is newly queued.
pub record CountsGrew (P : ℕ → Type 0) (count : ℕ) (seen : List ℕ) (tail : ℕ) (seen' queue' : List ℕ) (tail' : ℕ) : Type 0 where
  pub same : (v : ℕ) → Seen seen v → get_or seen' v 0 ≡ get_or seen v 0
  pub fresh : (v : ℕ) → Seen seen' v → Seen seen v ⊎ (P v × (get_or seen' v 0 ≡ count))
  pub queued : (k : ℕ) → tail ≤ k → k < tail' → get_or seen' (get_or queue' k 0) 0 ≡ count

-- one more basin is visited for the first time
module _ {P : ℕ → Type 0} {count : ℕ} {seen queue seen' queue' : List ℕ} {tail end : ℕ} (w : ℕ) (in-seen : w < length seen') (few : count < unreached) (p : P w) (e : Unseen seen' w)
    (h : Grew seen queue tail seen' queue' end) (k : CountsGrew P count seen tail seen' queue' end) where
  own : get_or (set seen' w count) w 0 ≡ count
  own = get_or-set_same seen' w count 0 in-seen

  -- what was seen is another basin
  other : (v : ℕ) → Seen seen' v → v ≡ w → ⊥
  other v x q = let z : Unseen seen' v = rw q e in omega (arith, x, z)

  others : (v : ℕ) → Seen seen' v → get_or (set seen' w count) v 0 ≡ get_or seen' v 0
  others v x = get_or-set_other seen' w v count 0 (other v x)

  at : (j : ℕ) → tail ≤ j → Dec (j ≡ end) → j < end + 1 → get_or (set seen' w count) (get_or (set queue' end w) j 0) 0 ≡ count
  at j l (yes q) m = rw (q, get_or-set_same queue' end w 0 (omega (arith, h.room, unseen-set seen' w count in-seen few e))) own
  at j l (no q) m = let z = k.queued j l (omega arith) in rw (get_or-set_other queue' end j w 0 q) (others (get_or queue' j 0) (omega (arith, z)) ∙ z)

  counted-first : CountsGrew P count seen tail (set seen' w count) (set queue' end w) (end + 1)
  counted-first =
      record {
        same = λ v s. others v (h.keeps v s) ∙ k.same v s;
        fresh = λ v s. ⊎_elim (λ x. ⊎_elim (λ y. inl y) (λ y. inr (y.0, others v x ∙ y.1)) (k.fresh v x)) (λ q. inr (rw q p, rw q own)) (set-news seen' w count v s);
        queued = λ j l m. at j l (ℕ_discrete j end) m;
      }

pub grown-counts : {P : ℕ → Type 0} {count : ℕ} {seen queue : List ℕ} {tail : ℕ} {seen' queue' : List ℕ} {tail' : ℕ} → ((w : ℕ) → P w → w < length seen) → count < unreached → QueueRoom seen queue tail
    → Grown P count seen queue tail seen' queue' tail' → CountsGrew P count seen tail seen' queue' tail'
grown-counts f c r stay = record { same = λ v s. refl; fresh = λ v s. inl s; queued = λ k l m. absurd (omega arith) }
grown-counts f c r (more g p (again s)) = grown-counts f c r g
grown-counts f c r (more {w = w} g p (first e)) =
    let h = grown-grew f c r g in
    counted-first w (omega (arith, f w p, h.seen-length)) c p e h (grown-counts f c r g)
