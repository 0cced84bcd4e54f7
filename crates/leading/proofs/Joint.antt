-- Two searches at once: how both begin, a turn of the one, that they meet, and that one has nothing left to search from.
-- Assumes nothing.
use Prim.Native.Nat.{ℕ, ◌+◌, ◌-◌, ◌≤◌, ◌<◌}
use mathlib.Core.Path.{◌≡◌, refl, sym, ap, subst, ◌∙◌}
use mathlib.Core.Logic.{◌⊎◌, inl, inr, ⊎_elim}
use mathlib.Core.Bool.{Bool, true, false, not}
use mathlib.Core.List.{List}
use native.Mathlib.Decide.{ℕ_discrete}
use native.Mathlib.Omega.{arith}
use lib.ListN.{length, get_or, set, replicate, length-set, length-replicate, get_or-replicate}
use lib.Seq.{get_or-set_same, get_or-set_other, set_comm}
use Rattle.distances.specs.Distances.{unreached}
use Rattle.network.specs.Orientations.{Arc, reached}
use Rattle.network.proofs.Walks.{walk-trans, walk-arc, walk-reached, reached-walk}
use Rattle.half_edges.specs.Ends.{Next}
use Rattle.search.specs.Searches.{Unseen, unseen, first}
use Rattle.search.specs.Fronts.{Searching}
use Rattle.search.proofs.Counts.{unseen-le, unseen-set}
use Rattle.search.proofs.Fronts.{fresh-cleared, begins, scans, unseen-unreached}
use Rattle.std.proofs.Common.{Option, None, Some}
use Rattle.leading.specs.Leads.{own_seen, lane, Sided, Spread, met, on, BothBegun, BothSearching}
use Rattle.leading.proofs.Lanes.{own-seen, own-unseen, own-noted, own-blank, own-set, own_same, lane-length, lane-set}

-- a search goes on if what it queued stands in another queue of the same length
requeued : {A : List Arc} {n start : ℕ} {seen queue queue' : List ℕ} {at tail : ℕ} → length queue' ≡ length queue → ((k : ℕ) → k < tail → get_or queue' k 0 ≡ get_or queue k 0)
    → Searching A n start seen queue at tail → Searching A n start seen queue' at tail
requeued e f s =
    record {
      sound = record {
        low = s.sound.low;
        walked = s.sound.walked;
        basins = λ k l. rw (f k l) (s.sound.basins k l);
        walks = λ k l. rw (f k l) (s.sound.walks k l);
        room = omega (arith, e, s.sound.room);
        long = s.sound.long;
      };
      open-or-closed = λ v l x. ⊎_elim (λ w. inl (record { place = w.place; from = w.from; below = w.below; here = f w.place w.below ∙ w.here })) (λ z. inr z) (s.open-or-closed v l x);
      started = s.started;
      placed = s.placed;
    }

-- the other one first
pub swapped : {A B : List Arc} {n c d : ℕ} {up down : Bool} {seen queue : List ℕ} {done tail done' tail' : ℕ} → BothSearching A B n c d up down seen queue done tail done' tail'
    → BothSearching B A n d c down up seen queue done' tail' done tail
swapped p =
    record {
      mine = p.other;
      other = p.mine;
      sides = λ v l. ⊎_elim (λ x. inr (inl x)) (λ y. ⊎_elim (λ x. inl x) (λ x. inr (inr x)) y) (p.sides v l);
      room = omega (arith, p.room);
      seen-length = p.seen-length;
      queue-length = p.queue-length;
    }

module _ {A B : List Arc} {n c d : ℕ} {up : Bool} {seen queue : List ℕ} {done tail done' tail' : ℕ} (p : BothSearching A B n c d up (not up) seen queue done tail done' tail') where
  module _ {seen' queue' : List ℕ} {r : Option ℕ} where
    -- a turn of the one, in which they have not met
    pub both-on : {t : ℕ} → ((u w : ℕ) → Next A u w → w < n) → done < tail → length seen' ≡ length seen → length queue' ≡ length queue
        → Spread A (get_or (lane up queue) done 0) up n c d seen queue tail seen' queue' r → r ≡ Some t → BothSearching A B n c d up (not up) seen' queue' (done + 1) t done' tail'
    both-on f l m q (met _ _ _ _ e) some = absurd (cc)
    both-on {t} f l m q (on {tail' = s} o e) some =
        let same : s ≡ t = cc in
        subst (λ (z : ℕ). BothSearching A B n c d up (not up) seen' queue' (done + 1) z done' tail') same
        (record {
          mine = scans f (omega arith) l p.mine o.scanned;
          other = subst (λ (s : List ℕ). Searching B n d s (lane (not up) queue') done' tail') (sym o.others)
              (requeued (lane-length (not up) queue' ∙ q ∙ sym (lane-length (not up) queue)) (λ k b. o.lanes k (omega (arith, b, o.counted, p.room))) p.other);
          sides = o.sides;
          room = omega (arith, o.counted, p.room);
          seen-length = m ∙ p.seen-length;
          queue-length = q ∙ p.queue-length;
        })

    -- one in which they have: an arc from the basin in hand leads to one that the other sees
    pub both-met : ((u v : ℕ) → reached B u v ≡ reached A v u) → done < tail → Spread A (get_or (lane up queue) done 0) up n c d seen queue tail seen' queue' r → r ≡ None → reached A c d ≡ true
    both-met against l (on _ e) none = absurd (cc)
    both-met against l (met w b m e _) none =
        walk-reached (walk-trans (p.mine.sound.walks done l) (walk-trans (walk-arc m)
        (reached-walk A w d (sym (against d w) ∙ walk-reached (p.other.sound.walked w b (own-seen d seen w (omega (arith, p.seen-length)) e))))))

  -- the one has nothing left to search from, and has not seen where the other began
  pub both-shut : ((u w : ℕ) → Next A u w → w < n) → c < n → d < n → (c ≡ d → ⊥) → tail ≤ done → false ≡ reached A c d
  both-shut f b g apart l =
      let in-seen : d < length seen = omega (arith, p.seen-length) in
      unseen-unreached d f b g l p.mine (own-unseen c seen d in-seen (λ e. apart (sym e ∙ own-noted d seen d in-seen p.other.started)))

-- ---- how they begin

module _ (n : ℕ) where
  abbrev blank : List ℕ
  blank = replicate n unreached

  blank-at : (v : ℕ) → v < n → get_or blank v 0 ≡ unreached
  blank-at v l = get_or-replicate n v unreached 0 l

  blank-long : length blank ≡ n
  blank-long = length-replicate n unreached

  -- one of the two, in rows of its own
  begun-alone : {A : List Arc} {c : ℕ} (queue : List ℕ) → length queue ≡ n → c < n → Searching A n c (set blank c 0) (set queue 0 c) 0 1
  begun-alone {c = c} queue long b =
      let fits : length blank ≤ length queue = omega (arith, blank-long) in
      begins blank {queue₀ = queue} (omega (arith, blank-long)) fits b (fresh-cleared n blank refl n (omega arith)) (first (omega (arith, blank-at c b)))

  module _ (start goal : ℕ) (b : start < n) (h : goal < n) (apart : start ≡ goal → ⊥) (few : n < unreached) where
    -- the notes, after that of start
    abbrev half : List ℕ
    half = set blank start start

    half-long : length half ≡ n
    half-long = length-set blank start start ∙ blank-long

    half_at : (v : ℕ) → v < n → (v ≡ start → ⊥) → get_or half v 0 ≡ unreached
    half_at v l f = get_or-set_other blank start v start 0 f ∙ blank-at v l

    goal-free : get_or half goal 0 ≡ unreached
    goal-free = half_at goal h (λ e. apart (sym e))

    start-sees : own_seen start (set half goal goal) ≡ set blank start 0
    start-sees =
        own_same start half goal goal (λ e. apart (sym e)) (λ e. omega (arith, goal-free, e)) ∙ own-set start blank start
        ∙ ap (λ (l : List ℕ). set l start 0) (own-blank start n (omega arith))

    goal-sees : own_seen goal (set half goal goal) ≡ set blank goal 0
    goal-sees =
        own-set goal half goal
        ∙ ap (λ (l : List ℕ). set l goal 0) (own_same goal blank start start apart (λ e. omega (arith, blank-at start b, e)) ∙ own-blank goal n (omega arith))

    both-sides : Sided n start goal (set half goal goal)
    both-sides v l = at (ℕ_discrete v goal) (ℕ_discrete v start)
      where
        at : Dec (v ≡ goal) → Dec (v ≡ start) → (get_or (set half goal goal) v 0 ≡ start) ⊎ (get_or (set half goal goal) v 0 ≡ goal) ⊎ Unseen (set half goal goal) v
        at (yes e) x = inr (inl (rw e (get_or-set_same half goal goal 0 (omega (arith, half-long)))))
        at (no f) (yes e) = inl (get_or-set_other half goal v goal 0 f ∙ rw e (get_or-set_same blank start start 0 (omega (arith, blank-long))))
        at (no f) (no g) = inr (inr (omega (arith, get_or-set_other half goal v goal 0 f, half_at v l g)))

    two-seen : 1 + 1 + unseen (set half goal goal) ≤ n
    two-seen =
        omega (
          arith,
          unseen-le blank,
          blank-long,
          unseen-set blank start start (omega (arith, blank-long)) (omega arith) (omega (arith, blank-at start b)),
          unseen-set half goal goal (omega (arith, half-long)) (omega arith) (omega (arith, goal-free)),
        )

    -- the queue: start from the front, goal from the back
    module _ (queue₀ : List ℕ) (long : length queue₀ ≡ n) where
      abbrev ends : List ℕ
      ends = set (set queue₀ 0 start) (n - 1) goal

      down-lane : lane false ends ≡ set (lane false (set queue₀ (n - 1) goal)) 0 start
      down-lane = ap (λ (l : List ℕ). lane false l) (set_comm queue₀ 0 (n - 1) start goal (λ e. apart (omega arith))) ∙ lane-set false (set queue₀ (n - 1) goal) 0 start (omega (arith, length-set queue₀ (n - 1) goal))

      up-lane : lane true ends ≡ set (lane true (set queue₀ 0 start)) 0 goal
      up-lane = subst (λ (m : ℕ). lane true (set (set queue₀ 0 start) m goal) ≡ set (lane true (set queue₀ 0 start)) 0 goal) (omega (arith, long, length-set queue₀ 0 start)) (lane-set true (set queue₀ 0 start) 0 goal (omega (arith, length-set queue₀ 0 start)))

      both-begin : {A B : List Arc} → BothSearching A B n start goal false true (set half goal goal) ends 0 1 0 1
      both-begin =
          record {
            mine = rw (start-sees, down-lane) (begun-alone (lane false (set queue₀ (n - 1) goal)) (lane-length false (set queue₀ (n - 1) goal) ∙ length-set queue₀ (n - 1) goal ∙ long) b);
            other = rw (goal-sees, up-lane) (begun-alone (lane true (set queue₀ 0 start)) (lane-length true (set queue₀ 0 start) ∙ length-set queue₀ 0 start ∙ long) h);
            sides = both-sides;
            room = two-seen;
            seen-length = length-set half goal goal ∙ half-long;
            queue-length = length-set (set queue₀ 0 start) (n - 1) goal ∙ length-set queue₀ 0 start ∙ long;
          }

pub begun : {A B : List Arc} {n start goal : ℕ} {seen queue : List ℕ} (queue₀ : List ℕ) → BothBegun n start goal queue₀ seen queue → start < n → goal < n → (start ≡ goal → ⊥) → n < unreached → length queue₀ ≡ n
    → BothSearching A B n start goal false true seen queue 0 1 0 1
begun {n = n} {start = start} {goal = goal} queue₀ g b h apart few long = rw (g.notes, g.waiting) (both-begin n start goal b h apart few queue₀ long)
