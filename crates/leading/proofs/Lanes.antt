-- The rows that two searches share, seen as each one's own: a note, and a place in the queue, changes the one's and leaves the other's.
-- Assumes nothing.
use Prim.Native.Nat.{ℕ, zero, suc, ◌+◌, ◌<◌}
use mathlib.Core.Path.{◌≡◌, refl, sym, ap, ap₂, ◌∙◌}
use mathlib.Core.Bool.{Bool, true, false, not, cond}
use mathlib.Core.List.{List, ◌∷◌}
use native.Mathlib.Decide.{ℕ_discrete}
use native.Mathlib.Omega.{arith}
use borrow.Author.Tests.{eq-eqb, ne_eqb}
use lib.ListN.{length, get_or, set, replicate, length-set, length-map}
use lib.Dec.{eqb}
use lib.Seq.{get_or-set_same, get_or-set_other, ext_get_or, map-set_same}
use Rattle.lists.specs.Lists.{range}
use Rattle.lists.proofs.Lists.{get_d_map, set-map}
use Rattle.lists.proofs.Ranges.{length-range, map-range-at}
use Rattle.distances.specs.Distances.{unreached}
use Rattle.search.specs.Searches.{Seen, Unseen}
use Rattle.leading.specs.Leads.{own_seen, place_of, lane}

-- ---- what a search sees

module _ (c : ℕ) where
  abbrev note_of : ℕ → ℕ
  note_of x = cond (eqb x c) 0 unreached

  note-own : (x : ℕ) → x ≡ c → note_of x ≡ 0
  note-own x e = rw (eq-eqb x c e)

  note-other : (x : ℕ) → (x ≡ c → ⊥) → note_of x ≡ unreached
  note-other x n = rw (ne_eqb x c n)

  pub own-length : (seen : List ℕ) → length (own_seen c seen) ≡ length seen
  own-length seen = length-map seen note_of

  -- a basin for which c is noted, and one for which it is not
  pub own-seen : (seen : List ℕ) (v : ℕ) → v < length seen → get_or seen v 0 ≡ c → Seen (own_seen c seen) v
  own-seen seen v l e = omega (arith, get_d_map note_of seen v 0 0 l ∙ note-own (get_or seen v 0) e)

  pub own-unseen : (seen : List ℕ) (v : ℕ) → v < length seen → (get_or seen v 0 ≡ c → ⊥) → Unseen (own_seen c seen) v
  own-unseen seen v l n = omega (arith, get_d_map note_of seen v 0 0 l ∙ note-other (get_or seen v 0) n)

  pub own-noted : (seen : List ℕ) (v : ℕ) → v < length seen → Seen (own_seen c seen) v → get_or seen v 0 ≡ c
  own-noted seen v l s = at (ℕ_discrete (get_or seen v 0) c)
    where
      at : Dec (get_or seen v 0 ≡ c) → get_or seen v 0 ≡ c
      at (yes e) = e
      at (no n) = absurd (omega (arith, own-unseen seen v l n, s))

  -- where nothing is noted
  pub own-blank : (n : ℕ) → c < unreached → own_seen c (replicate n unreached) ≡ replicate n unreached
  own-blank zero l = refl
  own-blank (suc n) l = ap₂ {C = List ℕ} (λ x xs. x ∷ xs) (note-other unreached (λ e. omega arith)) (own-blank n l)

  -- its own note
  pub own-set : (seen : List ℕ) (w : ℕ) → own_seen c (set seen w c) ≡ set (own_seen c seen) w 0
  own-set seen w = sym (set-map note_of seen w c) ∙ ap (λ (x : ℕ). set (own_seen c seen) w x) (note-own c refl)

  -- the other's note, for a basin that it does not see
  pub own_same : (seen : List ℕ) (w d : ℕ) → (d ≡ c → ⊥) → (get_or seen w 0 ≡ c → ⊥) → own_seen c (set seen w d) ≡ own_seen c seen
  own_same seen w d n m = map-set_same note_of seen w d 0 (note-other d n ∙ sym (note-other (get_or seen w 0) m))

-- ---- what it queued

place-below : (up : Bool) (n k : ℕ) → k < n → place_of up n k < n
place-below false n k l = l
place-below true n k l = omega arith

place-apart : (up : Bool) (n j k : ℕ) → j < n → k < n → (j ≡ k → ⊥) → place_of up n j ≡ place_of up n k → ⊥
place-apart false n j k a b f e = f e
place-apart true n j k a b f e = f (omega arith)

-- the two queues do not run into each other
place_other : (up : Bool) (n j k : ℕ) → j + k + 1 < n → place_of (not up) n j ≡ place_of up n k → ⊥
place_other false n j k l e = omega arith
place_other true n j k l e = omega arith

pub lane-length : (up : Bool) (queue : List ℕ) → length (lane up queue) ≡ length queue
lane-length up queue = length-map (range 0 (length queue)) (λ k. get_or queue (place_of up (length queue) k) 0) ∙ length-range 0 (length queue)

lane-at : (up : Bool) (queue : List ℕ) (k : ℕ) → k < length queue → get_or (lane up queue) k 0 ≡ get_or queue (place_of up (length queue) k) 0
lane-at up queue k l = map-range-at (λ j. get_or queue (place_of up (length queue) j) 0) 0 0 (length queue) k l ∙ ap (λ j. get_or queue (place_of up (length queue) j) 0) (omega arith)

module _ (up : Bool) (queue : List ℕ) (k w : ℕ) (l : k < length queue) where
  abbrev queue' : List ℕ
  queue' = set queue (place_of up (length queue) k) w

  same : length queue' ≡ length queue
  same = length-set queue (place_of up (length queue) k) w

  -- the lanes after w is queued k-th: at j
  after : (at : Bool) (j : ℕ) → j < length queue → get_or (lane at queue') j 0 ≡ get_or queue' (place_of at (length queue) j) 0
  after at j m = lane-at at queue' j (omega (arith, same)) ∙ ap (λ (n : ℕ). get_or queue' (place_of at n j) 0) same

  pub lane-set : lane up queue' ≡ set (lane up queue) k w
  lane-set = ext_get_or 0 (lane up queue') (set (lane up queue) k w) (lane-length up queue' ∙ same ∙ sym (lane-length up queue) ∙ sym (length-set (lane up queue) k w)) (λ j m. at j (omega (arith, m, lane-length up queue', same)) (ℕ_discrete j k))
    where
      at : (j : ℕ) → j < length queue → Dec (j ≡ k) → get_or (lane up queue') j 0 ≡ get_or (set (lane up queue) k w) j 0
      at j m (yes e) = rw e (after up k l ∙ get_or-set_same queue (place_of up (length queue) k) w 0 (place-below up (length queue) k l) ∙ sym (get_or-set_same (lane up queue) k w 0 (omega (arith, lane-length up queue))))
      at j m (no n) =
          after up j m ∙ get_or-set_other queue (place_of up (length queue) k) (place_of up (length queue) j) w 0 (place-apart up (length queue) j k m l n)
          ∙ sym (lane-at up queue j m) ∙ sym (get_or-set_other (lane up queue) k j w 0 n)

  pub lane-same : (j : ℕ) → j + k + 1 < length queue → get_or (lane (not up) queue') j 0 ≡ get_or (lane (not up) queue) j 0
  lane-same j m =
      after (not up) j (omega arith) ∙ get_or-set_other queue (place_of up (length queue) k) (place_of (not up) (length queue) j) w 0 (place_other up (length queue) j k m)
      ∙ sym (lane-at (not up) queue j (omega arith))

-- what stands at the place of what was queued k-th
pub lane-read : (up : Bool) (queue : List ℕ) (n k p : ℕ) → length queue ≡ n → k < n → p ≡ place_of up n k → get_or queue p 0 ≡ get_or (lane up queue) k 0
lane-read up queue n k p long l e = ap (λ (j : ℕ). get_or queue j 0) (e ∙ ap (λ (m : ℕ). place_of up m k) (sym long)) ∙ sym (lane-at up queue k (omega arith))
