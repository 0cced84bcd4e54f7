-- The scan of a basin by one of two searches: its loop's invariant, a turn, and what holds at the end.
-- Assumes nothing.
use Prim.Native.Nat.{ℕ, suc, ◌+◌, ◌≤◌, ◌<◌}
use mathlib.Core.Path.{◌≡◌, refl, subst, ◌∙◌}
use mathlib.Core.Logic.{◌⊎◌, inl, ⊎_elim}
use mathlib.Core.Bool.{Bool, true, false, not}
use mathlib.Core.List.{List}
use native.Mathlib.Decide.{ℕ_discrete}
use native.Mathlib.Omega.{arith}
use Rattle.std.proofs.Common.{Option, None, Some}
use lib.ListN.{length, get_or, set, length-set}
use lib.Seq.{get_or-set_same, get_or-set_other}
use Rattle.distances.specs.Distances.{unreached}
use Rattle.half_edges.specs.Ends.{arcs_of, halves, end_of, other_of, leaves}
use Rattle.half_edges.specs.Chains.{no_half, Last}
use Rattle.half_edges.proofs.Halves.{half-arc}
use Rattle.half_edges.proofs.Hands.{Current}
use Rattle.search.specs.Searches.{Seen, Unseen, unseen, Visited, first, again}
use Rattle.search.proofs.Counts.{unseen-set}
use Rattle.search.proofs.Scans.{Scanning, turn-past, turn-through, scanned}
use Rattle.leading.specs.Leads.{own_seen, place_of, lane, Sided, NotedBy, first as noted, again as known, Spread, met, on}
use Rattle.leading.proofs.Lanes.{own-length, own-seen, own-unseen, own-noted, own-set, own_same, lane-set, lane-same}

-- The search from c has scanned so far, and what the other sees and has queued is as it was.
pub record Spreading (xs ys ws : List ℕ) (u : ℕ) (up : Bool) (n c d : ℕ) (seen₀ queue₀ : List ℕ) (tail : ℕ) (seen queue : List ℕ) (end h : ℕ) : Type 0 where
  pub scanning : Scanning xs ys ws u 0 (own_seen c seen₀) (lane up queue₀) tail (own_seen c seen) (lane up queue) end h
  pub others : own_seen d seen ≡ own_seen d seen₀
  pub lanes : (j : ℕ) → j + end < n → get_or (lane (not up) queue) j 0 ≡ get_or (lane (not up) queue₀) j 0
  pub counted : end + unseen seen ≡ tail + unseen seen₀
  pub sides : Sided n c d seen
  pub seen-length : length seen ≡ n
  pub queue-length : length queue ≡ n

module _ {xs ys ws : List ℕ} {u : ℕ} {up : Bool} {n c d : ℕ} {seen₀ queue₀ : List ℕ} {tail : ℕ} where
  -- the turn of a half-edge that does not pass
  pub spread-past : {seen queue : List ℕ} {end h e : ℕ} → (s : Spreading xs ys ws u up n c d seen₀ queue₀ tail seen queue end h)
      → Current xs ys s.scanning.x u h → Last xs ys h (end_of xs ys h) e → leaves ws h ≡ false → Spreading xs ys ws u up n c d seen₀ queue₀ tail seen queue end e
  spread-past s k l p =
      record {
        scanning = turn-past s.scanning k l p;
        others = s.others;
        lanes = s.lanes;
        counted = s.counted;
        sides = s.sides;
        seen-length = s.seen-length;
        queue-length = s.queue-length;
      }

  -- where the far end of one that passes is the other's, the two have met
  pub spread-met : {seen queue seen' queue' : List ℕ} {end h w : ℕ} {r : Option ℕ} → (s : Spreading xs ys ws u up n c d seen₀ queue₀ tail seen queue end h)
      → Current xs ys s.scanning.x u h → length ys ≡ length xs → length xs ≤ length ws → leaves ws h ≡ true
      → w ≡ other_of xs ys h → w < n → length seen₀ ≡ n → get_or seen w 0 ≡ d → r ≡ None → Spread (arcs_of xs ys ws) u up n c d seen₀ queue₀ tail seen' queue' r
  spread-met {seen} {h = h} {w = w} s k paired room p e b long y q =
      met w b (rw (e, ← k.stands) (half-arc xs ys ws h paired room (omega (arith, k.below, s.scanning.within)) p))
      (own-noted d seen₀ w (omega arith) (subst (λ (l : List ℕ). Seen l w) s.others (own-seen d seen w (omega (arith, s.seen-length)) y))) q

  module _ {seen queue : List ℕ} {end h w : ℕ} (s : Spreading xs ys ws u up n c d seen₀ queue₀ tail seen queue end h) (b : w < n) (low : c < unreached) (apart : c ≡ d → ⊥)
      (room : tail + unseen seen₀ ≤ n) (free : get_or seen w 0 ≡ d → ⊥) where
    in-seen : w < length seen
    in-seen = omega (arith, s.seen-length)

    -- a basin that none has seen is not the search's own, and there is a place for it
    module _ (e : Unseen seen w) where
      fewer : unseen seen ≡ suc (unseen (set seen w c))
      fewer = unseen-set seen w c in-seen low e

      place : end < length queue
      place = omega (arith, fewer, s.counted, s.queue-length)

      queued : lane up (set queue (place_of up n end) w) ≡ set (lane up queue) end w
      queued = subst (λ m. lane up (set queue (place_of up m end) w) ≡ set (lane up queue) end w) s.queue-length (lane-set up queue end w place)

      newly : Visited w 0 (own_seen c seen) (lane up queue) end (own_seen c (set seen w c)) (lane up (set queue (place_of up n end) w)) (end + 1)
      newly = rw (own-set c seen w, queued) (first (own-unseen c seen w in-seen (λ q. omega arith)))

      lanes_on : (j : ℕ) → j + (end + 1) < n → get_or (lane (not up) (set queue (place_of up n end) w)) j 0 ≡ get_or (lane (not up) queue₀) j 0
      lanes_on j l =
          subst (λ m. get_or (lane (not up) (set queue (place_of up m end) w)) j 0 ≡ get_or (lane (not up) queue) j 0) s.queue-length (lane-same up queue end w place j (omega (arith, s.queue-length)))
          ∙ s.lanes j (omega arith)

      sides-on : Sided n c d (set seen w c)
      sides-on v l = at (ℕ_discrete v w)
        where
          at : Dec (v ≡ w) → (get_or (set seen w c) v 0 ≡ c) ⊎ (get_or (set seen w c) v 0 ≡ d) ⊎ Unseen (set seen w c) v
          at (yes q) = inl (rw q (get_or-set_same seen w c 0 in-seen))
          at (no q) = rw (get_or-set_other seen w v c 0 q) (s.sides v l)

    -- one that is seen is its own
    known-own : Seen seen w → Visited w 0 (own_seen c seen) (lane up queue) end (own_seen c seen) (lane up queue) end
    known-own x = again (own-seen c seen w in-seen (⊎_elim (λ q. q) (λ z. ⊎_elim (λ q. absurd (free q)) (λ q. absurd (omega (arith, x, q))) z) (s.sides w b)))

    far-in : w ≡ other_of xs ys h → other_of xs ys h < length (own_seen c seen)
    far-in q = omega (arith, own-length c seen, q, in-seen)

    -- the turn of one that passes, and whose far end w is visited
    pub spread-through : {seen' queue' : List ℕ} {end' e : ℕ} → Current xs ys s.scanning.x u h → Last xs ys h (end_of xs ys h) e → length ys ≡ length xs → length xs ≤ length ws → leaves ws h ≡ true
        → w ≡ other_of xs ys h → NotedBy up n w c seen queue end seen' queue' end' → Spreading xs ys ws u up n c d seen₀ queue₀ tail seen' queue' end' e
    spread-through k l paired wide p q (known x) =
        record {
          scanning = turn-through s.scanning k l paired wide p q (far-in q) (omega arith) (known-own x);
          others = s.others;
          lanes = s.lanes;
          counted = s.counted;
          sides = s.sides;
          seen-length = s.seen-length;
          queue-length = s.queue-length;
        }
    spread-through k l paired wide p q (noted x) =
        record {
          scanning = turn-through s.scanning k l paired wide p q (far-in q) (omega arith) (newly x);
          others = own_same d seen w c apart free ∙ s.others;
          lanes = lanes_on x;
          counted = omega (arith, fewer x, s.counted);
          sides = sides-on x;
          seen-length = length-set seen w c ∙ s.seen-length;
          queue-length = length-set queue (place_of up n end) w ∙ s.queue-length;
        }

  -- the end: all are done
  pub spread-on : {seen queue : List ℕ} {end h : ℕ} → halves xs < no_half → h ≡ no_half → Spreading xs ys ws u up n c d seen₀ queue₀ tail seen queue end h
      → Spread (arcs_of xs ys ws) u up n c d seen₀ queue₀ tail seen queue (Some end)
  spread-on few e s =
      on (record { scanned = scanned few e s.scanning; others = s.others; lanes = s.lanes; counted = s.counted; sides = s.sides }) refl
