-- The search as a whole: its loop's invariant, how it begins, a turn, and what holds at the end.
-- Assumes nothing.
use Prim.Native.Nat.{ℕ, zero, suc, ◌+◌, ◌≤◌, ◌<◌}
use mathlib.Core.Path.{◌≡◌, refl, sym, ap, ◌∙◌}
use mathlib.Core.Bool.{false}
use lib.Dec.{ltb}
use mathlib.Mathlib.Data.Bool.Basic.{Bool-eq-false}
use mathlib.Core.Logic.{◌⊎◌, inl, inr, ⊎_elim}
use mathlib.Core.List.{List, ◌∷◌, ◌++◌, Memᴰ}
use native.Mathlib.Decide.{ℕ_discrete, dec_lt}
use native.Mathlib.Omega.{arith}
use borrow.Author.Count.{below_more}
use lib.ListN.{length, get_or, set, drop, replicate, length-append, length-drop, length-replicate, get_or-replicate, get_or-append}
use lib.Seq.{get_or-set_same, get_or-set_other}
use Rattle.network.specs.Orientations.{Arc, Walk, stay, step, reached}
use Rattle.lists.specs.Lists.{range}
use Rattle.lists.proofs.Ranges.{length-range, range-has}
use Rattle.lists.proofs.Searches.{attained-below}
use Rattle.distances.specs.Distances.{unreached, WalkOf, none-crossed, crossing, fewest, noted}
use Rattle.distances.proofs.Distances.{walk_of-more, fewest-most, fewest-least, fewest-walk, counted-exactly}
use Rattle.network.proofs.Walks.{walk-trans, walk-arc, reached-walk}
use Rattle.half_edges.specs.Ends.{Next}
use Rattle.search.specs.Searches.{Seen, Unseen, Visited, first, again, Grown, stay as none_more, more, Scanned, Noted}
use Rattle.search.proofs.Counts.{unseen-le, unseen-set}
use Rattle.search.proofs.Visits.{Grew, set-news, visited-grew, visited-seen, grown-grew, CountsGrew, grown-counts}
use Rattle.search.specs.Fronts.{Waits, Sound, Closed, Searching, Counting}

module _ {A : List Arc} {n start : ℕ} where
  visited-sound : {w count tail tail' : ℕ} {seen queue seen' queue' : List ℕ} → w < n → count < unreached → Walk A start w → Sound A n start seen queue tail
      → Visited w count seen queue tail seen' queue' tail' → Sound A n start seen' queue' tail'
  visited-sound b c p s (again x) = s
  visited-sound {w} {count} {tail} {seen} {queue} b c p s (first e) =
      let in-seen : w < length seen = omega arith in
      let g : Grew seen queue tail (set seen w count) (set queue tail w) (tail + 1) = visited-grew in-seen c s.room (first e) in
      let u = unseen-set seen w count in-seen c e in
      let last = get_or-set_same queue tail w 0 (omega arith) in
      record {
        low = λ v l. low v l (ℕ_discrete v w);
        walked = λ v l x. ⊎_elim (λ y. s.walked v l y) (λ q. rw q p) (set-news seen w count v x);
        basins = below_more (λ k. get_or (set queue tail w) k 0 < n) tail (λ k l. rw (g.queue-keeps k l) (s.basins k l)) (rw last b);
        walks = below_more (λ k. Walk A start (get_or (set queue tail w) k 0)) tail (λ k l. rw (g.queue-keeps k l) (s.walks k l)) (rw last p);
        room = g.room;
        long = omega arith;
      }
    where
      low : (v : ℕ) → v < n → Dec (v ≡ w) → get_or (set seen w count) v 0 ≤ unreached
      low v l (yes q) = rw (q, get_or-set_same seen w count 0 (omega arith)) (omega arith)
      low v l (no q) = rw (get_or-set_other seen w v count 0 q) (s.low v l)

  grown-sound : {P : ℕ → Type 0} {count : ℕ} {seen queue : List ℕ} {tail : ℕ} {seen' queue' : List ℕ} {tail' : ℕ} → ((w : ℕ) → P w → w < n) → count < unreached → ((w : ℕ) → P w → Walk A start w)
      → Sound A n start seen queue tail → Grown P count seen queue tail seen' queue' tail' → Sound A n start seen' queue' tail'
  grown-sound f c g s none_more = s
  grown-sound f c g s (more {w = w} h p v) = visited-sound (f w p) c (g w p) (grown-sound f c g s h) v

-- after the notes are cleared, nothing is seen
module _ (n : ℕ) (d : List ℕ) (long : n ≤ length d) where
  cleared-length : length (replicate n unreached ++ drop n d) ≡ length d
  cleared-length = simp (length-append, length-replicate, length-drop) (omega arith)

  pub cleared : (v : ℕ) → v < n → get_or (replicate n unreached ++ drop n d) v 0 ≡ unreached
  cleared v l = get_or-append (replicate n unreached) (drop n d) 0 v (rw length-replicate l) ∙ get_or-replicate n v unreached 0 l

-- so a visit is the first
module _ {n start : ℕ} (seen₀ : List ℕ) {queue filled : List ℕ} where
  pub first-visit : start < n → n ≤ length seen₀ → filled ≡ replicate n unreached ++ drop n seen₀
      → Visited start 0 (replicate n unreached ++ drop n seen₀) queue 0 (set filled start 0) (set queue 0 start) 1
  first-visit b long e =
      let z = cleared n seen₀ long start b in
      rw e (first (omega (arith, z)))

-- a fresh row is as if it were cleared
module _ (m : ℕ) (d : List ℕ) (fresh : d ≡ replicate m unreached) where
  pub fresh-cleared : (n : ℕ) → n ≤ m → d ≡ replicate n unreached ++ drop n d
  fresh-cleared n l = rw fresh (split n m unreached l)
    where
      split : (n m x : ℕ) → n ≤ m → replicate {A = ℕ} m x ≡ replicate n x ++ drop n (replicate m x)
      split zero m x l = refl
      split (suc n) zero x l = absurd (omega arith)
      split (suc n) (suc m) x l = ap {B = List ℕ} (λ r. x ∷ r) (split n m x (omega arith))

module _ {A : List Arc} {n start : ℕ} where
  -- how it begins: start is visited
  pub begins : (seen₀ : List ℕ) {queue₀ seen queue seen₁ : List ℕ} {tail : ℕ} → n ≤ length seen₀ → length seen₀ ≤ length queue₀ → start < n
      → seen₁ ≡ replicate n unreached ++ drop n seen₀ → Visited start 0 seen₁ queue₀ 0 seen queue tail
      → Searching A n start seen queue 0 tail
  begins seen₀ {queue₀} {seen₁} long room b e v =
      let blank : (u : ℕ) → u < n → get_or seen₁ u 0 ≡ unreached = λ u l. rw e (cleared n seen₀ long u l) in
      let same : length seen₁ ≡ length seen₀ = rw e (cleared-length n seen₀ long) in
      let s : Sound A n start seen₁ queue₀ 0 = record {
        low = λ u l. omega (arith, blank u l);
        walked = λ u l x. absurd (omega (arith, blank u l));
        basins = λ k l. absurd (omega arith);
        walks = λ k l. absurd (omega arith);
        room = omega (arith, unseen-le seen₁);
        long = omega arith;
      } in
      let in-seen : start < length seen₁ = omega arith in
      let g = visited-grew in-seen (omega arith) s.room v in
      record {
        sound = visited-sound b (omega arith) stay s v;
        open-or-closed = λ u l x. ⊎_elim (λ y. absurd (omega (arith, blank u l))) (λ q. inl q) (g.news u x);
        started = visited-seen in-seen (omega arith) v;
        placed = omega arith;
      }

  -- a turn: the basin at place `at` is scanned
  pub scans : {seen queue seen' queue' : List ℕ} {at tail tail' count : ℕ} → ((u w : ℕ) → Next A u w → w < n) → count < unreached
      → at < tail → Searching A n start seen queue at tail
      → Scanned A (get_or queue at 0) count seen queue tail seen' queue' tail' → Searching A n start seen' queue' (at + 1) tail'
  scans {seen} {queue} {seen'} {queue'} {at} {tail} {tail'} f few l s c =
      record {
        sound = grown-sound (λ w m. f (get_or queue at 0) w m) few (λ w m. walk-trans (s.sound.walks at l) (walk-arc m)) s.sound c.grown;
        open-or-closed = λ v b x. ⊎_elim
            (λ y. ⊎_elim (λ q. moved v q (ℕ_discrete q.place at)) (λ k. inr (λ w m. g.keeps w (k w m))) (s.open-or-closed v b y))
            (λ q. inl (record { place = q.place; from = omega arith; below = q.below; here = q.here }))
            (g.news v x);
        started = g.keeps start s.started;
        placed = omega (arith, g.further);
      }
    where
      g : Grew seen queue tail seen' queue' tail'
      g = grown-grew (λ w m. omega (arith, f (get_or queue at 0) w m, s.sound.long)) few s.sound.room c.grown

      -- what waits at `at` is closed now, and what waits behind it waits still
      moved : (v : ℕ) (q : Waits queue at tail v) → Dec (q.place ≡ at) → Waits queue' (at + 1) tail' v ⊎ Closed A seen' v
      moved v q (yes e) =
          let u : get_or queue at 0 ≡ v = rw e at q.here in
          inr (λ w m. c.closed w (rw u m))
      moved v q (no e) =
          inl (record { place = q.place; from = omega arith; below = omega (arith, g.further); here = g.queue-keeps q.place q.below ∙ q.here })

  -- the queue is empty: all that is reached is seen
  pub ends : {seen queue : List ℕ} {at tail v : ℕ} → ((u w : ℕ) → Next A u w → w < n) → start < n → tail ≤ at
      → Searching A n start seen queue at tail → Walk A start v → Seen seen v
  ends {seen} {queue} {at} {tail} f b l s p = (inside p b s.started).1
    where
      closed : (v : ℕ) → v < n → Seen seen v → Closed A seen v
      closed v c x = ⊎_elim (λ q. absurd (omega (arith, q.from, q.below))) (λ k. k) (s.open-or-closed v c x)

      -- no walk leaves what is seen
      inside : {u v : ℕ} → Walk A u v → u < n → Seen seen u → (v < n) × Seen seen v
      inside stay c x = (c, x)
      inside (step {u = u} {v = v} m p) c x = inside p (f u v m) (closed u c x v m)

-- ---- the counts

module _ {A : List Arc} {n start : ℕ} where
  -- a count is below the number of basins
  pub count-below : {seen queue : List ℕ} {at tail : ℕ} → Counting A n start seen queue at tail → (v : ℕ) → v < n → Seen seen v → get_or seen v 0 < n
  count-below {seen} c v l x = omega (arith, length-range 0 n, attained-below (λ u. get_or seen u 0) (range 0 n) (get_or seen v 0) (λ j b. at j b (ℕ_discrete j (get_or seen v 0))))
    where
      at : (j : ℕ) → j ≤ get_or seen v 0 → Dec (j ≡ get_or seen v 0) → (u : ℕ) × Memᴰ u (range 0 n) × (get_or seen u 0 ≡ j)
      at j b (yes e) = (v, range-has 0 n (omega arith) (omega arith), sym e)
      at j b (no e) = let u = c.attained v l x j (omega arith) in (u.0, range-has 0 n (omega arith) (omega (arith, u.1)), u.2)

  -- how they begin: start alone has one, 0
  pub counts-begin : (seen₀ : List ℕ) {queue₀ seen queue : List ℕ} {tail : ℕ} → n ≤ length seen₀ → length seen₀ ≤ length queue₀ → start < n
      → Visited start 0 (replicate n unreached ++ drop n seen₀) queue₀ 0 seen queue tail → Counting A n start seen queue 0 tail
  counts-begin seen₀ {queue₀} {seen} {queue} {tail} long room b v =
      record {
        origin = (own start b (visited-seen (fits start refl) (omega arith) v)).1;
        counted = λ u l x. let z = own u l x in rw (z.1, z.0) none-crossed;
        attained = λ u l x d h. absurd (omega (arith, (own u l x).1));
        queued = λ j l. omega (arith, k.queued j (omega arith) l);
        rising = λ i j a l h. omega (arith, k.queued i (omega arith) (omega arith), k.queued j (omega arith) h);
        top = λ h u l x. omega (arith, (own u l x).1);
        near = λ u l x. ⊎_elim (λ y. absurd (omega (arith, blank u l))) (λ w. inl w) (g.news u x);
      }
    where
      same : length (replicate n unreached ++ drop n seen₀) ≡ length seen₀
      same = cleared-length n seen₀ long

      blank : (u : ℕ) → u < n → get_or (replicate n unreached ++ drop n seen₀) u 0 ≡ unreached
      blank = cleared n seen₀ long

      fits : (w : ℕ) → w ≡ start → w < length (replicate n unreached ++ drop n seen₀)
      fits w e = omega (arith, same)

      g : Grew (replicate n unreached ++ drop n seen₀) queue₀ 0 seen queue tail
      g = visited-grew (fits start refl) (omega arith) (omega (arith, same, unseen-le (replicate n unreached ++ drop n seen₀))) v

      k : CountsGrew (λ w. w ≡ start) 0 (replicate n unreached ++ drop n seen₀) 0 seen queue tail
      k = grown-counts fits (omega arith) (omega (arith, same, unseen-le (replicate n unreached ++ drop n seen₀))) (more none_more refl v)

      own : (u : ℕ) → u < n → Seen seen u → (u ≡ start) × (get_or seen u 0 ≡ 0)
      own u l x = ⊎_elim (λ y. absurd (omega (arith, blank u l, y))) (λ y. y) (k.fresh u x)

  -- a turn: what the basin at place `at` leads to, and was not seen, has one more than it
  module _ {seen queue seen' queue' : List ℕ} {at tail tail' count : ℕ} (f : (u w : ℕ) → Next A u w → w < n) (few : count < unreached) (l : at < tail)
      (s : Searching A n start seen queue at tail) (c : Counting A n start seen queue at tail) (one_more : count ≡ get_or seen (get_or queue at 0) 0 + 1)
      (d : Scanned A (get_or queue at 0) count seen queue tail seen' queue' tail') where
    abbrev u : ℕ
    u = get_or queue at 0

    fits : (w : ℕ) → Next A u w → w < length seen
    fits w m = omega (arith, f u w m, s.sound.long)

    g : Grew seen queue tail seen' queue' tail'
    g = grown-grew fits few s.sound.room d.grown

    k : CountsGrew (Next A u) count seen tail seen' queue' tail'
    k = grown-counts fits few s.sound.room d.grown

    u-in : u < n
    u-in = s.sound.basins at l

    u-seen : Seen seen u
    u-seen = c.queued at l

    -- no count is above that of the turn
    most : (v : ℕ) → v < n → Seen seen' v → get_or seen' v 0 ≤ count
    most v b x = ⊎_elim (λ y. omega (arith, k.same v y, c.top l v b y, one_more)) (λ y. omega (arith, y.1)) (k.fresh v x)

    -- the count at a place that was there
    placed : (j : ℕ) → j < tail → get_or seen' (get_or queue' j 0) 0 ≡ get_or seen (get_or queue j 0) 0
    placed j h = ap (λ (v : ℕ). get_or seen' v 0) (g.queue-keeps j h) ∙ k.same (get_or queue j 0) (c.queued j h)

    -- from the next place on none is below that of u
    least : (j : ℕ) → at < j → j < tail' → Dec (j < tail) → get_or seen u 0 ≤ get_or seen' (get_or queue' j 0) 0
    least j a h (yes b) = omega (arith, placed j b, c.rising at j (omega arith) (omega arith) b)
    least j a h (no b) = omega (arith, k.queued j (omega arith) h, one_more)

    rises : (i j : ℕ) → at < i → i ≤ j → j < tail' → Dec (i < tail) → Dec (j < tail) → get_or seen' (get_or queue' i 0) 0 ≤ get_or seen' (get_or queue' j 0) 0
    rises i j a h b (yes p) (yes q) = omega (arith, placed i p, placed j q, c.rising i j (omega arith) h q)
    rises i j a h b (yes p) (no q) = omega (arith, placed i p, k.queued j (omega arith) b, c.top l (get_or queue i 0) (s.sound.basins i p) (c.queued i p), one_more)
    rises i j a h b (no p) q = omega (arith, k.queued i (omega arith) (omega arith), k.queued j (omega arith) b)

    -- a basin that no longer waits
    through : (v : ℕ) → v ≡ u → (w : ℕ) → Next A v w → Seen seen' w × (get_or seen' w 0 ≤ get_or seen' v 0 + 1)
    through v e w m =
        let m' : Next A u w = rw e at m in
        let x = d.closed w m' in
        let z : get_or seen' v 0 ≡ get_or seen u 0 = ap (λ (j : ℕ). get_or seen' j 0) e ∙ k.same u u-seen in
        (x, omega (arith, most w (f u w m') x, z, one_more))

    stays : (v : ℕ) → Seen seen v → (w : ℕ) → Seen seen w × (get_or seen w 0 ≤ get_or seen v 0 + 1) → Seen seen' w × (get_or seen' w 0 ≤ get_or seen' v 0 + 1)
    stays v y w z = (g.keeps w z.0, omega (arith, k.same v y, k.same w z.0, z.1))

    waited : (v : ℕ) (q : Waits queue at tail v) → Dec (q.place ≡ at) → Waits queue' (at + 1) tail' v ⊎ ((w : ℕ) → Next A v w → Seen seen' w × (get_or seen' w 0 ≤ get_or seen' v 0 + 1))
    waited v q (yes e) = inr (through v (sym (rw e at q.here)))
    waited v q (no e) = inl (record { place = q.place; from = omega arith; below = omega (arith, g.further); here = g.queue-keeps q.place q.below ∙ q.here })

    near_by : (v : ℕ) → v < n → Seen seen' v → Waits queue' (at + 1) tail' v ⊎ ((w : ℕ) → Next A v w → Seen seen' w × (get_or seen' w 0 ≤ get_or seen' v 0 + 1))
    near_by v b x =
        ⊎_elim
        (λ y. ⊎_elim (λ q. waited v q (ℕ_discrete q.place at)) (λ z. inr (λ w m. stays v y w (z w m))) (c.near v b y))
        (λ q. inl (record { place = q.place; from = omega arith; below = q.below; here = q.here }))
        (g.news v x)

    -- a smaller number is the count of u, or was one already
    kept : (e : ℕ) → e < unreached → (v : ℕ) × (v < n) × (get_or seen v 0 ≡ e) → (v : ℕ) × (v < n) × (get_or seen' v 0 ≡ e)
    kept e h v = (v.0, v.1, k.same v.0 (omega (arith, v.2)) ∙ v.2)

    smaller : (v : ℕ) → v < n → Seen seen' v → (e : ℕ) → e < get_or seen' v 0 → (w : ℕ) × (w < n) × (get_or seen' w 0 ≡ e)
    smaller v b x e h =
        ⊎_elim
        (λ y. kept e (omega arith) (c.attained v b y e (omega (arith, k.same v y))))
        (λ y. by-u (ℕ_discrete e (get_or seen u 0)) (omega (arith, y.1, one_more)))
        (k.fresh v x)
      where
        by-u : Dec (e ≡ get_or seen u 0) → e ≤ get_or seen u 0 → (w : ℕ) × (w < n) × (get_or seen' w 0 ≡ e)
        by-u (yes q) _ = (u, u-in, k.same u u-seen ∙ sym q)
        by-u (no q) h = kept e (omega arith) (c.attained u u-in u-seen e (omega arith))

    pub counts-on : Counting A n start seen' queue' (at + 1) tail'
    counts-on =
        record {
          origin = k.same start s.started ∙ c.origin;
          counted = λ v b x.
              ⊎_elim (λ y. rw (k.same v y) (c.counted v b y)) (λ y. rw (y.1 ∙ one_more) (walk_of-more (c.counted u u-in u-seen) y.0)) (k.fresh v x);
          attained = smaller;
          queued = λ j h. queued j h (dec_lt j tail);
          rising = λ i j a h b. rises i j (omega arith) h b (dec_lt i tail) (dec_lt j tail);
          top = λ h v b x. omega (arith, most v b x, least (at + 1) (omega arith) h (dec_lt (at + 1) tail), one_more);
          near = near_by;
        }
      where
        queued : (j : ℕ) → j < tail' → Dec (j < tail) → Seen seen' (get_or queue' j 0)
        queued j h (yes b) = omega (arith, placed j b, c.queued j b)
        queued j h (no b) = omega (arith, k.queued j (omega arith) h)

  -- the queue is empty: the counts are the fewest
  pub counts_end : {seen queue : List ℕ} {at tail : ℕ} → ((u w : ℕ) → Next A u w → w < n) → start < n → tail ≤ at
      → Searching A n start seen queue at tail → Counting A n start seen queue at tail → Noted A n start seen
  counts_end {seen} {queue} {at} {tail} f b l s c v h = go (dec_lt (get_or seen v 0) unreached) (dec_lt (fewest A start v) unreached)
    where
      closed : (u : ℕ) → u < n → Seen seen u → (w : ℕ) → Next A u w → Seen seen w × (get_or seen w 0 ≤ get_or seen u 0 + 1)
      closed u i x = ⊎_elim (λ q. absurd (omega (arith, q.from, q.below))) (λ z. z) (c.near u i x)

      -- along a walk no count rises by more than its arcs
      along : {j u w : ℕ} → WalkOf A j u w → u < n → Seen seen u → Seen seen w × (get_or seen w 0 ≤ get_or seen u 0 + j)
      along none-crossed i x = (x, omega arith)
      along (crossing {u = p} {v = q} m r) i x =
          let z = closed p i x q m in
          let t = along r (f p q m) z.0 in
          (t.0, omega (arith, t.1, z.1))

      go : Dec (Seen seen v) → Dec (fewest A start v < unreached) → get_or seen v 0 ≡ fewest A start v
      go (yes x) (yes e) = omega (arith, fewest-least (c.counted v h x), (along (fewest-walk A start v e) b s.started).1, c.origin)
      go (yes x) (no e) = absurd (omega (arith, fewest-least (c.counted v h x)))
      go (no x) (yes e) = absurd (x (along (fewest-walk A start v e) b s.started).0)
      go (no x) (no e) = omega (arith, s.sound.low v h, fewest-most A start v)

-- what is noted below 65,535 is what is reached
pub noted-reached : {A : List Arc} {n start : ℕ} (seen : List ℕ) → ((u w : ℕ) → Next A u w → w < n) → start < n → n ≤ unreached → Noted A n start seen
    → (v : ℕ) → v < n → noted seen v ≡ reached A start v
noted-reached {A} {n} {start} seen f b few m v l =
    ap (λ (x : ℕ). ltb x unreached) (m v l)
    ∙ counted-exactly A (range 0 n) (λ u w e. range-has 0 n (omega arith) (omega (arith, f u w e))) start v (range-has 0 n (omega arith) (omega arith)) (omega (arith, length-range 0 n))

-- ---- one of two searches, from both ends

-- the queue is empty, and the goal is not seen: it is not reached
pub unseen-unreached : {A : List Arc} {n start at tail : ℕ} {seen queue : List ℕ} (goal : ℕ) → ((u w : ℕ) → Next A u w → w < n) → start < n → goal < n → tail ≤ at
    → Searching A n start seen queue at tail → Unseen seen goal → false ≡ reached A start goal
unseen-unreached {A} {start} {seen} goal f b g l s z =
    sym (Bool-eq-false {b = reached A start goal} (λ e. let x : Seen seen goal = ends f b l s (reached-walk A start goal e) in omega (arith, x, z)))
