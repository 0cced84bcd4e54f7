-- The scan of a basin: its loop's invariant, a turn, and what holds at the end.
-- Assumes nothing.
use Prim.Native.Nat.{ℕ, ◌≤◌, ◌<◌}
use mathlib.Core.Path.{◌≡◌}
use mathlib.Core.Bool.{true, false}
use mathlib.Core.List.{List}
use native.Mathlib.Decide.{dec_lt}
use native.Mathlib.Omega.{arith}
use lib.ListN.{length}
use Rattle.lists.proofs.Bools.{clash}
use Rattle.half_edges.specs.Ends.{arcs_of, halves, end_of, other_of, leaves, Next}
use Rattle.half_edges.specs.Chains.{no_half, Last, nothing, last}
use Rattle.distances.specs.Distances.{unreached}
use Rattle.search.specs.Searches.{Seen, Visited, Grown, more, Scanned}
use Rattle.half_edges.proofs.Halves.{arc-half, half-arc}
use Rattle.half_edges.proofs.Hands.{Current, from-hand}
use Rattle.search.proofs.Visits.{Grew, grew_trans, visited-grew, visited-seen}

-- All half-edges at u from x on are done, and h is the last one below x.
pub record Scanning (xs ys ws : List ℕ) (u count : ℕ) (seen₀ queue₀ : List ℕ) (tail : ℕ) (seen queue : List ℕ) (end h : ℕ) : Type 0 where
  pub x : ℕ
  pub within : x ≤ halves xs
  pub chain : Last xs ys x u h
  pub done : (k : ℕ) → x ≤ k → k < halves xs → end_of xs ys k ≡ u → leaves ws k ≡ true → Seen seen (other_of xs ys k)
  pub grown : Grown (Next (arcs_of xs ys ws) u) count seen₀ queue₀ tail seen queue end
  pub grew : Grew seen₀ queue₀ tail seen queue end

module _ {xs ys ws : List ℕ} {u count : ℕ} {seen₀ queue₀ : List ℕ} {tail : ℕ} where
  -- a turn: what h leads to, if it passes, is seen now
  turn : {seen queue seen' queue' : List ℕ} {end end' h c : ℕ} → (s : Scanning xs ys ws u count seen₀ queue₀ tail seen queue end h)
      → Current xs ys s.x u h → Last xs ys h (end_of xs ys h) c
      → (leaves ws h ≡ true → Seen seen' (other_of xs ys h)) → ((v : ℕ) → Seen seen v → Seen seen' v)
      → Grown (Next (arcs_of xs ys ws) u) count seen₀ queue₀ tail seen' queue' end' → Grew seen₀ queue₀ tail seen' queue' end'
      → Scanning xs ys ws u count seen₀ queue₀ tail seen' queue' end' c
  turn {seen'} {h} {c} s k l now keeps g w =
      record {
        x = h;
        within = omega arith;
        chain = rw k.stands at l;
        done = λ j a b e p.
            from-hand k (λ i. i < halves xs → leaves ws i ≡ true → Seen seen' (other_of xs ys i)) (λ _ q. now q) (λ i d f b q. keeps (other_of xs ys i) (s.done i d b f q)) j a e b p;
        grown = g;
        grew = w;
      }

  -- the turn of a half-edge that does not pass
  pub turn-past : {seen queue : List ℕ} {end h c : ℕ} → (s : Scanning xs ys ws u count seen₀ queue₀ tail seen queue end h)
      → Current xs ys s.x u h → Last xs ys h (end_of xs ys h) c → leaves ws h ≡ false
      → Scanning xs ys ws u count seen₀ queue₀ tail seen queue end c
  turn-past s k l p = turn s k l (λ q. clash q p) (λ v x. x) s.grown s.grew

  -- the turn of one that passes, and whose far end w is visited
  pub turn-through : {seen queue seen' queue' : List ℕ} {end end' h c w : ℕ} → (s : Scanning xs ys ws u count seen₀ queue₀ tail seen queue end h)
      → Current xs ys s.x u h → Last xs ys h (end_of xs ys h) c → length ys ≡ length xs → length xs ≤ length ws → leaves ws h ≡ true
      → w ≡ other_of xs ys h → other_of xs ys h < length seen → count < unreached → Visited w count seen queue end seen' queue' end'
      → Scanning xs ys ws u count seen₀ queue₀ tail seen' queue' end' c
  turn-through {seen} {h} {w} s k l paired room p e b c v =
      let b' : w < length seen = rw e b in
      let g = visited-grew b' c s.grew.room v in
      turn s k l (λ _. rw (← e) (visited-seen b' c v)) g.keeps
      (more s.grown (rw (e, ← k.stands) (half-arc xs ys ws h paired room (omega (arith, k.below, s.within)) p)) v)
      (grew_trans s.grew g)

  -- the same state by other names
  pub renamed : {seen queue seen' queue' : List ℕ} {end end' h : ℕ} → seen' ≡ seen → queue' ≡ queue → end' ≡ end
      → Scanning xs ys ws u count seen₀ queue₀ tail seen queue end h → Scanning xs ys ws u count seen₀ queue₀ tail seen' queue' end' h
  renamed p q r s = rw (p, q, r) s

  -- the end: all are done
  pub scanned : {seen queue : List ℕ} {end h : ℕ} → halves xs < no_half → h ≡ no_half → Scanning xs ys ws u count seen₀ queue₀ tail seen queue end h
      → Scanned (arcs_of xs ys ws) u count seen₀ queue₀ tail seen queue end
  scanned {seen} {h} few e s =
      record { grown = s.grown; closed = λ w m. let f = arc-half xs ys ws u w m in rw (← f.leads) (at f.half f.within f.stands f.passes s.chain (dec_lt f.half s.x)) }
    where
      at : (k : ℕ) → k < halves xs → end_of xs ys k ≡ u → leaves ws k ≡ true → Last xs ys s.x u h → Dec (k < s.x) → Seen seen (other_of xs ys k)
      at k b q p l (no d) = s.done k (omega arith) b q p
      at k b q p (nothing _ f) (yes d) = absurd (f k d q)
      at k b q p (last c _ f) (yes d) = absurd (omega (arith, s.within))
