-- The first plan and the findings, from what the searches found.
-- Assumes nothing.
use Prim.Native.Nat.{ℕ, ◌≤◌, ◌<◌}
use native.Mathlib.Omega.{arith}
use mathlib.Core.Path.{◌≡◌, refl, sym, ap, subst, ◌∙◌}
use mathlib.Core.Bool.{Bool, true, false, not, ◌&&◌, beq}
use mathlib.Core.Option.{Option as Maybe, none, some, get_or}
use Rattle.std.proofs.Common.{Option, None, Some, is_none}
use mathlib.Core.List.{List, [], Memᴰ}
use lib.ListN.{length}
use lib.Dec.{ltb}
use mathlib.Mathlib.Data.Bool.Basic.{and_intro, Bool-eq-false}
use Rattle.std.specs.Prelude.{None, Some}
use Rattle.lists.specs.Lists.{range, find, keep, elem}
use Rattle.network.specs.Networks.{Network, is_wet, basins_of, lowest_basin, Accepted}
use Rattle.network.specs.Orientations.{Arc, ways, arcs, arcs_under, reached, unoriented}
use Rattle.network.specs.Plans.{reaches_all, strongly_connected, strongly_connected_under, is_plan, passable}
use Rattle.network.specs.Bridges.{crosses_alone, is_bridge, lowest_bridge}
use Rattle.network.specs.Marks.{marks_of}
use Rattle.network.specs.Settings.{gate_count}
use Rattle.network.specs.Replies.{shut_in_basin, shut_in_side, bridge_side, answer, first_answer}
use Rattle.lists.proofs.Bools.{clash, same_test, beq-make}
use Rattle.lists.proofs.Searches.{every-at, every-make, find-is, find-lowest, keep-in, keep_same, elem_in, elem-keep}
use Rattle.lists.proofs.Ranges.{range-in}
use Rattle.network.proofs.Marks.{marks-same}
use Rattle.network.proofs.Walks.{reached-walk}
use Rattle.network.proofs.Ways.{shut_out}
use Rattle.network.proofs.Networks.{basin-in, basin-below, basin-wet, basins-kept, basins-found, walk-in-basins}
use Rattle.network.specs.Certificates.{Alone}
use Rattle.network.proofs.Bridges.{LoneSide, alone-facts, alone_rest, alone-same, side-basins, cut-unique, bridge-below, bridge-blocks, bridge-side}
use Rattle.tables.proofs.Laws.{ways-unoriented}
use Rattle.marks.specs.Sets.{marked_set}
use Rattle.distances.specs.Distances.{unreached, noted}
use Rattle.basins.specs.Wet.{side_note, FarSideNoted}
use Rattle.orienting.specs.Ready.{ShutInBasin}
use Rattle.completing.specs.Greedy.{Greedy, all-oriented, bridge-at}
use Rattle.orientations.proofs.Least.{least_first}
use Rattle.seeking.specs.declared.Found.{Found}
use Rattle.seeking.specs.declared.Found.TheVariants.{Closed, Bridge, Oriented}
use Rattle.seeking.specs.Found.{outcome_of, SideNoted, FirstFound, found-closed, found-bridge, found-plan}
use Rattle.seeking.specs.Levels.{Level}
use Rattle.seeking.proofs.Levels.{level-under, passable-open}
use Rattle.half_edges.specs.Ends.{arcs_of}
use Rattle.tables.specs.Rows.{net_of, ways_row}

-- ---- shut in

-- all wet basins reach all exactly if there is none that does not
pub strong-basin : (N : Network) (A : List Arc) (r : Option ℕ) → ShutInBasin N A r → strongly_connected (basins_of N) A ≡ is_none r
strong-basin N A (Some r) w = Bool-eq-false {b = strongly_connected (basins_of N) A} (λ e. clash (every-at (reaches_all (basins_of N) A) e w.at.0) w.at.1)
strong-basin N A None w = every-make (reaches_all (basins_of N) A) (basins_of N) (λ u m. w.lower u m (basin-below N u m))

-- the two searches of the check
pub under-basin : {n : ℕ} {r : Option ℕ} {ks xs ys ws : List ℕ} → Level n ks xs ys → (s : List ℕ) → ws ≡ ways_row ks s → ShutInBasin (net_of n ks xs ys) (arcs_of xs ys ws) r → is_none r ≡ strongly_connected_under (net_of n ks xs ys) s
under-basin {n} {r} {ks} {xs} {ys} v s e w =
    sym (level-under v s ∙ strong-basin (net_of n ks xs ys) (arcs_of xs ys (ways_row ks s)) r (subst (λ (u : List ℕ). ShutInBasin (net_of n ks xs ys) (arcs_of xs ys u) r) e w))

-- two tests at once
and-fails : (p q : Bool) → (p ≡ true → q ≡ false) → p && q ≡ false
and-fails true q f = f refl
and-fails false q f = refl

and_second : (p q : Bool) → (q ≡ true → p ≡ true) → p && q ≡ q
and_second p true f = rw (f refl)
and_second true false f = refl
and_second false false f = refl

module _ (N : Network) where
  abbrev opened : List Arc
  opened = arcs N.reaches (ways N.reaches [])

  opened-is : arcs_under N (unoriented N) ≡ opened
  opened-is = ap (arcs N.reaches) (ways-unoriented N.reaches (gate_count N))

  pub closed-first : Accepted N → (r : ℕ) (ws seen : List ℕ) → ShutInBasin N opened (Some r) → ((v : ℕ) → v < N.basins → noted seen v ≡ reached opened r v) → FirstFound N ws seen Closed
  unfolding shut_in_side shut_in_basin
  closed-first ok r ws seen w told = found-closed (passable-open N ∙ strong-basin N opened (Some r) w) (ap marks_of (sym side))
    where
      test : List Arc → ℕ → Bool
      test A u = not (reaches_all (basins_of N) A u)

      at : shut_in_basin N ≡ some r
      at =
          ap (λ (A : List Arc). find (test A) (basins_of N)) opened-is
          ∙ basins-found N (test opened)
          ∙ find-lowest (λ b. is_wet N b && test opened b) 0 N.basins r (omega arith) (omega (arith, w.bound)) (and_intro (basin-wet N r w.at.0) (ap not w.at.1))
          (λ j a b. and-fails (is_wet N j) (test opened j) (λ wet. ap not (w.lower j (basin-in N j (omega (arith, w.bound)) wet) b)))

      -- what is reached from a wet basin is wet
      wet : (b : ℕ) → reached opened r b ≡ true → is_wet N b ≡ true
      wet b e = basin-wet N b (walk-in-basins N ok (ways N.reaches []) (shut_out N.reaches []) (reached-walk opened r b e) w.at.0)

      side : shut_in_side N ≡ marked_set N.basins seen
      side =
          ap (λ (o : Maybe ℕ). keep (reached (arcs_under N (unoriented N)) (get_or o 0)) (basins_of N)) at
          ∙ ap (λ (A : List Arc). keep (reached A r) (basins_of N)) opened-is
          ∙ basins-kept N (reached opened r)
          ∙ keep_same (λ b. is_wet N b && reached opened r b) (noted seen) (range 0 N.basins)
          (λ b m. and_second (is_wet N b) (reached opened r b) (wet b) ∙ sym (told b (omega (arith, (range-in 0 N.basins m).1))))

  -- ---- a bridge

  module _ (ok : Accepted N) where
    -- the side of a bridge is the one without the lowest wet basin of the two that it alone crosses
    bridge-marks : passable N ≡ true → (r : ℕ) → is_bridge N r ≡ true → (P : ℕ → Bool) → Alone N P r → P (lowest_basin N) ≡ false → marks_of (keep P (basins_of N)) ≡ marks_of (bridge_side N r)
    unfolding passable
    bridge-marks pass r e P alone out = marks-same (keep P (basins_of N)) (bridge_side N r) (λ b l. same b)
      where
        side : LoneSide N r (bridge_side N r)
        side = bridge-side N ok r e

        alike : (b : ℕ) → Memᴰ b (basins_of N) → P b ≡ elem b (bridge_side N r)
        alike = cut-unique N (unoriented N) pass r P (λ x. elem x (bridge_side N r)) alone (alone-facts N (bridge_side N r) r (bridge-below N r e) side.cut.alone) (out ∙ sym side.without)

        same : (b : ℕ) → elem b (keep P (basins_of N)) ≡ elem b (bridge_side N r)
        same b =
            same_test (elem b (keep P (basins_of N))) (elem b (bridge_side N r))
            (λ y. let k = keep-in P (basins_of N) (elem_in b (keep P (basins_of N)) y) in sym (alike b k.0) ∙ k.1)
            (λ y. let m = side-basins (basins_of N) (bridge_side N r) side.cut.side b (elem_in b (bridge_side N r) y) in elem-keep P m ∙ alike b m ∙ y)

    -- noted otherwise than x says: the one or the other
    differs_true : (y : Bool) → not (beq y true) ≡ not y
    differs_true true = refl
    differs_true false = refl

    differs_false : (y : Bool) → not (beq y false) ≡ y
    differs_false true = refl
    differs_false false = refl

    -- what is on the side is noted as reached
    side-told : (side : Bool) → ltb (side_note side) unreached ≡ side
    side-told true = refl
    side-told false = refl

    module _ (r : ℕ) (seen : List ℕ) (below : r < length N.reaches) where
      other-alone : (x : Bool) → Alone N (noted seen) r → Alone N (λ b. not (beq (noted seen b) x)) r
      other-alone true f = alone-same N ok (λ b. not (noted seen b)) (λ b. not (beq (noted seen b) true)) r below (λ b m. differs_true (noted seen b)) (alone_rest N (noted seen) r f)
      other-alone false f = alone-same N ok (noted seen) (λ b. not (beq (noted seen b) false)) r below (λ b m. differs_false (noted seen b)) f

      bridge-noted : passable N ≡ true → {seen' : List ℕ} → is_bridge N r ≡ true → crosses_alone N (keep (noted seen) (basins_of N)) r ≡ true → FarSideNoted N seen seen' → SideNoted N seen' (Bridge r)
      bridge-noted pass {seen'} e cross far = ap marks_of (sym side) ∙ bridge-marks pass r e P (other-alone x alone) out
        where
          x : Bool
          x = noted seen (lowest_basin N)

          P : ℕ → Bool
          P b = not (beq (noted seen b) x)

          alone : Alone N (noted seen) r
          alone =
              alone-same N ok (λ b. elem b (keep (noted seen) (basins_of N))) (noted seen) r below (λ b m. sym (elem-keep (noted seen) m))
              (alone-facts N (keep (noted seen) (basins_of N)) r below cross)

          out : P (lowest_basin N) ≡ false
          out = ap not (beq-make x x refl)

          side : keep P (basins_of N) ≡ marked_set N.basins seen'
          side =
              basins-kept N P
              ∙ keep_same (λ b. is_wet N b && P b) (noted seen') (range 0 N.basins)
              (λ b m. sym (ap (λ (y : ℕ). ltb y unreached) (far.notes b (omega (arith, (range-in 0 N.basins m).1))) ∙ side-told (is_wet N b && P b)))

    -- ---- the three ends of the search

    no-bridge : (s : List ℕ) → is_plan N s ≡ true → lowest_bridge N ≡ none
    unfolding lowest_bridge
    no-bridge s e = find-is (is_bridge N) (range 0 (length N.reaches)) (λ i m. Bool-eq-false {b = is_bridge N i} (λ y. bridge-blocks N i y s e))

    lowest-at : (r : ℕ) → is_bridge N r ≡ true → r < length N.reaches → ((j : ℕ) → 0 ≤ j → j < r → is_bridge N j ≡ false) → lowest_bridge N ≡ some r
    unfolding lowest_bridge
    lowest-at r e l f = find-lowest (is_bridge N) 0 (length N.reaches) r (omega arith) (omega arith) e f

    pub passed-basin : ShutInBasin N opened None → passable N ≡ true
    passed-basin w = passable-open N ∙ strong-basin N opened None w

    pub bridge-first : {ws₁ ws seen seen' : List ℕ} {r : ℕ} → passable N ≡ true → Greedy N (ways N.reaches []) 0 ws₁ seen (Some r) → FarSideNoted N seen seen' → FirstFound N ws seen' (Bridge r)
    bridge-first {seen} {r} pass (bridge-at k e clear cross) far = found-bridge pass (lowest-at r e k clear) k (bridge-noted r seen k pass e cross far)

    pub plan-first : {ws seen : List ℕ} → passable N ≡ true → Greedy N (ways N.reaches []) 0 ws seen None → FirstFound N ws seen Oriented
    plan-first pass (all-oriented m) = found-plan pass (no-bridge _ m.is-plan) m

  -- ---- and the reply that they make

  pub first-outcome : {ws seen : List ℕ} {f : Found} → FirstFound N ws seen f → first_answer N ≡ outcome_of N ws f
  unfolding first_answer answer
  first-outcome (found-closed n k) = rw n
  first-outcome (found-bridge p e l k) = rw (p, e)
  first-outcome (found-plan p e m) = rw (p, e, least_first N _ m)
