-- Two reaches that alone cross a division: water that passes in at the one passes out at the other, so the way of one decides the other's, in every plan and in every
-- partial orientation under which everything reaches everything.
-- Assumes nothing.
use Prim.Native.Nat.{ℕ, zero, suc, ◌≤◌, ◌<◌}
use native.Mathlib.Omega.{arith}
use native.Mathlib.Decide.{ℕ_discrete}
use mathlib.Core.Path.{◌≡◌, refl, sym, ap, subst, ◌∙◌}
use mathlib.Core.Bool.{Bool, true, false, not, ◌&&◌, beq}
use mathlib.Core.Logic.{⊎_elim, ◌≢◌}
use mathlib.Core.List.Memᴰ
use mathlib.Core.List.{List, Memᴰ}
use lib.ListN.{length, get_or, set}
use lib.Seq.{get_or-set_same, get_or-set_other}
use mathlib.Mathlib.Data.Bool.Basic.{Bool-eq-false, eq-true_of_not-eq-false, and_elim_right}
use Rattle.network.specs.declared.Reach.{Reach}
use Rattle.network.specs.Networks.{Network, in_service, basins_of, Accepted}
use Rattle.network.specs.Settings.{is_gated, is_setting}
use Rattle.network.specs.Orientations.{arc, passing, arcs, ways, reached}
use Rattle.network.specs.Plans.{strongly_connected, strongly_connected_under, is_plan}
use Rattle.network.specs.Bridges.{crosses_by, reach_at}
use Rattle.lists.proofs.Bools.{clash}
use Rattle.network.proofs.Walks.{walk_inside, arc-to}
use Rattle.network.proofs.Cuts.{strong-walks}
use Rattle.network.proofs.Ways.{passing_at, arcs-in, ShutOut, shut_out, arc-in-service}
use Rattle.network.proofs.Networks.{end-a-in, end-b-in, reach-alike}
use Rattle.network.specs.Certificates.{Alone}
use Rattle.network.proofs.Bridges.{uncrossed-ends, cut_of, cut_parts, plan-gate-small}
use Rattle.network.proofs.Steps.{orient-drawn, orient-turned, stuck-alone}
use Rattle.series.specs.Pairs.{reach_end, toward, Crossing, CutPair, guided_way}

-- ---- one reach

-- a reach that is hung passes to one of its ends
passes-to : (r : Reach) (w : ℕ) → w ≤ 1 → (c d : ℕ) → Memᴰ (arc c d) (passing w r.a r.b) → d ≡ reach_end r (toward w)
passes-to r zero l c d m = ⊎_elim (λ e. arc-to e) (λ n. absurd (Memᴰ.not-nil n)) (Memᴰ.cases_cons m)
passes-to r (suc zero) l c d m = ⊎_elim (λ e. arc-to e) (λ n. absurd (Memᴰ.not-nil n)) (Memᴰ.cases_cons m)
passes-to r (suc (suc w)) l c d m = absurd (omega arith)

end-in : (N : Network) → Accepted N → (i : ℕ) → i < length N.reaches → in_service (reach_at N i).state ≡ true → (x : Bool) → Memᴰ (reach_end (reach_at N i) x) (basins_of N)
end-in N ok i l s false = end-a-in N ok i l s
end-in N ok i l s true = end-b-in N ok i l s

-- seen from the other side
crossing-rest : (S : ℕ → Bool) (r : Reach) (x : Bool) → Crossing S r x → Crossing (λ b. not (S b)) r (not x)
crossing-rest S r true c = record { serves = c.serves; inside = ap not c.outside; outside = ap not c.inside }
crossing-rest S r false c = record { serves = c.serves; inside = ap not c.outside; outside = ap not c.inside }

rest-same : (S : ℕ → Bool) (r : Reach) → crosses_by (λ b. not (S b)) r ≡ crosses_by S r
rest-same S r = go (S r.a) (S r.b)
  where
    go : (x y : Bool) → in_service r.state && not (beq (not x) (not y)) ≡ in_service r.state && not (beq x y)
    go true true = refl
    go true false = refl
    go false true = refl
    go false false = refl

crossing-crosses : (S : ℕ → Bool) (r : Reach) (x : Bool) → Crossing S r x → crosses_by S r ≡ true
crossing-crosses S r true c = rw (c.serves, c.inside, c.outside)
crossing-crosses S r false c = rw (c.serves, c.inside, c.outside)

pair-rest : (N : Network) (S : ℕ → Bool) (i : ℕ) (x : Bool) (j : ℕ) (y : Bool) → CutPair N S i x j y → CutPair N (λ b. not (S b)) i (not x) j (not y)
pair-rest N S i x j y p =
    record {
      below-i = p.below-i;
      below-j = p.below-j;
      apart = p.apart;
      one = crossing-rest S (reach_at N i) x p.one;
      two = crossing-rest S (reach_at N j) y p.two;
      others = λ k l n m. rest-same S (reach_at N k) ∙ p.others k l n m;
    }

-- ---- not both in, not both out

module _ (N : Network) (ok : Accepted N) (ws : List ℕ) (out : ShutOut N.reaches ws) (str : strongly_connected (basins_of N) (arcs N.reaches ws) ≡ true) where
  not-both-in : (S : ℕ → Bool) (i : ℕ) (x : Bool) (j : ℕ) (y : Bool) → CutPair N S i x j y → get_or ws i 3 ≤ 1 → get_or ws j 3 ≤ 1 → toward (get_or ws i 3) ≡ x → toward (get_or ws j 3) ≡ y → ⊥
  not-both-in S i x j y p li lj ti tj =
      clash (walk_inside S closed (strong-walks (basins_of N) (arcs N.reaches ws) str _ _ (end-in N ok i p.below-i p.one.serves x) (end-in N ok i p.below-i p.one.serves (not x))) p.one.inside) p.one.outside
    where
      closed : (c d : ℕ) → Memᴰ (arc c d) (arcs N.reaches ws) → S c ≡ true → S d ≡ true
      closed c d m e = from (arcs-in N.reaches ws (arc c d) m).reach (arcs-in N.reaches ws (arc c d) m).below (arcs-in N.reaches ws (arc c d) m).passes
        where
          into : (k : ℕ) (z : Bool) → get_or ws k 3 ≤ 1 → toward (get_or ws k 3) ≡ z → Crossing S (reach_at N k) z → Memᴰ (arc c d) (passing_at N.reaches k (get_or ws k 3)) → S d ≡ true
          into k z l t cr mk = ap S (passes-to (reach_at N k) (get_or ws k 3) l c d mk ∙ ap (reach_end (reach_at N k)) t) ∙ cr.inside

          from : (k : ℕ) → k < length N.reaches → Memᴰ (arc c d) (passing_at N.reaches k (get_or ws k 3)) → S d ≡ true
          from k l mk = go (ℕ_discrete k i) (ℕ_discrete k j)
            where
              go : Dec (k ≡ i) → Dec (k ≡ j) → S d ≡ true
              go (yes q) z = into i x li ti p.one (subst (λ (n : ℕ). Memᴰ (arc c d) (passing_at N.reaches n (get_or ws n 3))) q mk)
              go (no n) (yes q) = into j y lj tj p.two (subst (λ (n : ℕ). Memᴰ (arc c d) (passing_at N.reaches n (get_or ws n 3))) q mk)
              go (no n) (no m') =
                  sym (reach-alike S (get_or ws k 3) _ _ c d (uncrossed-ends S (reach_at N k) (p.others k l n m') (arc-in-service N.reaches ws out k l (arc c d) mk)) mk) ∙ e

  -- ways of which not both pass in and not both pass out
  only-way : (w w' : ℕ) (x y : Bool) → w ≤ 1 → w' ≤ 1 → (toward w ≡ x → toward w' ≡ y → ⊥) → (toward w ≡ not x → toward w' ≡ not y → ⊥) → w' ≡ guided_way x y w
  only-way zero zero true true l l' f g = absurd (f refl refl)
  only-way zero zero true false l l' f g = refl
  only-way zero zero false true l l' f g = refl
  only-way zero zero false false l l' f g = absurd (g refl refl)
  only-way zero (suc zero) true true l l' f g = refl
  only-way zero (suc zero) true false l l' f g = absurd (f refl refl)
  only-way zero (suc zero) false true l l' f g = absurd (g refl refl)
  only-way zero (suc zero) false false l l' f g = refl
  only-way (suc zero) zero true true l l' f g = refl
  only-way (suc zero) zero true false l l' f g = absurd (g refl refl)
  only-way (suc zero) zero false true l l' f g = absurd (f refl refl)
  only-way (suc zero) zero false false l l' f g = refl
  only-way (suc zero) (suc zero) true true l l' f g = absurd (g refl refl)
  only-way (suc zero) (suc zero) true false l l' f g = refl
  only-way (suc zero) (suc zero) false true l l' f g = refl
  only-way (suc zero) (suc zero) false false l l' f g = absurd (f refl refl)
  only-way (suc (suc w)) w' x y l l' f g = absurd (omega arith)
  only-way zero (suc (suc w')) x y l l' f g = absurd (omega arith)
  only-way (suc zero) (suc (suc w')) x y l l' f g = absurd (omega arith)

  -- What passes in at the one passes out at the other: the way of one is that of the other, or against it.
  pub pair-ways : (S : ℕ → Bool) (i : ℕ) (x : Bool) (j : ℕ) (y : Bool) → CutPair N S i x j y → get_or ws i 3 ≤ 1 → get_or ws j 3 ≤ 1 → get_or ws j 3 ≡ guided_way x y (get_or ws i 3)
  pair-ways S i x j y p li lj =
      only-way (get_or ws i 3) (get_or ws j 3) x y li lj (not-both-in S i x j y p li lj) (not-both-in (λ b. not (S b)) i (not x) j (not y) (pair-rest N S i x j y p) li lj)

-- In every plan, of two gates.
pub pair-plan : (N : Network) → Accepted N → (S : ℕ → Bool) (i : ℕ) (x : Bool) (j : ℕ) (y : Bool) → CutPair N S i x j y → is_gated (reach_at N i).state ≡ true → is_gated (reach_at N j).state ≡ true
    → (q : List ℕ) → is_plan N q ≡ true → get_or (ways N.reaches q) j 3 ≡ guided_way x y (get_or (ways N.reaches q) i 3)
unfolding is_plan strongly_connected_under
pair-plan N ok S i x j y p gi gj q e =
    pair-ways N ok (ways N.reaches q) (shut_out N.reaches q) (and_elim_right (is_setting N q) _ e) S i x j y p
    (plan-gate-small N q i e p.below-i gi) (plan-gate-small N q j e p.below-j gj)

-- ---- the way that is left

-- the basins of which just one of two sides has each
abbrev symmetric_difference : (ℕ → Bool) → (ℕ → Bool) → ℕ → Bool
symmetric_difference S T b = not (beq (S b) (T b))

-- a reach crosses this division if it crosses just one of the two
crossed-difference : (S T : ℕ → Bool) (r : Reach) → crosses_by (symmetric_difference S T) r ≡ not (beq (crosses_by S r) (crosses_by T r))
crossed-difference S T r = go (in_service r.state) (S r.a) (S r.b) (T r.a) (T r.b)
  where
    go : (e a b c d : Bool) → e && not (beq (not (beq a c)) (not (beq b d))) ≡ not (beq (e && not (beq a b)) (e && not (beq c d)))
    go false a b c d = refl
    go true true true true true = refl
    go true true true true false = refl
    go true true true false true = refl
    go true true true false false = refl
    go true true false true true = refl
    go true true false true false = refl
    go true true false false true = refl
    go true true false false false = refl
    go true false true true true = refl
    go true false true true false = refl
    go true false true false true = refl
    go true false true false false = refl
    go true false false true true = refl
    go true false false true false = refl
    go true false false false true = refl
    go true false false false false = refl

-- so if one of two reaches in series alone crosses some division, the other alone crosses another
pair-alone : (N : Network) (S T : ℕ → Bool) (i : ℕ) (x : Bool) (j : ℕ) (y : Bool) → CutPair N S i x j y → Alone N T j → Alone N (symmetric_difference S T) i
pair-alone N S T i x j y p f = record { crossing = crossed-difference S T (reach_at N i) ∙ rw (crossing-crosses S (reach_at N i) x p.one, f.others i p.below-i p.apart); others = others }
  where
    others : (k : ℕ) → k < length N.reaches → k ≢ i → crosses_by (symmetric_difference S T) (reach_at N k) ≡ false
    others k l n = go (ℕ_discrete k j)
      where
        go : Dec (k ≡ j) → crosses_by (symmetric_difference S T) (reach_at N k) ≡ false
        go (yes q) = rw q (crossed-difference S T (reach_at N j) ∙ rw (crossing-crosses S (reach_at N j) y p.two, f.crossing))
        go (no m) = crossed-difference S T (reach_at N k) ∙ rw (p.others k l n m, f.others k l m)

-- Under ways with which everything reaches everything, reach i hung and reach j usable either way: j gets the way that i leaves it without loss, and the other not.
module _ (N : Network) (ok : Accepted N) (ws : List ℕ) (full : length ws ≡ length N.reaches) (out : ShutOut N.reaches ws)
    (small : (k : ℕ) → k < length N.reaches → in_service (reach_at N k).state ≡ true → get_or ws k 3 ≤ 2)
    (S : ℕ → Bool) (i : ℕ) (x : Bool) (j : ℕ) (y : Bool) (p : CutPair N S i x j y) (hung : get_or ws i 3 ≤ 1)
    (str : strongly_connected (basins_of N) (arcs N.reaches (set ws j 2)) ≡ true) where
  room : j < length ws
  room = omega (arith, full, p.below-j)

  still : (w : ℕ) → get_or (set ws j w) i 3 ≡ get_or ws i 3
  still w = get_or-set_other ws j i w 3 p.apart

  out-set : (w : ℕ) → ShutOut N.reaches (set ws j w)
  out-set w k l e = go (ℕ_discrete k j)
    where
      go : Dec (k ≡ j) → get_or (set ws j w) k 3 ≡ 3
      go (yes q) = clash p.two.serves (subst (λ (n : ℕ). in_service (reach_at N n).state ≡ false) q e)
      go (no n) = get_or-set_other ws j k w 3 n ∙ out k l e

  -- hung otherwise, not everything reaches everything
  lost : (w : ℕ) → w ≤ 1 → w ≢ guided_way x y (get_or ws i 3) → strongly_connected (basins_of N) (arcs N.reaches (set ws j w)) ≡ false
  lost w l n =
      Bool-eq-false {b = strongly_connected (basins_of N) (arcs N.reaches (set ws j w))}
      (λ e. n (sym (get_or-set_same ws j w 3 room)
      ∙ pair-ways N ok (set ws j w) (out-set w) e S i x j y p (rw (still w) hung) (rw (get_or-set_same ws j w 3 room) l)
      ∙ ap (guided_way x y) (still w)))

  -- not both ways are lost
  stuck : reached (arcs N.reaches (set ws j 3)) (reach_at N j).b (reach_at N j).a ≡ false → reached (arcs N.reaches (set ws j 3)) (reach_at N j).a (reach_at N j).b ≡ false → ⊥
  stuck ba ab =
      cut_parts N i _ p.below-i
      (cut_of N ok i p.below-i _ (pair-alone N S _ i x j y p (stuck-alone N ok ws j p.below-j full p.two.serves out small str ba ab)))
      (set ws j 2) (out-set 2) (rw (still 2) hung) str

  drawn-is : strongly_connected (basins_of N) (arcs N.reaches (set ws j 0)) ≡ reached (arcs N.reaches (set ws j 3)) (reach_at N j).b (reach_at N j).a
  drawn-is = orient-drawn N ok ws j p.below-j full p.two.serves str

  turned-is : strongly_connected (basins_of N) (arcs N.reaches (set ws j 1)) ≡ reached (arcs N.reaches (set ws j 3)) (reach_at N j).a (reach_at N j).b
  turned-is = orient-turned N ok ws j p.below-j full p.two.serves str

  -- What the searches for reach j would say: as drawn if that is the way that i leaves, turned if that is.
  pub guided-drawn : reached (arcs N.reaches (set ws j 3)) (reach_at N j).b (reach_at N j).a ≡ toward (guided_way x y (get_or ws i 3))
  guided-drawn = go (guided_way x y (get_or ws i 3)) refl
    where
      go : (w : ℕ) → guided_way x y (get_or ws i 3) ≡ w → reached (arcs N.reaches (set ws j 3)) (reach_at N j).b (reach_at N j).a ≡ toward w
      go zero e = eq-true_of_not-eq-false {b = reached (arcs N.reaches (set ws j 3)) (reach_at N j).b (reach_at N j).a} (λ n. stuck n (sym turned-is ∙ lost 1 (omega arith) (λ q. absurd (omega (arith, q, e)))))
      go (suc w) e = sym drawn-is ∙ lost 0 (omega arith) (λ q. absurd (omega (arith, q, e)))

  pub guided-turned : reached (arcs N.reaches (set ws j 3)) (reach_at N j).a (reach_at N j).b ≡ not (toward (guided_way x y (get_or ws i 3)))
  guided-turned = go (guided_way x y (get_or ws i 3)) refl
    where
      go : (w : ℕ) → guided_way x y (get_or ws i 3) ≡ w → reached (arcs N.reaches (set ws j 3)) (reach_at N j).a (reach_at N j).b ≡ not (toward w)
      go zero e = sym turned-is ∙ lost 1 (omega arith) (λ q. absurd (omega (arith, q, e)))
      go (suc w) e = eq-true_of_not-eq-false {b = reached (arcs N.reaches (set ws j 3)) (reach_at N j).a (reach_at N j).b} (λ n. stuck (sym drawn-is ∙ lost 0 (omega arith) (λ q. absurd (omega (arith, q, e)))) n)
