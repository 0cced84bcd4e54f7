-- The step that carries the planner: where everything reaches everything, what orienting one undecided gate changes.
-- Assumes nothing.
use Prim.Native.Nat.{ℕ, zero, suc, ◌≤◌, ◌<◌}
use native.Mathlib.Omega.{arith}
use mathlib.Core.Path.{◌≡◌, refl, sym, subst, subst⁻¹}
use mathlib.Core.Bool.{true, false, not}
use mathlib.Core.Logic.{◌⊎◌, inl, inr, ⊎_elim, ◌≢◌}
use mathlib.Core.List.Memᴰ
use mathlib.Core.List.{List, [], ◌∷◌, Memᴰ}
use lib.ListN.{length, get_or, set}
use lib.Seq.{get_or-set_other}
use Rattle.network.specs.Networks.{Network, in_service, basins_of, Accepted}
use Rattle.network.specs.Settings.{is_gated}
use Rattle.network.specs.Orientations.{Arc, arc, passing, arcs, reached}
use Rattle.network.specs.Plans.{strongly_connected}
use Rattle.network.specs.Bridges.{reach_at, is_bridge}
use Rattle.lists.proofs.Bools.{same_test}
use Rattle.network.proofs.Walks.{reached-walk, reached-refl}
use Rattle.network.proofs.Cuts.{OneMore, TwoMore, strong-walks, walks-strong, detour, came-back, bridge, other-side}
use Rattle.network.proofs.Ways.{arcs-has, split-in, split-own, split_rest, passing_at, ShutOut, shut-left-out}
use Rattle.network.proofs.Networks.{end-a-in, end-b-in, arcs-in-basins}
use Rattle.network.specs.Certificates.{Alone}
use Rattle.network.proofs.Bridges.{uncrossed, bridge-make}

-- a reach whose way is 0, 1 or 2 passes between its ends
some-arc : (w a b : ℕ) → w ≤ 2 → Memᴰ (arc a b) (passing w a b) ⊎ Memᴰ (arc b a) (passing w a b)
some-arc zero a b l = inl (Memᴰ.head refl)
some-arc (suc zero) a b l = inr (Memᴰ.head refl)
some-arc (suc (suc zero)) a b l = inl (Memᴰ.head refl)
some-arc (suc (suc (suc w))) a b l = absurd (omega arith)

-- The reach i in service of a network in which the reaches have the ways ws. Way 3 for it leaves it out.
module _ (N : Network) (ok : Accepted N) (ws : List ℕ) (i : ℕ) (below : i < length N.reaches) (full : length ws ≡ length N.reaches) (serves : in_service (reach_at N i).state ≡ true) where
  abbrev pub under : ℕ → List Arc
  under x = arcs N.reaches (set ws i x)

  abbrev pub end_a : ℕ
  end_a = (reach_at N i).a

  abbrev pub end_b : ℕ
  end_b = (reach_at N i).b

  one_at : (x a b : ℕ) → passing_at N.reaches i x ≡ arc a b ∷ [] → OneMore (under 3) (under x) a b
  one_at x a b e =
      record {
        has = split-own N.reaches ws i x below (omega (arith, full)) (arc a b) (subst⁻¹ (λ (l : List Arc). Memᴰ (arc a b) l) e (Memᴰ.head refl));
        rest = split_rest N.reaches ws i x;
        only = λ y m. ⊎_elim (λ own. inl (⊎_elim (λ q. q) (λ n. absurd (Memᴰ.not-nil n)) (Memᴰ.cases_cons (subst (λ (l : List Arc). Memᴰ y l) e own)))) (λ other. inr other) (split-in N.reaches ws i x y m);
      }

  drawn : OneMore (under 3) (under 0) end_a end_b
  drawn = one_at 0 end_a end_b refl

  turned : OneMore (under 3) (under 1) end_b end_a
  turned = one_at 1 end_b end_a refl

  both : TwoMore (under 3) (under 2) end_a end_b
  both y m =
      ⊎_elim
      (λ own. ⊎_elim (λ e. inl e) (λ m'. ⊎_elim (λ e. inr (inl e)) (λ n. absurd (Memᴰ.not-nil n)) (Memᴰ.cases_cons m')) (Memᴰ.cases_cons own))
      (λ other. inr (inr other))
      (split-in N.reaches ws i 2 y m)

  both' : TwoMore (under 3) (under 2) end_b end_a
  both' y m = ⊎_elim (λ e. inr (inl e)) (⊎_elim (λ e. inl e) (λ o. inr (inr o))) (both y m)

  in-a : Memᴰ end_a (basins_of N)
  in-a = end-a-in N ok i below serves

  in_b : Memᴰ end_b (basins_of N)
  in_b = end-b-in N ok i below serves

  one_way : (x a b : ℕ) → OneMore (under 3) (under x) a b → TwoMore (under 3) (under 2) a b → Memᴰ a (basins_of N) → Memᴰ b (basins_of N) → strongly_connected (basins_of N) (under 2) ≡ true → strongly_connected (basins_of N) (under x) ≡ reached (under 3) b a
  one_way x a b one two ma mb str =
      same_test (strongly_connected (basins_of N) (under x)) (reached (under 3) b a)
      (λ e. came-back one (strong-walks (basins_of N) (under x) e b a mb ma))
      (λ e. walks-strong (basins_of N) (under x) (λ u v mu mv. detour one two (reached-walk (under 3) b a e) (strong-walks (basins_of N) (under 2) str u v mu mv)))

  -- Hanging it as drawn loses nothing exactly if B leads to A without it; turned, exactly if A leads to B without it.
  pub orient-drawn : strongly_connected (basins_of N) (under 2) ≡ true → strongly_connected (basins_of N) (under 0) ≡ reached (under 3) end_b end_a
  orient-drawn str = one_way 0 end_a end_b drawn both in-a in_b str

  pub orient-turned : strongly_connected (basins_of N) (under 2) ≡ true → strongly_connected (basins_of N) (under 1) ≡ reached (under 3) end_a end_b
  orient-turned str = one_way 1 end_b end_a turned both' in_b in-a str

  module _ (out : ShutOut N.reaches ws) (small : (j : ℕ) → j < length N.reaches → in_service (reach_at N j).state ≡ true → get_or ws j 3 ≤ 2) (str : strongly_connected (basins_of N) (under 2) ≡ true)
      (ba : reached (under 3) end_b end_a ≡ false) (ab : reached (under 3) end_a end_b ≡ false) where
    -- without the reach, too, water passes between wet basins only
    ends : (c d : ℕ) → Memᴰ (arc c d) (under 3) → Memᴰ c (basins_of N) × Memᴰ d (basins_of N)
    ends = arcs-in-basins N ok (set ws i 3) (shut-left-out N.reaches ws i out)

    -- Where both ways lose something, the reach alone crosses the side that B leads to without it.
    pub stuck-alone : Alone N (reached (under 3) end_b) i
    stuck-alone = record { crossing = rw (serves, ba, reached-refl (under 3) end_b); others = λ j l n. uncrossed (reached (under 3) end_b) (reach_at N j) (others j l n) }
      where
        level : (c d : ℕ) → Memᴰ (arc c d) (under 3) → reached (under 3) end_b c ≡ reached (under 3) end_b d
        level = bridge (basins_of N) (under 3) (under 2) end_a end_b both (strong-walks (basins_of N) (under 2) str) ends in-a in_b ba ab

        others : (j : ℕ) → j < length N.reaches → j ≢ i → in_service (reach_at N j).state ≡ true → reached (under 3) end_b (reach_at N j).a ≡ reached (under 3) end_b (reach_at N j).b
        others j l n inj =
            let w : get_or (set ws i 3) j 3 ≤ 2 = rw (get_or-set_other ws i j 3 3 n) (small j l inj) in
            ⊎_elim
            (λ m. level _ _ (arcs-has N.reaches (set ws i 3) j _ l m))
            (λ m. sym (level _ _ (arcs-has N.reaches (set ws i 3) j _ l m)))
            (some-arc (get_or (set ws i 3) j 3) (reach_at N j).a (reach_at N j).b w)

    -- The other side is what A leads to.
    pub stuck-other : (v : ℕ) → Memᴰ v (basins_of N) → reached (under 3) end_a v ≡ not (reached (under 3) end_b v)
    stuck-other = other-side (basins_of N) (under 3) (under 2) end_a end_b both (strong-walks (basins_of N) (under 2) str) ends in-a in_b ba ab

    pub stuck-bridge : is_gated (reach_at N i).state ≡ true → is_bridge N i ≡ true
    stuck-bridge g = bridge-make N ok i below g (reached (under 3) end_b) stuck-alone
