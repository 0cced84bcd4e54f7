-- What a row of guides says of a gate is what a search would say.
-- Assumes nothing.
use Prim.Native.Nat.{ℕ, zero, suc, ◌/◌, ◌%◌, ◌≤◌, ◌<◌}
use native.Mathlib.Omega.{arith}
use native.Mathlib.Decide.{dec_lt}
use mathlib.Core.Path.{◌≡◌, refl, sym, ap, subst, subst⁻¹, ◌∙◌}
use mathlib.Core.Bool.{Bool, true, false, cond, not, beq}
use mathlib.Core.List.{List}
use lib.ListN.{length, get_or, set, get_or-eq_default}
use lib.Seq.{get_or-set_other, set-set}
use Rattle.std.specs.Prelude.{Some}
use Rattle.lists.proofs.Lists.{get_d_any}
use Rattle.network.specs.Orientations.{arcs, reached}
use Rattle.network.specs.Networks.{Network, basins_of}
use Rattle.network.specs.Plans.{strongly_connected}
use Rattle.network.specs.Bridges.{reach_at}
use Rattle.tables.specs.Rows.{net_of}
use Rattle.orientations.specs.Least.{is_tried}
use Rattle.orientations.specs.Partials.{Begun}
use Rattle.orientations.proofs.Goings.{shaped_out, begun-small}
use Rattle.orienting.specs.Tries.{left_out, led_round, Tried, oriented, undecided}
use Rattle.orienting.proofs.Rows.{row-led, row-led-turned}
use Rattle.series.specs.Pairs.{CutPair, guided_way, toward}
use Rattle.series.specs.Guides.{unguided, way_by, GuidedBy}
use Rattle.series.proofs.Pairs.{guided-drawn, guided-turned}
use Rattle.series_way.specs.Guided.{WayTaken, taken, Guidable}

-- the row says what the ends say
way-guided : (h w : ℕ) (x y : Bool) → w ≤ 1 → h % 2 ≡ cond (beq x y) 1 0 → way_by h w ≡ guided_way x y w
way-guided h w true true l e = omega (arith, e)
way-guided h w true false l e = omega (arith, e)
way-guided h w false true l e = omega (arith, e)
way-guided h w false false l e = omega (arith, e)

module _ (n : ℕ) (ks xs ys : List ℕ) (ea : length xs ≡ length ks) (eb : length ys ≡ length ks) (fs guide ws : List ℕ) (i : ℕ) (l : i < length ks) (p : Guidable n guide ks fs xs ys ws i)
    (t : is_tried fs i ≡ true) where
  abbrev N : Network
  N = net_of n ks xs ys

  b : Begun N fs (set ws i 2) i
  b = p.begun t

  either : strongly_connected (basins_of N) (arcs N.reaches (set (set ws i 2) i 2)) ≡ true
  either = subst⁻¹ (λ (v : List ℕ). strongly_connected (basins_of N) (arcs N.reaches v) ≡ true) (set-set ws i 2 2) b.connected

  -- what the searches would say, where the guide is reach k and hung
  module _ (il : i < length guide) (few : get_or guide i 0 < unguided) (k x : ℕ) (at : x ≡ get_or ws k 2) (is : k ≡ get_or guide i 0 / 2) (hung : x ≤ 1) where
    by : GuidedBy N (get_or guide i 0) i
    by = p.guides i il few

    pair : CutPair N by.side k by.end-i i by.end-j
    pair = subst⁻¹ (λ (j : ℕ). CutPair N by.side j by.end-i i by.end-j) is by.pair

    -- the way that the guide leaves
    abbrev w : ℕ
    w = way_by (get_or guide i 0) x

    same : get_or (set ws i 2) k 3 ≡ x
    same = get_or-set_other ws i k 2 3 pair.apart ∙ get_d_any ws k 3 2 (inside (dec_lt k (length ws))) ∙ sym at
      where
        -- a reach that is hung has its way in the row
        inside : Dec (k < length ws) → k < length ws
        inside (yes y) = y
        inside (no n) = absurd (omega (arith, at, hung, get_or-eq_default ws 2 {n = k} (omega arith)))

    says : guided_way by.end-i by.end-j (get_or (set ws i 2) k 3) ≡ w
    says = ap (guided_way by.end-i by.end-j) same ∙ sym (way-guided (get_or guide i 0) x by.end-i by.end-j hung by.parity)

    drawn : led_round (left_out xs ys ws i) xs ys i 0 ≡ toward w
    drawn =
        sym (row-led n ks xs ys ea eb ws i l)
        ∙ subst (λ (v : List ℕ). reached (arcs N.reaches v) (reach_at N i).b (reach_at N i).a ≡ toward w) (set-set ws i 2 3)
        (guided-drawn N p.accepted (set ws i 2) b.full (shaped_out N.reaches (set ws i 2) b.shaped) (begun-small N fs (set ws i 2) i b) by.side k by.end-i i by.end-j pair (rw same hung) either
        ∙ ap toward says)

    turned : led_round (left_out xs ys ws i) xs ys i 1 ≡ not (toward w)
    turned =
        sym (row-led-turned n ks xs ys ea eb ws i l)
        ∙ subst (λ (v : List ℕ). reached (arcs N.reaches v) (reach_at N i).a (reach_at N i).b ≡ not (toward w)) (set-set ws i 2 3)
        (guided-turned N p.accepted (set ws i 2) b.full (shaped_out N.reaches (set ws i 2) b.shaped) (begun-small N fs (set ws i 2) i b) by.side k by.end-i i by.end-j pair (rw same hung) either
        ∙ ap (λ v. not (toward v)) says)

  -- a way that is the one taken is open
  pub taken-on : (w way : ℕ) → way ≤ 1 → WayTaken guide ws i (Some w) → w ≡ way → Tried xs ys ws i way (set ws i way) true
  taken-on w zero small (taken il f at is hung e) q = oriented (drawn il f _ _ at is hung ∙ ap toward (sym e ∙ q)) refl refl
  taken-on w (suc zero) small (taken il f at is hung e) q = oriented (turned il f _ _ at is hung ∙ ap (λ x. not (toward x)) (sym e ∙ q)) refl refl
  taken-on w (suc (suc way)) small (taken il f at is hung e) q = absurd (omega arith)

  -- and the other is not
  pub taken-off : (w way : ℕ) → way ≤ 1 → WayTaken guide ws i (Some w) → (w ≡ way → ⊥) → Tried xs ys ws i way (set ws i 2) false
  taken-off zero zero small (taken il f at is hung e) q = absurd (q refl)
  taken-off (suc w) zero small (taken il f at is hung e) q = undecided (drawn il f _ _ at is hung ∙ ap toward (sym e)) refl refl
  taken-off zero (suc zero) small (taken il f at is hung e) q = undecided (turned il f _ _ at is hung ∙ ap (λ x. not (toward x)) (sym e)) refl refl
  taken-off (suc zero) (suc zero) small (taken il f at is hung e) q = absurd (q refl)
  taken-off (suc (suc w)) (suc zero) small (taken il f at is hung e) q = absurd (omega (arith, e, hung))
  taken-off w (suc (suc way)) small (taken il f at is hung e) q = absurd (omega arith)
