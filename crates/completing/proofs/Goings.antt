-- The gates of a network lent as rows, decided one after the other.
-- Assumes nothing.
use Prim.Native.Nat.{ℕ, suc, ◌<◌}
use native.Mathlib.Omega.{arith}
use mathlib.Core.Path.{◌≡◌, refl, sym, ap₂, subst, subst⁻¹, ◌∙◌}
use mathlib.Core.Bool.{Bool, true, false}
use mathlib.Core.Logic.{⊎_elim}
use mathlib.Core.List.{List, []}
use lib.ListN.{length, set}
use Rattle.std.specs.Prelude.{None, Some}
use Rattle.network.specs.Networks.{Network, Accepted}
use Rattle.network.specs.Tables.{table_of}
use Rattle.network.specs.Orientations.{Arc, reached}
use Rattle.network.specs.Bridges.{is_bridge}
use Rattle.distances.specs.Distances.{noted}
use mathlib.Mathlib.Data.Bool.Basic.{Bool-eq-false}
use Rattle.lists.proofs.Bools.{decide, clash}
use Rattle.network.proofs.Bridges.{bridge-gated}
use Rattle.tables.specs.Rows.{net_of}
use Rattle.tables.proofs.Laws.{row-length, row-a}
use Rattle.orientations.specs.Least.{is_tried}
use Rattle.orientations.specs.Partials.{Bridgeless}
use Rattle.orientations.proofs.Least.{bytes-ways}
use Rattle.orientations.proofs.Goings.{Going, begun-either, going-held, going-drawn, going-turned, going_end, bridge-alone, is-bridge}
use Rattle.orienting.specs.Tries.{left_out, led_round}
use Rattle.orienting.proofs.Rows.{row-arcs, row_below, row-led, row-led-turned, row-gated}
use Rattle.series.specs.Guides.{Guides}
use Rattle.series_way.specs.Guided.{Guidable}
use Rattle.deciding.specs.Gates.{OrientedGate, no-gate, drawn, turned, neither, Settled, as_it_was, as-drawn, as-turned, SettledFrom}
use Rattle.completing.specs.Greedy.{Completable, Greedy, all-oriented, bridge-at, Completed}

module _ (n : ℕ) (ks xs ys : List ℕ) (ea : length xs ≡ length ks) (eb : length ys ≡ length ks) where
  abbrev N : Network
  N = net_of n ks xs ys

  module _ (ok : Accepted N) (fs ws₀ : List ℕ) (from : ℕ) (ws : List ℕ) (i : ℕ) (l : i < length ks) (w : Going N fs ws₀ from ws i) where
    below : i < length N.reaches
    below = row_below n ks xs ys ea eb i l

    -- one reach more, which is no bridge if it is not tried
    pub going_on : {ws' seen : List ℕ} {r : Bool} → (is_tried fs i ≡ false → is_bridge N i ≡ false) → OrientedGate n fs xs ys ws i ws' seen r → r ≡ true → Going N fs ws₀ from ws' (suc i)
    going_on c (no-gate g e q) y = subst⁻¹ (λ (v : List ℕ). Going N fs ws₀ from v (suc i)) e (going-held N ok fs ws₀ from ws i below w g (c g))
    going_on c (drawn g p e q) y =
        subst⁻¹ (λ (v : List ℕ). Going N fs ws₀ from v (suc i)) e (going-drawn N ok fs ws₀ from ws i below w g (row-led n ks xs ys ea eb ws i l ∙ p))
    going_on c (turned g p p' e q) y =
        subst⁻¹ (λ (v : List ℕ). Going N fs ws₀ from v (suc i)) e
        (going-turned N ok fs ws₀ from ws i below w g (row-led n ks xs ys ea eb ws i l ∙ p) (row-led-turned n ks xs ys ea eb ws i l ∙ p'))
    going_on c (neither g p p' q f) y = clash y q

    -- the same of a gate that is settled, since it is no bridge
    pub going_settled : {ws' : List ℕ} → is_bridge N i ≡ false → Settled fs xs ys ws i ws' → Going N fs ws₀ from ws' (suc i)
    going_settled c (as_it_was g e) = going_on {seen = []} (λ n. c) (no-gate g e refl) refl
    going_settled c (as-drawn g p e) = going_on {seen = []} (λ n. c) (drawn g p e refl) refl
    going_settled c (as-turned g p e) = ⊎_elim (λ y. going_on {seen = []} (λ n. c) (turned g p y e refl) refl) (λ y. clash (bridge y) c) (decide (led_round (left_out xs ys ws i) xs ys i 1))
      where
        bridge : led_round (left_out xs ys ws i) xs ys i 1 ≡ false → is_bridge N i ≡ true
        bridge y = is-bridge N ok fs ws i below w.begun g (row-led n ks xs ys ea eb ws i l ∙ p) (row-led-turned n ks xs ys ea eb ws i l ∙ y)

    -- or the gate that can get neither way
    pub going-bridge : {ws' seen : List ℕ} {r : Bool} (ws'' : List ℕ) → OrientedGate n fs xs ys ws i ws' seen r → r ≡ false → Greedy N ws₀ from ws'' seen (Some i)
    going-bridge ws'' (no-gate g e q) y = clash q y
    going-bridge ws'' (drawn g p e q) y = clash q y
    going-bridge ws'' (turned g p p' e q) y = clash q y
    going-bridge {seen} ws'' (neither g p p' q f) y =
        let ba = row-led n ks xs ys ea eb ws i l ∙ p in
        let ab = row-led-turned n ks xs ys ea eb ws i l ∙ p' in
        bridge-at below (is-bridge N ok fs ws i below w.begun g ba ab) w.clear
        (bridge-alone N ok fs ws i below w.begun g ba ab (noted seen)
        (λ v k. f v k ∙ sym (ap₂ (λ (A : List Arc) (u : ℕ). reached A u v) (row-arcs n ks xs ys ea eb (set ws i 3)) (row-a ks xs ys ea eb i l))))

  -- a reach that is no gate is no bridge
  pub plain-clear : (i : ℕ) → i < length ks → is_tried ks i ≡ false → is_bridge N i ≡ false
  plain-clear i l p = Bool-eq-false {b = is_bridge N i} (λ e. clash (bridge-gated N i e) (row-gated n ks xs ys ea eb i false l p))

  pub going_done : (fs ws₀ : List ℕ) (from : ℕ) (ws seen : List ℕ) (i : ℕ) → i ≡ length ks → Going N fs ws₀ from ws i → Greedy N ws₀ from ws seen None
  going_done fs ws₀ from ws seen i e w =
      let same : i ≡ length (table_of ks xs ys) = e ∙ sym (row-length ks xs ys ea eb) in
      all-oriented (going_end N fs ws₀ from ws (subst (λ (j : ℕ). Going N fs ws₀ from ws j) same w))

  pub going-complete : (fs ws₀ : List ℕ) (from : ℕ) (ws : List ℕ) (i : ℕ) → i ≡ length ks → Going N fs ws₀ from ws i → Completed N ws₀ ws
  going-complete fs ws₀ from ws i e w =
      let end : Going N fs ws₀ from ws (length N.reaches) = subst (λ (j : ℕ). Going N fs ws₀ from ws j) (e ∙ sym (row-length ks xs ys ea eb)) w in
      record { least = going_end N fs ws₀ from ws end; oriented = sym (bytes-ways N.reaches ws end.begun.full end.begun.shaped) }

-- one reach more of a table of which the row of guides is true
pub settled_on : {n : ℕ} {ks fs xs ys ws₀ : List ℕ} {from : ℕ} → Completable n ks fs xs ys ws₀ from → length ys ≡ length xs → Bridgeless (net_of n ks xs ys)
    → (guide : List ℕ) → Guides (net_of n ks xs ys) guide → {ws ws' : List ℕ} {i : ℕ} → i < length xs → Going (net_of n ks xs ys) fs ws₀ from ws i → SettledFrom n guide fs xs ys ws i ws'
    → Going (net_of n ks xs ys) fs ws₀ from ws' (suc i)
settled_on {n} {ks} {fs} {xs} {ys} {ws₀} {from} p eb clear guide d {ws} {ws'} {i} l w f = going_settled n ks xs ys ea eb' p.accepted fs ws₀ from ws i l' w (clear i) (f.from ks guidable)
  where
    ea : length xs ≡ length ks
    ea = sym p.kinds-full

    eb' : length ys ≡ length ks
    eb' = eb ∙ ea

    l' : i < length ks
    l' = omega (arith, l, p.kinds-full)

    guidable : Guidable n guide ks fs xs ys ws i
    guidable =
        record { kinds-full = p.kinds-full; accepted = p.accepted; guides = d; begun = begun-either (net_of n ks xs ys) p.accepted fs ws i (row_below n ks xs ys ea eb' i l') w.begun }
