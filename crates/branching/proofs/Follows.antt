-- Following a setting gate by gate, and looking back along it, over a network lent as rows.
-- Assumes nothing.
use Prim.Native.Nat.{ℕ, suc, ◌≤◌, ◌<◌}
use native.Mathlib.Omega.{arith}
use native.Mathlib.Decide.{ℕ_discrete}
use mathlib.Core.Path.{◌≡◌, sym, ap, subst, subst⁻¹, ◌∙◌}
use mathlib.Core.Bool.{Bool, true, false}
use mathlib.Core.List.{List}
use lib.ListN.{length, get_or, set}
use Rattle.std.specs.Prelude.{None, Some}
use Rattle.lists.proofs.Lists.{get_d_any}
use Rattle.network.specs.Networks.{Network, basins_of, Accepted}
use Rattle.network.specs.Orientations.{arcs}
use Rattle.network.specs.Plans.{strongly_connected}
use Rattle.lists.proofs.Bools.{clash}
use Rattle.network.proofs.Ways.{length-ways}
use Rattle.tables.specs.Rows.{net_of}
use Rattle.tables.proofs.Laws.{row-length}
use Rattle.orientations.specs.Least.{is_tried}
use Rattle.orientations.specs.Partials.{StronglyConnected, NotStronglyConnected, Tries, Begun, Under, up_to, StronglyConnectedBelow, NoPart}
use Rattle.orientations.proofs.Parts.{up-length, up-all, up_more, up-plain, up-again, up-either, byte-under, open_up}
use Rattle.orienting.specs.Tries.{left_out, led_round, Tried}
use Rattle.orienting.proofs.Readies.{tried_same, tried-led, tried-lost}
use Rattle.orienting.proofs.Rows.{row_below, row-way}
use Rattle.series.specs.Guides.{Guides}
use Rattle.parting.specs.Parts.{OrientedAs, no-gate, as-under, PartedAt, passed, freed, tried, PartedAtFrom}
use Rattle.branching.specs.Follows.{Following, Followed, through, stopped, TurnedBack, turned-at, nowhere}

-- the gates below i are oriented as us has them, the others usable either way, and everything reaches everything
pub record Along (N : Network) (fs us ws : List ℕ) (i : ℕ) : Type 0 where
  pub is : ws ≡ up_to fs us i
  pub connected : StronglyConnected N (up_to fs us i)

-- the same looking back, after no plan was found to part at a reach from i on below `to`
pub record Back (N : Network) (fs us : List ℕ) (to : ℕ) (ws : List ℕ) (i : ℕ) : Type 0 where
  pub is : ws ≡ up_to fs us i
  pub none : (j : ℕ) → i ≤ j → j < to → NoPart N fs us j

pub along-start : {N : Network} {fs us ws : List ℕ} → ws ≡ up_to fs us 0 → StronglyConnected N ws → Along N fs us ws 0
along-start {N} e str = record { is = e; connected = subst (λ (v : List ℕ). StronglyConnected N v) e str }

pub back_start : {N : Network} {fs us ws : List ℕ} {to : ℕ} → ws ≡ up_to fs us to → Back N fs us to ws to
back_start e = record { is = e; none = λ j l k. absurd (omega arith) }

module _ (n : ℕ) (ks xs ys : List ℕ) (ea : length xs ≡ length ks) (eb : length ys ≡ length ks) (us : List ℕ) (u : Under (net_of n ks xs ys) us) where
  abbrev N : Network
  N = net_of n ks xs ys

  pub under-length : length us ≡ length ks
  under-length = ap length u.is ∙ length-ways N.reaches u.setting ∙ row-length ks xs ys ea eb

  module _ (fs : List ℕ) (tries : Tries N fs) where
    -- all gates are oriented so
    pub follow-done : (ws : List ℕ) (i : ℕ) → i ≡ length ks → Along N fs us ws i → Followed N fs us ws None
    follow-done ws i e w =
        let same : i ≡ length N.reaches = e ∙ sym (row-length ks xs ys ea eb) in
        let all : up_to fs us i ≡ us = ap (λ (j : ℕ). up_to fs us j) same ∙ up-all N u.setting us u.is fs tries in
        through (w.is ∙ all) (subst (λ (v : List ℕ). StronglyConnected N v) all w.connected)

    -- no gate is left to look at
    pub back_done : (to : ℕ) (ws : List ℕ) (i : ℕ) → i ≡ 0 → Back N fs us to ws i → TurnedBack N fs us to ws None
    back_done to ws i e w = nowhere (λ j l. w.none j (omega arith) l)

    module _ (ok : Accepted N) (i : ℕ) (l : i < length ks) where
      below : i < length N.reaches
      below = row_below n ks xs ys ea eb i l

      -- the byte of a gate, whatever stands past the end
      byte : get_or us i 0 ≡ get_or us i 3
      byte = get_d_any us i 0 3 (omega (arith, under-length))

      byte_small : is_tried fs i ≡ true → get_or us i 0 ≤ 1
      byte_small g = omega (arith, byte, byte-under N u.setting us u.is fs tries u.fits i below (tries.only-gates i below g))

      module _ (str : StronglyConnected N (up_to fs us i)) (g : is_tried fs i ≡ true) where
        either : StronglyConnected N (set (up_to fs us i) i 2)
        either = subst⁻¹ (λ (v : List ℕ). StronglyConnected N v) (up-either N u.setting us u.is fs tries i below g) str

        full : length (up_to fs us i) ≡ length N.reaches
        full = up-length N u.setting us u.is fs tries i (omega (arith, below))

        -- what a search decides, for each way
        way-law : (x : ℕ) → x ≤ 1 → strongly_connected (basins_of N) (arcs N.reaches (set (up_to fs us i) i x)) ≡ led_round (left_out xs ys (up_to fs us i) i) xs ys i x
        way-law = row-way n ks xs ys ea eb ok (up_to fs us i) i l (tries.only-gates i below g) full either

        module _ (x : ℕ) (small : x ≤ 1) {ws' : List ℕ} {r : Bool} (t : Tried xs ys (up_to fs us i) i x ws' r) where
          tried-on : r ≡ true → (ws' ≡ set (up_to fs us i) i x) × StronglyConnected N (set (up_to fs us i) i x)
          tried-on y = let d = tried-led xs ys (up_to fs us i) i t y in (d.1, way-law x small ∙ d.0)

          tried-off : r ≡ false → (ws' ≡ up_to fs us i) × NotStronglyConnected N (set (up_to fs us i) i x)
          tried-off y = let d = tried-lost xs ys (up_to fs us i) i t y in (d.1 ∙ up-either N u.setting us u.is fs tries i below g, way-law x small ∙ d.0)

      -- ---- following

      module _ (ws : List ℕ) (w : Along N fs us ws i) where
        same : (y : ℕ) → set ws i y ≡ set (up_to fs us i) i y
        same y = ap (λ (v : List ℕ). set v i y) w.is

        more : set (up_to fs us i) i (get_or us i 0) ≡ up_to fs us (suc i)
        more = up_more N u.setting us u.is fs tries i (get_or us i 0) below (sym byte)

        -- one reach more
        pub follow-on : {ws' : List ℕ} {r : Bool} → OrientedAs fs xs ys us ws i ws' r → r ≡ true → Along N fs us ws' (suc i)
        follow-on (no-gate p e q) y =
            let plain = up-plain N u.setting us u.is fs tries i below p in
            record { is = e ∙ w.is ∙ sym plain; connected = subst⁻¹ (λ (v : List ℕ). StronglyConnected N v) plain w.connected }
        follow-on (as-under p t) y =
            let d = tried-on w.connected p (get_or us i 0) (byte_small p) (tried_same xs ys ws (up_to fs us i) i same t) y in
            record { is = d.0 ∙ more; connected = subst (λ (v : List ℕ). StronglyConnected N v) more d.1 }

        -- or the gate that loses something
        pub follow-off : {ws' : List ℕ} {r : Bool} → OrientedAs fs xs ys us ws i ws' r → r ≡ false → Followed N fs us ws' (Some i)
        follow-off (no-gate p e q) y = clash q y
        follow-off (as-under p t) y =
            let d = tried-off w.connected p (get_or us i 0) (byte_small p) (tried_same xs ys ws (up_to fs us i) i same t) y in
            stopped below d.0 (subst⁻¹ (λ (v : List ℕ). StronglyConnected N v) d.0 w.connected) (subst (λ (v : List ℕ). NotStronglyConnected N v) more d.1)

      -- ---- looking back

      module _ (ws : List ℕ) (to m : ℕ) (e : m ≡ suc i) (k : i < to) (all : StronglyConnectedBelow N fs us to) (w : Back N fs us to ws m) where
        again : (y : ℕ) → set ws i y ≡ set (up_to fs us i) i y
        again y = ap (λ (v : List ℕ). set v i y) (w.is ∙ ap (λ (j : ℕ). up_to fs us j) e) ∙ up-again N u.setting us u.is fs tries i y below

        more-none : NoPart N fs us i → (j : ℕ) → i ≤ j → j < to → NoPart N fs us j
        more-none f j p q = go (ℕ_discrete j i)
          where
            go : Dec (j ≡ i) → NoPart N fs us j
            go (yes d) = subst⁻¹ (λ (v : ℕ). NoPart N fs us v) d f
            go (no d) = w.none j (omega arith) q

        -- with reach i usable either way the ways are a partial orientation up to it
        back-begun : is_tried fs i ≡ true → Begun N fs (set ws i 2) i
        back-begun t =
            subst⁻¹ (λ (v : List ℕ). Begun N fs v i) (again 2 ∙ up-either N u.setting us u.is fs tries i below t)
            (open_up N u.setting us u.is fs tries u.fits i (omega (arith, below)) (all i k))

        -- one reach less
        back_on : {ws' : List ℕ} {r : Bool} → PartedAt fs xs ys us ws i ws' r → r ≡ false → Back N fs us to ws' i
        back_on (passed p q z) y =
            record { is = q ∙ w.is ∙ ap (λ (j : ℕ). up_to fs us j) e ∙ up-plain N u.setting us u.is fs tries i below p; none = more-none (λ h d. clash h p) }
        back_on (freed p z q d) y =
            record { is = q ∙ again 2 ∙ up-either N u.setting us u.is fs tries i below p; none = more-none (λ h x. absurd (z (byte ∙ x))) }
        back_on (tried p z t) y =
            let o = tried-off (all i k) p 1 (omega arith) (tried_same xs ys ws (up_to fs us i) i again t) y in
            record { is = o.0; none = more-none (λ h x. o.1) }

        -- or the gate that was turned
        back_found : {ws' : List ℕ} {r : Bool} → PartedAt fs xs ys us ws i ws' r → r ≡ true → TurnedBack N fs us to ws' (Some i)
        back_found (passed p q z) y = clash y z
        back_found (freed p z q d) y = clash y d
        back_found (tried p z t) y =
            let o = tried-on (all i k) p 1 (omega arith) (tried_same xs ys ws (up_to fs us i) i again t) y in
            turned-at k p (sym byte ∙ z) o.0 (subst⁻¹ (λ (v : List ℕ). StronglyConnected N v) o.0 o.1) (λ j p q. w.none j (omega arith) q)

-- ---- a turn of the loop that looks back

module _
    {n : ℕ} {ks fs xs ys us ws₀ : List ℕ} {to : ℕ} (p : Following n ks fs xs ys us ws₀ to) (eb : length ys ≡ length xs)
    (all : StronglyConnectedBelow (net_of n ks xs ys) fs us to) (guide : List ℕ) (d : Guides (net_of n ks xs ys) guide) {ws : List ℕ} {m : ℕ} (i : ℕ) (e : m ≡ suc i)
    (k : i < to)
    (w : Back (net_of n ks xs ys) fs us to ws m)
  where
    l : i < length ks
    l = omega (arith, k, p.bound, p.kinds-full)

    -- what is promised of every guided table holds of this one
    parted : {ws' : List ℕ} {r : Bool} → PartedAtFrom n guide fs xs ys us ws i ws' r → PartedAt fs xs ys us ws i ws' r
    parted f =
        f.from ks
        (record {
          kinds-full = p.kinds-full;
          accepted = p.accepted;
          guides = d;
          begun = back-begun n ks xs ys (sym p.kinds-full) (eb ∙ sym p.kinds-full) us p.under fs p.tries p.accepted i l ws to m e k all w;
        })

    pub turn_on : {ws' : List ℕ} {r : Bool} → PartedAtFrom n guide fs xs ys us ws i ws' r → r ≡ false → Back (net_of n ks xs ys) fs us to ws' i
    turn_on f = back_on n ks xs ys (sym p.kinds-full) (eb ∙ sym p.kinds-full) us p.under fs p.tries p.accepted i l ws to m e k all w (parted f)

    pub turn-found : {ws' : List ℕ} {r : Bool} → PartedAtFrom n guide fs xs ys us ws i ws' r → r ≡ true → TurnedBack (net_of n ks xs ys) fs us to ws' (Some i)
    turn-found f = back_found n ks xs ys (sym p.kinds-full) (eb ∙ sym p.kinds-full) us p.under fs p.tries p.accepted i l ws to m e k all w (parted f)
