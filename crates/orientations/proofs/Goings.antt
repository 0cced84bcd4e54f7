-- Deciding one gate more: what stays true of the ways, and what is learnt where neither way is left.
-- Assumes nothing.
use Prim.Native.Nat.{ℕ, suc, ◌≤◌, ◌<◌}
use native.Mathlib.Omega.{arith}
use native.Mathlib.Decide.{ℕ_discrete, dec_lt}
use mathlib.Core.Path.{◌≡◌, sym, ap, subst, subst⁻¹, ◌∙◌}
use mathlib.Core.Bool.{Bool, true, false, not}
use mathlib.Core.Logic.{◌⊎◌, inl, inr, ⊎_elim}
use mathlib.Core.List.{List, []}
use lib.ListN.{length, get_or, set, length-set}
use lib.Seq.{get_or-set_same, get_or-set_other, set-get_or}
use mathlib.Mathlib.Data.Bool.Basic.{Bool-eq-false}
use Rattle.lists.specs.Lists.{keep}
use Rattle.network.specs.declared.Reach.{Reach}
use Rattle.network.specs.Networks.{Network, in_service, basins_of, Accepted}
use Rattle.network.specs.Settings.{is_gated}
use Rattle.network.specs.Orientations.{way, arcs, reached}
use Rattle.network.specs.Plans.{strongly_connected}
use Rattle.network.specs.Bridges.{no_reach, reach_at, crosses_alone, is_bridge}
use Rattle.lists.proofs.Bools.{decide, clash}
use Rattle.lists.proofs.Searches.{keep_same}
use Rattle.network.proofs.Ways.{plain-small, gated-in-service, shut-plain, shut-way, ShutOut}
use Rattle.network.proofs.Networks.{basin-below}
use Rattle.network.specs.Certificates.{Alone}
use Rattle.network.proofs.Bridges.{alone_rest, alone-same, cut_of, bridge-parts}
use Rattle.network.proofs.Steps.{orient-drawn, orient-turned, stuck-alone, stuck-other, stuck-bridge}
use Rattle.tables.specs.Bytes.{bytes_of}
use Rattle.orientations.specs.Least.{LeastPlan, Decided, is_tried, Open, Shaped}
use Rattle.orientations.specs.Partials.{Begun}
use Rattle.orientations.proofs.Least.{least-drawn, least-turned, least-end}

-- the gates below i are decided, from the ways ws₀ on, of which those from `from` on were not
pub record Going (N : Network) (fs ws₀ : List ℕ) (from : ℕ) (ws : List ℕ) (i : ℕ) : Type 0 where
  pub begun : Begun N fs ws i
  pub onward : (s : List ℕ) → LeastPlan N ws s → LeastPlan N ws₀ s
  pub clear : (j : ℕ) → from ≤ j → j < i → is_bridge N j ≡ false

pub starts : {N : Network} {fs ws : List ℕ} {i : ℕ} → Begun N fs ws i → Going N fs ws i ws i
starts b = record { begun = b; onward = λ s m. m; clear = λ j l k. absurd (omega arith) }

-- the shut reaches pass nothing
pub shaped_out : (t : List Reach) (ws : List ℕ) → Shaped t ws → ShutOut t ws
shaped_out t ws shaped j l e = shaped j l (shut-plain (get_or t j no_reach).state e) ∙ shut-way (get_or t j no_reach).state e

-- under a partial orientation the ways of all reaches in service are 0, 1 or 2
pub begun-small : (N : Network) (fs ws : List ℕ) (i : ℕ) → Begun N fs ws i → (j : ℕ) → j < length N.reaches → in_service (reach_at N j).state ≡ true → get_or ws j 3 ≤ 2
begun-small N fs ws i b j l s = ⊎_elim gated plain (decide (is_gated (reach_at N j).state))
  where
    plain : is_gated (reach_at N j).state ≡ false → get_or ws j 3 ≤ 2
    plain n = rw (b.shaped j l n) (plain-small (reach_at N j).state n s)

    gated : is_gated (reach_at N j).state ≡ true → get_or ws j 3 ≤ 2
    gated y = go (dec_lt j i) (decide (is_tried fs j))
      where
        go : Dec (j < i) → (is_tried fs j ≡ true) ⊎ (is_tried fs j ≡ false) → get_or ws j 3 ≤ 2
        go (yes k) d = omega (arith, b.decided j k y)
        go (no k) (inl d) = omega (arith, b.undecided j (omega arith) (omega (arith, b.tries.row-full)) d)
        go (no k) (inr d) = omega (arith, b.held j l y d)

module _ (N : Network) (ok : Accepted N) (fs ws : List ℕ) (i : ℕ) (below : i < length N.reaches) (b : Begun N fs ws i) where
  room : i < length ws
  room = omega (arith, b.full)

  -- ---- a reach that is not tried

  held-decided : is_tried fs i ≡ false → Decided N ws (suc i)
  held-decided n j l g = go (ℕ_discrete j i)
    where
      go : Dec (j ≡ i) → get_or ws j 3 ≤ 1
      go (yes e) = b.held j (omega arith) g (rw e n)
      go (no m) = b.decided j (omega arith) g

  begun-held : is_tried fs i ≡ false → Begun N fs ws (suc i)
  begun-held n = record { tries = b.tries; full = b.full; shaped = b.shaped; decided = held-decided n; held = b.held; undecided = λ j l. b.undecided j (omega arith); connected = b.connected }

  -- ---- a gate that is tried

  module _ (t : is_tried fs i ≡ true) where
    gate : is_gated (reach_at N i).state ≡ true
    gate = b.tries.only-gates i below t

    serves : in_service (reach_at N i).state ≡ true
    serves = gated-in-service (reach_at N i).state gate

    free : get_or ws i 3 ≡ 2
    free = b.undecided i (omega arith) (omega (arith, b.tries.row-full)) t

    -- it is usable either way so far
    pub begun-either : Begun N fs (set ws i 2) i
    begun-either = subst⁻¹ (λ (v : List ℕ). Begun N fs v i) (ap (λ (x : ℕ). set ws i x) (sym free) ∙ set-get_or ws i 3) b

    either : strongly_connected (basins_of N) (arcs N.reaches (set ws i 2)) ≡ true
    either = begun-either.connected

    pub begun-oriented : (x : ℕ) → x ≤ 1 → strongly_connected (basins_of N) (arcs N.reaches (set ws i x)) ≡ true → Begun N fs (set ws i x) (suc i)
    begun-oriented x small str = record { tries = b.tries; full = length-set ws i x ∙ b.full; shaped = shaped; decided = decided; held = held; undecided = undecided; connected = str }
      where
        shaped : Shaped N.reaches (set ws i x)
        shaped j l n = go (ℕ_discrete j i)
          where
            go : Dec (j ≡ i) → get_or (set ws i x) j 3 ≡ way (reach_at N j).state []
            go (yes e) = clash gate (subst (λ (k : ℕ). is_gated (reach_at N k).state ≡ false) e n)
            go (no m) = get_or-set_other ws i j x 3 m ∙ b.shaped j l n

        decided : Decided N (set ws i x) (suc i)
        decided j l h = go (ℕ_discrete j i)
          where
            go : Dec (j ≡ i) → get_or (set ws i x) j 3 ≤ 1
            go (yes e) = rw (e, get_or-set_same ws i x 3 room) small
            go (no m) = rw (get_or-set_other ws i j x 3 m) (b.decided j (omega arith) h)

        held : (j : ℕ) → j < length N.reaches → is_gated (reach_at N j).state ≡ true → is_tried fs j ≡ false → get_or (set ws i x) j 3 ≤ 1
        held j l h n = go (ℕ_discrete j i)
          where
            go : Dec (j ≡ i) → get_or (set ws i x) j 3 ≤ 1
            go (yes e) = clash t (subst (λ (k : ℕ). is_tried fs k ≡ false) e n)
            go (no m) = rw (get_or-set_other ws i j x 3 m) (b.held j l h n)

        undecided : Open fs (set ws i x) (suc i)
        undecided j l k h = get_or-set_other ws i j x 3 (omega arith) ∙ b.undecided j (omega arith) k h

    -- oriented without loss, it is no bridge
    not-bridge : (x : ℕ) → x ≤ 1 → strongly_connected (basins_of N) (arcs N.reaches (set ws i x)) ≡ true → is_bridge N i ≡ false
    not-bridge x small str = Bool-eq-false {b = is_bridge N i} (λ e. bridge-parts N i e (set ws i x) out (rw (get_or-set_same ws i x 3 room) small) str)
      where
        out : ShutOut N.reaches (set ws i x)
        out = shaped_out N.reaches (set ws i x) (begun-oriented x small str).shaped

    module _ (ba : reached (arcs N.reaches (set ws i 3)) (reach_at N i).b (reach_at N i).a ≡ false) (ab : reached (arcs N.reaches (set ws i 3)) (reach_at N i).a (reach_at N i).b ≡ false) where
      -- the reach alone crosses the side that A leads to
      alone-on : Alone N (reached (arcs N.reaches (set ws i 3)) (reach_at N i).a) i
      alone-on =
          alone-same N ok (λ v. not (reached (arcs N.reaches (set ws i 3)) (reach_at N i).b v)) (reached (arcs N.reaches (set ws i 3)) (reach_at N i).a) i below
          (stuck-other N ok ws i below b.full serves (shaped_out N.reaches ws b.shaped) (begun-small N fs ws i b) either ba ab)
          (alone_rest N (reached (arcs N.reaches (set ws i 3)) (reach_at N i).b) i (stuck-alone N ok ws i below b.full serves (shaped_out N.reaches ws b.shaped) (begun-small N fs ws i b) either ba ab))

      pub bridge-alone : (side : ℕ → Bool) → ((v : ℕ) → v < N.basins → side v ≡ reached (arcs N.reaches (set ws i 3)) (reach_at N i).a v) → crosses_alone N (keep side (basins_of N)) i ≡ true
      bridge-alone side told =
          subst⁻¹ (λ (S : List ℕ). crosses_alone N S i ≡ true)
          (keep_same side (reached (arcs N.reaches (set ws i 3)) (reach_at N i).a) (basins_of N) (λ v m. told v (basin-below N v m)))
          (cut_of N ok i below (reached (arcs N.reaches (set ws i 3)) (reach_at N i).a) alone-on).alone

      pub is-bridge : is_bridge N i ≡ true
      is-bridge = stuck-bridge N ok ws i below b.full serves (shaped_out N.reaches ws b.shaped) (begun-small N fs ws i b) either ba ab gate

-- ---- one step of the loop

module _ (N : Network) (ok : Accepted N) (fs ws₀ : List ℕ) (from : ℕ) (ws : List ℕ) (i : ℕ) (below : i < length N.reaches) (w : Going N fs ws₀ from ws i) where
  clear-more : is_bridge N i ≡ false → (j : ℕ) → from ≤ j → j < suc i → is_bridge N j ≡ false
  clear-more n j l k = go (ℕ_discrete j i)
    where
      go : Dec (j ≡ i) → is_bridge N j ≡ false
      go (yes e) = rw e n
      go (no m) = w.clear j l (omega arith)

  pub going-held : is_tried fs i ≡ false → is_bridge N i ≡ false → Going N fs ws₀ from ws (suc i)
  going-held n c = record { begun = begun-held N ok fs ws i below w.begun n; onward = w.onward; clear = clear-more c }

  module _ (t : is_tried fs i ≡ true) where
    as-drawn : strongly_connected (basins_of N) (arcs N.reaches (set ws i 0)) ≡ reached (arcs N.reaches (set ws i 3)) (reach_at N i).b (reach_at N i).a
    as-drawn = orient-drawn N ok ws i below w.begun.full (serves N ok fs ws i below w.begun t) (either N ok fs ws i below w.begun t)

    as-turned : strongly_connected (basins_of N) (arcs N.reaches (set ws i 1)) ≡ reached (arcs N.reaches (set ws i 3)) (reach_at N i).a (reach_at N i).b
    as-turned = orient-turned N ok ws i below w.begun.full (serves N ok fs ws i below w.begun t) (either N ok fs ws i below w.begun t)

    pub going-drawn : reached (arcs N.reaches (set ws i 3)) (reach_at N i).b (reach_at N i).a ≡ true → Going N fs ws₀ from (set ws i 0) (suc i)
    going-drawn e =
        let str = as-drawn ∙ e in
        record {
          begun = begun-oriented N ok fs ws i below w.begun t 0 (omega arith) str;
          onward = λ s m. w.onward s (least-drawn N ws i below w.begun.full (gate N ok fs ws i below w.begun t) (free N ok fs ws i below w.begun t) w.begun.decided s m);
          clear = clear-more (not-bridge N ok fs ws i below w.begun t 0 (omega arith) str);
        }

    pub going-turned : reached (arcs N.reaches (set ws i 3)) (reach_at N i).b (reach_at N i).a ≡ false → reached (arcs N.reaches (set ws i 3)) (reach_at N i).a (reach_at N i).b ≡ true → Going N fs ws₀ from (set ws i 1) (suc i)
    going-turned n e =
        let str = as-turned ∙ e in
        record {
          begun = begun-oriented N ok fs ws i below w.begun t 1 (omega arith) str;
          onward = λ s m. w.onward s (least-turned N ws i below w.begun.full (gate N ok fs ws i below w.begun t) (free N ok fs ws i below w.begun t) (as-drawn ∙ n) s m);
          clear = clear-more (not-bridge N ok fs ws i below w.begun t 1 (omega arith) str);
        }

-- all gates are decided
pub going_end : (N : Network) (fs ws₀ : List ℕ) (from : ℕ) (ws : List ℕ) → Going N fs ws₀ from ws (length N.reaches) → LeastPlan N ws₀ (bytes_of N.reaches ws)
going_end N fs ws₀ from ws w = w.onward (bytes_of N.reaches ws) (least-end N ws w.begun.full w.begun.shaped w.begun.decided w.begun.connected)
