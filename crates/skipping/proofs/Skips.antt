-- A gate that cannot be hung the other way than that of a plan, all others usable either way, is bound, and need not be tried.
-- Assumes nothing.
use Prim.Native.Nat.{ℕ, ◌-◌, ◌<◌}
use native.Mathlib.Omega.{arith}
use native.Mathlib.Decide.{ℕ_discrete}
use mathlib.Core.Path.{◌≡◌, sym, ap, subst, subst⁻¹, ◌∙◌}
use mathlib.Core.Bool.{true, false}
use mathlib.Core.List.{List, []}
use lib.ListN.{length, get_or, set, length-set}
use lib.Seq.{get_or-set_same, get_or-set_other, set-get_or}
use Rattle.network.specs.Networks.{Network}
use Rattle.network.specs.Tables.{state_of}
use Rattle.network.specs.Settings.{is_gated}
use Rattle.network.specs.Orientations.{ways}
use Rattle.network.specs.Plans.{is_plan}
use Rattle.network.specs.Bridges.{reach_at}
use Rattle.lists.proofs.Bools.{clash}
use Rattle.network.proofs.Ways.{length-ways, gate-way}
use Rattle.network.proofs.Bridges.{plan-gate-small}
use Rattle.tables.specs.Rows.{net_of, ways_row}
use Rattle.tables.proofs.Laws.{row-length}
use Rattle.orientations.specs.Least.{is_tried}
use Rattle.orientations.specs.Partials.{StronglyConnected, Binds}
use Rattle.orientations.proofs.Least.{fits-unoriented, fits-set, fits-strong}
use Rattle.orienting.specs.Tries.{left_out, led_round}
use Rattle.orienting.proofs.Rows.{row-way}
use Rattle.seeking.specs.Seeks.{AtPlan}
use Rattle.seeking.proofs.Levels.{under-row, level-length}
use Rattle.skipping.specs.Skips.{NotedAt, as_it_was, still-tried, tried-no-more}

module _ {n : ℕ} {ks xs ys s ws : List ℕ} (p : AtPlan n ks xs ys s ws) where
  abbrev N : Network
  N = net_of n ks xs ys

  -- no gate is oriented
  abbrev open-ways : List ℕ
  open-ways = ways N.reaches []

  module _ (i : ℕ) (l : i < length N.reaches) (g : is_gated (reach_at N i).state ≡ true) where
    -- the gate is usable either way
    pub open-set : set open-ways i 2 ≡ open-ways
    open-set = ap (λ (x : ℕ). set open-ways i x) (sym (gate-way N.reaches [] i l g).byte) ∙ set-get_or open-ways i 3

    either : StronglyConnected N (set open-ways i 2)
    either = subst⁻¹ (λ (v : List ℕ). StronglyConnected N v) open-set (fits-strong N s open-ways p.is-plan (fits-unoriented N s))

    in_row : i < length ks
    in_row = omega (arith, row-length ks xs ys p.level.ends-a p.level.ends-b)

    -- the gate is hung so in every plan
    bound-way : (way : ℕ) → way ≡ get_or ws i 3 → led_round (left_out xs ys open-ways i) xs ys i (1 - way) ≡ false → (q : List ℕ) → is_plan N q ≡ true → get_or (ways N.reaches q) i 3 ≡ get_or ws i 3
    bound-way way e lost q y = go (ℕ_discrete (get_or (ways N.reaches q) i 3) (1 - way))
      where
        at-plan : get_or ws i 3 ≡ get_or (ways N.reaches s) i 3
        at-plan = ap (λ (v : List ℕ). get_or v i 3) (under-row p.level s p.oriented)

        go : Dec (get_or (ways N.reaches q) i 3 ≡ 1 - way) → get_or (ways N.reaches q) i 3 ≡ get_or ws i 3
        go (yes other) =
            clash (fits-strong N q (set open-ways i (1 - way)) y (fits-set N q open-ways i (1 - way) (omega (arith, length-ways N.reaches [])) (fits-unoriented N q) other))
            (row-way n ks xs ys p.level.ends-a p.level.ends-b p.level.accepted open-ways i in_row g (length-ways N.reaches []) either (1 - way) (omega arith) ∙ lost)
        go (no differ) = omega (arith, plan-gate-small N q i y l g, plan-gate-small N s i p.is-plan l g, at-plan, e)

  -- so it need not be tried
  bound-set : {fs : List ℕ} (i : ℕ) → i < length N.reaches → Binds N fs ws → is_tried fs i ≡ true → ((q : List ℕ) → is_plan N q ≡ true → get_or (ways N.reaches q) i 3 ≡ get_or ws i 3) → Binds N (set fs i 1) ws
  bound-set {fs} i l h t alike = record { tries = record { row-full = length-set fs i 1 ∙ h.tries.row-full; only-gates = only-gates }; bound = bound }
    where
      other : (j : ℕ) → (j ≡ i → ⊥) → is_tried (set fs i 1) j ≡ is_tried fs j
      other j m = ap (λ (k : ℕ). is_gated (state_of k)) (get_or-set_other fs i j 1 0 m)

      here : is_tried (set fs i 1) i ≡ false
      here = ap (λ (k : ℕ). is_gated (state_of k)) (get_or-set_same fs i 1 0 (omega (arith, h.tries.row-full)))

      only-gates : (j : ℕ) → j < length N.reaches → is_tried (set fs i 1) j ≡ true → is_gated (reach_at N j).state ≡ true
      only-gates j jl y = go (ℕ_discrete j i)
        where
          go : Dec (j ≡ i) → is_gated (reach_at N j).state ≡ true
          go (yes e) = clash (subst (λ (k : ℕ). is_tried (set fs i 1) k ≡ true) e y) here
          go (no m) = h.tries.only-gates j jl (sym (other j m) ∙ y)

      bound : (j : ℕ) → j < length N.reaches → is_tried (set fs i 1) j ≡ false → (q : List ℕ) → is_plan N q ≡ true → get_or (ways N.reaches q) j 3 ≡ get_or ws j 3
      bound j jl y q e = go (ℕ_discrete j i)
        where
          go : Dec (j ≡ i) → get_or (ways N.reaches q) j 3 ≡ get_or ws j 3
          go (yes same) = rw same (alike q e)
          go (no m) = h.bound j jl (sym (other j m) ∙ y) q e

-- ---- one reach more

-- the ways os have no gate oriented, and what fs does not try is bound
pub record BoundNoted (n : ℕ) (ks xs ys ws fs os : List ℕ) : Type 0 where
  pub open_kept : os ≡ ways_row ks []
  pub binds : Binds (net_of n ks xs ys) fs ws

pub noted-on :
    {n : ℕ} {ks xs ys s ws fs os fs' os' : List ℕ} (i way : ℕ) → AtPlan n ks xs ys s ws → i < length xs → way ≡ get_or ws i 3 → BoundNoted n ks xs ys ws fs os → NotedAt xs ys fs os i way fs' os'
    → BoundNoted n ks xs ys ws fs' os'
noted-on {n} {ks} {xs} {ys} {s} {ws} {fs} {os} {fs'} {os'} i way p l e h d = go d
  where
    below : i < length (net_of n ks xs ys).reaches
    below = omega (arith, level-length p.level)

    open_is : os ≡ ways (net_of n ks xs ys).reaches []
    open_is = under-row p.level [] h.open_kept

    gate : is_tried fs i ≡ true → is_gated (reach_at (net_of n ks xs ys) i).state ≡ true
    gate t = h.binds.tries.only-gates i below t

    freed : is_tried fs i ≡ true → set os i 2 ≡ ways_row ks []
    freed t = ap (λ (v : List ℕ). set v i 2) open_is ∙ open-set p i below (gate t) ∙ sym open_is ∙ h.open_kept

    go : NotedAt xs ys fs os i way fs' os' → BoundNoted n ks xs ys ws fs' os'
    go (as_it_was f o) = rw (f, o) h
    go (still-tried t f o) = record { open_kept = o ∙ freed t; binds = subst⁻¹ (λ (v : List ℕ). Binds (net_of n ks xs ys) v ws) f h.binds }
    go (tried-no-more t small lost f o) =
        record {
          open_kept = o ∙ freed t;
          binds =
              subst⁻¹ (λ (v : List ℕ). Binds (net_of n ks xs ys) v ws) f
              (bound-set p i below h.binds t (bound-way p i below (gate t) way e (subst (λ (v : List ℕ). led_round (left_out xs ys v i) xs ys i (1 - way) ≡ false) open_is lost)));
        }
