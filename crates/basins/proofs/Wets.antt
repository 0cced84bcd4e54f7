-- Whether a basin is wet, by the half-edges that stand there.
-- Assumes nothing.
use Prim.Native.Nat.{ℕ, zero, suc, ◌+◌, ◌*◌, ◌/◌, ◌%◌, ◌≤◌, ◌<◌}
use native.Mathlib.Omega.{arith}
use native.Mathlib.Decide.{dec_lt}
use mathlib.Core.Path.{◌≡◌, refl, sym, ap, ◌∙◌}
use mathlib.Core.Logic.{◌⊎◌, inl, inr}
use mathlib.Core.Bool.{Bool, true, false}
use mathlib.Mathlib.Data.Bool.Basic.{Bool-eq-false}
use mathlib.Core.List.{List}
use lib.ListN.{length, get_or}
use Rattle.lists.proofs.Bools.{clash}
use Rattle.network.specs.declared.Reach.{Reach}
use Rattle.network.specs.Networks.{in_service, is_wet}
use Rattle.network.specs.Tables.{state_of}
use Rattle.network.specs.Bridges.{reach_at}
use Rattle.network.proofs.Networks.{WetBy, wet-make, wet-by}
use Rattle.tables.specs.Rows.{net_of}
use Rattle.tables.proofs.Laws.{row-length, table_at}
use Rattle.half_edges.specs.Ends.{halves, end_of}
use Rattle.half_edges.specs.Chains.{no_half, Last, nothing, last}
use Rattle.half_edges.proofs.Halves.{end-even, end-odd}
use Rattle.half_edges.proofs.Hands.{Current, current, from-hand}
use Rattle.basins.specs.Wet.{Tabled}

-- the reach of half-edge k is in service
abbrev pub serving : List ℕ → ℕ → Bool
serving ks k = in_service (state_of (get_or ks (k / 2) 0))

-- All half-edges at v from x on are of shut reaches, and h is the last one below x.
pub record Unserved (ks xs ys : List ℕ) (v h : ℕ) : Type 0 where
  pub x : ℕ
  pub within : x ≤ halves xs
  pub chain : Last xs ys x v h
  pub done : (k : ℕ) → x ≤ k → k < halves xs → end_of xs ys k ≡ v → serving ks k ≡ false

module _ {n : ℕ} {ks xs ys head next : List ℕ} (t : Tabled n ks xs ys head next) where
  rows-full : length (net_of n ks xs ys).reaches ≡ length xs
  rows-full = row-length ks xs ys (sym t.kinds-full) (t.table.paired ∙ sym t.kinds-full) ∙ t.kinds-full

  -- reach i has its state and its ends from the rows
  at_row : (i : ℕ) → i < length xs → (l : i < length (net_of n ks xs ys).reaches) → reach_at (net_of n ks xs ys) i ≡ record { state = state_of (get_or ks i 0); a = get_or xs i 0; b = get_or ys i 0 }
  at_row i h l = table_at i ks xs ys l

  -- a half-edge of a reach in service makes its basin wet
  half-wet : (v k : ℕ) → k < halves xs → end_of xs ys k ≡ v → serving ks k ≡ true → is_wet (net_of n ks xs ys) v ≡ true
  half-wet v k l s p =
      wet-make (net_of n ks xs ys) v
      (record { reach = k / 2; below = below; serves = ap (λ (r : Reach). in_service r.state) is ∙ p; ends = ends (k % 2) refl })
    where
      below : k / 2 < length (net_of n ks xs ys).reaches
      below = omega (arith, rows-full)

      is : reach_at (net_of n ks xs ys) (k / 2) ≡ record { state = state_of (get_or ks (k / 2) 0); a = get_or xs (k / 2) 0; b = get_or ys (k / 2) 0 }
      is = at_row (k / 2) (omega arith) below

      ends : (side : ℕ) → k % 2 ≡ side → ((reach_at (net_of n ks xs ys) (k / 2)).a ≡ v) ⊎ ((reach_at (net_of n ks xs ys) (k / 2)).b ≡ v)
      ends zero e = inl (ap (λ (r : Reach). r.a) is ∙ rw e at s)
      ends (suc side) e = inr (ap (λ (r : Reach). r.b) is ∙ rw e at s)

  -- and a wet basin has one
  record Served (v : ℕ) : Type 0 where
    half : ℕ
    within : half < halves xs
    stands : end_of xs ys half ≡ v
    serves : serving ks half ≡ true

  wet-half : (v : ℕ) → is_wet (net_of n ks xs ys) v ≡ true → Served v
  wet-half v e = go w.ends
    where
      w : WetBy (net_of n ks xs ys) v
      w = wet-by (net_of n ks xs ys) v e

      below : w.reach < length xs
      below = omega (arith, w.below, rows-full)

      is : reach_at (net_of n ks xs ys) w.reach ≡ record { state = state_of (get_or ks w.reach 0); a = get_or xs w.reach 0; b = get_or ys w.reach 0 }
      is = at_row w.reach below w.below

      serves : (k : ℕ) → k / 2 ≡ w.reach → serving ks k ≡ true
      serves k d = rw d (sym (ap (λ (r : Reach). in_service r.state) is) ∙ w.serves)

      go : ((reach_at (net_of n ks xs ys) w.reach).a ≡ v) ⊎ ((reach_at (net_of n ks xs ys) w.reach).b ≡ v) → Served v
      go (inl a) = record { half = 2 * w.reach; within = omega (arith, below); stands = end-even xs ys w.reach ∙ sym (ap (λ (r : Reach). r.a) is) ∙ a; serves = serves (2 * w.reach) (omega arith) }
      go (inr b) = record { half = 2 * w.reach + 1; within = omega (arith, below); stands = end-odd xs ys w.reach ∙ sym (ap (λ (r : Reach). r.b) is) ∙ b; serves = serves (2 * w.reach + 1) (omega arith) }

  -- ---- one half-edge after the other

  pub unserved-start : (v : ℕ) → v < n → Unserved ks xs ys v (get_or head v 0)
  unserved-start v l = record { x = halves xs; within = omega arith; chain = t.index.heads v l; done = λ k a b s. absurd (omega arith) }

  module _ {v h : ℕ} (u : Unserved ks xs ys v h) where
    pub in-hand : (h ≡ no_half → ⊥) → Current xs ys u.x v h
    in-hand some = current some u.chain

    -- its reach is in service
    pub unserved-wet : (h ≡ no_half → ⊥) → serving ks h ≡ true → true ≡ is_wet (net_of n ks xs ys) v
    unserved-wet some p = let k = in-hand some in sym (half-wet v h (omega (arith, k.below, u.within)) k.stands p)

    -- or shut
    pub unserved-more : (h ≡ no_half → ⊥) → serving ks h ≡ false → Unserved ks xs ys v (get_or next h 0)
    unserved-more some p =
        record {
          x = h;
          within = omega (arith, k.below, u.within);
          chain = rw k.stands at (t.index.nexts h (omega (arith, k.below, u.within)));
          done = λ j a b s. from-hand k (λ i. i < halves xs → serving ks i ≡ false) (λ _. p) (λ i d e b. u.done i d b e) j a s b;
        }
      where
        k : Current xs ys u.x v h
        k = in-hand some

    -- none is left
    pub unserved-dry : h ≡ no_half → false ≡ is_wet (net_of n ks xs ys) v
    unserved-dry e = sym (Bool-eq-false {b = is_wet (net_of n ks xs ys) v} wet)
      where
        go : (s : Served v) → Last xs ys u.x v h → Dec (s.half < u.x) → ⊥
        go s l (no d) = clash s.serves (u.done s.half (omega arith) s.within s.stands)
        go s (nothing _ f) (yes d) = f s.half d s.stands
        go s (last c _ f) (yes d) = omega (arith, u.within, t.table.few)

        wet : is_wet (net_of n ks xs ys) v ≡ true → ⊥
        wet y = let s = wet-half v y in go s u.chain (dec_lt s.half u.x)
