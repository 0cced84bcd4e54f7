-- A network lent as rows: what the searches over its ends say of the network.
-- Assumes nothing.
use Prim.Native.Nat.{ℕ, zero, suc, ◌≤◌, ◌<◌}
use native.Mathlib.Omega.{arith}
use mathlib.Core.Path.{◌≡◌, ap, ap₂, ◌∙◌}
use mathlib.Core.Bool.{Bool, true}
use mathlib.Core.List.{List}
use lib.ListN.{length, get_or, set}
use Rattle.network.specs.Networks.{basins_of, Accepted}
use Rattle.network.specs.Tables.{state_of, table_of}
use Rattle.network.specs.Settings.{is_gated}
use Rattle.network.specs.Orientations.{arcs, reached}
use Rattle.network.specs.Plans.{strongly_connected}
use Rattle.network.specs.Bridges.{reach_at}
use Rattle.network.proofs.Ways.{gated-in-service}
use Rattle.network.proofs.Steps.{orient-drawn, orient-turned}
use Rattle.half_edges.specs.Ends.{arcs_of}
use Rattle.half_edges.proofs.Laws.{arcs-ends}
use Rattle.tables.specs.Rows.{net_of}
use Rattle.tables.proofs.Laws.{row-length, row-state, row-a, row-b, row-ends-a, row-ends-b}
use Rattle.orienting.specs.Tries.{left_out, led_round}

module _ (n : ℕ) (ks xs ys : List ℕ) (ea : length xs ≡ length ks) (eb : length ys ≡ length ks) where
  pub row-arcs : (ws : List ℕ) → arcs (table_of ks xs ys) ws ≡ arcs_of xs ys ws
  row-arcs ws = arcs-ends (table_of ks xs ys) ws ∙ ap₂ (λ (u v : List ℕ). arcs_of u v ws) (row-ends-a ks xs ys ea eb) (row-ends-b ks xs ys ea eb)

  pub row_below : (i : ℕ) → i < length ks → i < length (table_of ks xs ys)
  row_below i l = omega (arith, row-length ks xs ys ea eb)

  -- whether a gate can get a way, said of the network
  pub row-led : (ws : List ℕ) (i : ℕ) → i < length ks → reached (arcs (table_of ks xs ys) (set ws i 3)) (reach_at (net_of n ks xs ys) i).b (reach_at (net_of n ks xs ys) i).a ≡ led_round (left_out xs ys ws i) xs ys i 0
  row-led ws i l = rw (row-arcs (set ws i 3), row-a ks xs ys ea eb i l, row-b ks xs ys ea eb i l)

  pub row-led-turned : (ws : List ℕ) (i : ℕ) → i < length ks → reached (arcs (table_of ks xs ys) (set ws i 3)) (reach_at (net_of n ks xs ys) i).a (reach_at (net_of n ks xs ys) i).b ≡ led_round (left_out xs ys ws i) xs ys i 1
  row-led-turned ws i l = rw (row-arcs (set ws i 3), row-a ks xs ys ea eb i l, row-b ks xs ys ea eb i l)

  pub row-gated : (i : ℕ) (b : Bool) → i < length ks → is_gated (state_of (get_or ks i 0)) ≡ b → is_gated (reach_at (net_of n ks xs ys) i).state ≡ b
  row-gated i b l e = ap is_gated (row-state ks xs ys ea eb i l) ∙ e

  -- of a gate that is usable either way, everything reaches everything with either of its ways exactly if a search leads round it
  pub row-way :
      Accepted (net_of n ks xs ys) → (ws : List ℕ) (i : ℕ) → i < length ks → is_gated (reach_at (net_of n ks xs ys) i).state ≡ true → length ws ≡ length (table_of ks xs ys) → strongly_connected (basins_of (net_of n ks xs ys)) (arcs (table_of ks xs ys) (set ws i 2)) ≡ true
      → (x : ℕ) → x ≤ 1 → strongly_connected (basins_of (net_of n ks xs ys)) (arcs (table_of ks xs ys) (set ws i x)) ≡ led_round (left_out xs ys ws i) xs ys i x
  row-way ok ws i l g full either zero small = orient-drawn (net_of n ks xs ys) ok ws i (row_below i l) full (gated-in-service (reach_at (net_of n ks xs ys) i).state g) either ∙ row-led ws i l
  row-way ok ws i l g full either (suc zero) small = orient-turned (net_of n ks xs ys) ok ws i (row_below i l) full (gated-in-service (reach_at (net_of n ks xs ys) i).state g) either ∙ row-led-turned ws i l
  row-way ok ws i l g full either (suc (suc x)) small = absurd (omega arith)
