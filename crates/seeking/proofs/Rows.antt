-- The three ends of the search for the first plan, said of the rows that the code has.
-- Assumes nothing.
use Prim.Native.Nat.{ℕ, ◌<◌}
use native.Mathlib.Omega.{arith}
use mathlib.Core.Path.{◌≡◌, sym, ap, subst, subst⁻¹, ◌∙◌}
use mathlib.Core.List.{List, []}
use Rattle.std.proofs.Common.{Option, None, Some}
use Rattle.network.specs.Networks.{Network}
use Rattle.network.specs.Orientations.{Arc, ways, arcs, reached}
use Rattle.half_edges.specs.Ends.{arcs_of}
use Rattle.tables.specs.Rows.{net_of}
use Rattle.orientations.specs.Partials.{Begun}
use Rattle.orientations.proofs.Parts.{open_none}
use Rattle.distances.specs.Distances.{noted}
use Rattle.basins.specs.Wet.{FarSideNoted}
use Rattle.orienting.specs.Ready.{ShutInBasin}
use Rattle.orienting.proofs.Rows.{row-arcs}
use Rattle.completing.specs.Greedy.{Completable, Greedy}
use Rattle.seeking.specs.declared.Found.TheVariants.{Closed, Bridge, Oriented}
use Rattle.seeking.specs.Levels.{NoneOriented, Passable}
use Rattle.seeking.specs.Found.{FirstFound}
use Rattle.seeking.proofs.Levels.{passable-open, under-row, kinds-full, kinds-tried}
use Rattle.seeking.proofs.Firsts.{closed-first, passed-basin, bridge-first, plan-first}

module _ (n : ℕ) (ks xs ys : List ℕ) where
  abbrev N : Network
  N = net_of n ks xs ys

  module _ {ws : List ℕ} (o : NoneOriented n ks xs ys ws) where
    open-arcs : arcs_of xs ys ws ≡ arcs N.reaches (ways N.reaches [])
    open-arcs =
        let v = o.level in
        sym (row-arcs n ks xs ys v.ends-a v.ends-b ws) ∙ ap (arcs N.reaches) (under-row v [] o.unoriented)

    basin-net : {r : Option ℕ} → ShutInBasin N (arcs_of xs ys ws) r → ShutInBasin N (arcs N.reaches (ways N.reaches [])) r
    basin-net {r} w = subst (λ (A : List Arc). ShutInBasin N A r) open-arcs w

    pub row-passable : {r : Option ℕ} → ShutInBasin N (arcs_of xs ys ws) r → r ≡ None → Passable n ks xs ys ws
    row-passable {r} w e = record { level = o.level; unoriented = o.unoriented; passable-net = passed-basin N o.level.accepted (basin-net (subst (ShutInBasin N (arcs_of xs ys ws)) e w)) }

    pub row-closed : {r : Option ℕ} {u : ℕ} {seen : List ℕ} (ws' : List ℕ) → ShutInBasin N (arcs_of xs ys ws) r → r ≡ Some u → ((v : ℕ) → v < n → noted seen v ≡ reached (arcs_of xs ys ws) u v) → FirstFound N ws' seen Closed
    row-closed {r} {u} {seen} ws' w e m =
        closed-first N o.level.accepted u ws' seen (basin-net (subst (ShutInBasin N (arcs_of xs ys ws)) e w))
        (subst (λ (A : List Arc). (v : ℕ) → v < n → noted seen v ≡ reached A u v) open-arcs m)

  module _ {ws : List ℕ} (p : Passable n ks xs ys ws) where
    opened : ws ≡ ways N.reaches []
    opened = under-row p.level [] p.unoriented

    pub open-completable : Completable n ks ks xs ys ws 0
    open-completable =
        record {
          kinds-full = sym p.level.ends-a;
          accepted = p.level.accepted;
          bound = omega arith;
          begun = subst⁻¹ (λ (v : List ℕ). Begun N ks v 0) opened (open_none N ks (kinds-full p.level) (kinds-tried p.level) (sym (passable-open N) ∙ p.passable-net));
        }

    greedy-net : {ws' seen : List ℕ} {r : Option ℕ} → Greedy N ws 0 ws' seen r → Greedy N (ways N.reaches []) 0 ws' seen r
    greedy-net {ws'} {seen} {r} g = subst (λ (v : List ℕ). Greedy N v 0 ws' seen r) opened g

    pub row-bridge : {ws' seen seen' : List ℕ} {r : ℕ} → Greedy N ws 0 ws' seen (Some r) → FarSideNoted N seen seen' → FirstFound N ws' seen' (Bridge r)
    row-bridge g noted = bridge-first N p.level.accepted p.passable-net (greedy-net g) noted

    pub row-plan : {ws' seen : List ℕ} → Greedy N ws 0 ws' seen None → FirstFound N ws' seen Oriented
    row-plan g = plan-first N p.level.accepted p.passable-net (greedy-net g)
