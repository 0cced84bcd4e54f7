-- The longest of the fewest counts of rows is that of the network that they say; and what is promised of a refused table.
-- Assumes nothing.
use Rattle.network.specs.declared.Refusal.{Refusal}
use Rattle.std.specs.Prelude.{Result}
use Prim.Native.Nat.{ℕ}
use mathlib.Core.Path.{◌≡◌, sym, ap, ◌∙◌}
use mathlib.Core.List.{List}
use Rattle.network.specs.Networks.{basins_of}
use Rattle.network.specs.Orientations.{Arc}
use Rattle.half_edges.specs.Ends.{arcs_of}
use Rattle.tables.specs.Rows.{net_of, ways_row}
use Rattle.distances.specs.Diameters.{greatest, farthest, diameter}
use Rattle.distances.specs.Answers.{DiameterCall}
use Rattle.distances.proofs.Answers.{diameter-called, diameter-faulty}
use Rattle.packing.proofs.Packings.{ByTable}
use Rattle.seeking.specs.Levels.{Level}
use Rattle.seeking.proofs.Levels.{level-arcs}

pub rows-diameter : {n r : ℕ} {ks xs ys ws : List ℕ} → Level n ks xs ys → (s : List ℕ) → ws ≡ ways_row ks s
    → r ≡ greatest (farthest (basins_of (net_of n ks xs ys)) (arcs_of xs ys ws)) (basins_of (net_of n ks xs ys)) → r ≡ diameter (net_of n ks xs ys) s
unfolding diameter
rows-diameter {n} {r} {ks} {xs} {ys} v s e q =
    q ∙ ap (λ (A : List Arc). greatest (farthest (basins_of (net_of n ks xs ys)) A) (basins_of (net_of n ks xs ys))) (ap (arcs_of xs ys) e ∙ sym (level-arcs v s))

-- what is promised where the table is refused depends on the refusal only
pub diameter-alike : {r : Result ℕ Refusal} (s : List ℕ) → ByTable (λ N. DiameterCall N s r)
diameter-alike s N N' x e e' h = diameter-called N' s (h.answer ∙ sym (diameter-faulty N s x e).answer ∙ (diameter-faulty N' s x e').answer)
