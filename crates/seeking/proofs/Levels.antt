-- What follows from an accepted table whose rows are of one length.
-- Assumes nothing.
use Prim.Native.Nat.{ℕ, ◌<◌}
use native.Mathlib.Omega.{arith}
use mathlib.Core.Path.{◌≡◌, sym, ap, subst, subst⁻¹, ◌∙◌}
use mathlib.Core.Bool.{true}
use mathlib.Core.List.{List, []}
use lib.ListN.{length, take}
use Rattle.network.specs.Networks.{Network, basins_of, Accepted}
use Rattle.network.specs.Tables.{table_of}
use Rattle.network.specs.Settings.{is_gated, gate_count, is_setting}
use Rattle.network.specs.Orientations.{ways, arcs, arcs_under}
use Rattle.network.specs.Plans.{strongly_connected, strongly_connected_under, passable}
use Rattle.network.specs.Bridges.{reach_at}
use Rattle.network.proofs.Networks.{accepted}
use Rattle.half_edges.specs.Ends.{arcs_of}
use Rattle.half_edges.specs.Chains.{Table}
use Rattle.tables.specs.Rows.{net_of, ways_row}
use Rattle.tables.proofs.Cuts.{cut-ends-a, cut-ends-b, cut-net}
use Rattle.tables.proofs.Laws.{row-length, row-a, row-b, row-state, row-ways, ways-unoriented}
use Rattle.orientations.specs.Least.{is_tried}
use Rattle.orientations.specs.Partials.{Under, Binds}
use Rattle.orientations.proofs.Parts.{all-bind}
use Rattle.orienting.proofs.Rows.{row-arcs, row_below}
use Rattle.seeking.specs.Levels.{Level}

-- passable is said of the ways with no gate decided
pub passable-open : (N : Network) → passable N ≡ strongly_connected (basins_of N) (arcs N.reaches (ways N.reaches []))
unfolding passable strongly_connected_under
passable-open N = ap (λ (v : List ℕ). strongly_connected (basins_of N) (arcs N.reaches v)) (ways-unoriented N.reaches (gate_count N))

-- rows cut to the length of the table
pub cut_level : (n : ℕ) (ks xs ys : List ℕ) (m : ℕ) (e : m ≡ length (table_of ks xs ys)) → Accepted (net_of n ks xs ys) → Level n (take m ks) (take m xs) (take m ys)
cut_level n ks xs ys m e ok = record { accepted = subst⁻¹ (λ (N : Network). Accepted N) (cut-net ks xs ys m e n) ok; ends-a = cut-ends-a ks xs ys m e; ends-b = cut-ends-b ks xs ys m e }

module _ {n : ℕ} {ks xs ys : List ℕ} (v : Level n ks xs ys) where
  pub level-length : length (net_of n ks xs ys).reaches ≡ length xs
  level-length = row-length ks xs ys v.ends-a v.ends-b ∙ sym v.ends-a

  -- its half-edges can be indexed
  pub level-table : Table n xs ys
  level-table =
      let facts = accepted (net_of n ks xs ys) v.accepted in
      record {
        paired = v.ends-b ∙ sym v.ends-a;
        few = omega (arith, facts.few-reaches, level-length);
        ends-a = λ i l.
            let k : i < length ks = omega (arith, v.ends-a) in
            subst (λ (x : ℕ). x < n) (row-a ks xs ys v.ends-a v.ends-b i k) (facts.end-a i (row_below n ks xs ys v.ends-a v.ends-b i k));
        ends-b = λ i l.
            let k : i < length ks = omega (arith, v.ends-a) in
            subst (λ (x : ℕ). x < n) (row-b ks xs ys v.ends-a v.ends-b i k) (facts.end-b i (row_below n ks xs ys v.ends-a v.ends-b i k));
      }

  -- what the rows pass is what the network passes
  pub level-arcs : (h : List ℕ) → arcs_under (net_of n ks xs ys) h ≡ arcs_of xs ys (ways_row ks h)
  level-arcs h = row-arcs n ks xs ys v.ends-a v.ends-b (ways (table_of ks xs ys) h) ∙ ap (arcs_of xs ys) (row-ways ks xs ys v.ends-a v.ends-b h)

  pub level-under : (h : List ℕ) → strongly_connected_under (net_of n ks xs ys) h ≡ strongly_connected (basins_of (net_of n ks xs ys)) (arcs_of xs ys (ways_row ks h))
  unfolding strongly_connected_under
  level-under h = ap (strongly_connected (basins_of (net_of n ks xs ys))) (level-arcs h)

  -- the ways of a row are those of the network
  pub under-row : {us : List ℕ} (s : List ℕ) → us ≡ ways_row ks s → us ≡ ways (table_of ks xs ys) s
  under-row s e = e ∙ sym (row-ways ks xs ys v.ends-a v.ends-b s)

  pub row_under : {us : List ℕ} (s : List ℕ) → is_setting (net_of n ks xs ys) s ≡ true → us ≡ ways_row ks s → Under (net_of n ks xs ys) us
  row_under s fit e = record { setting = s; fits = fit; is = under-row s e }

  -- the row of kinds tries all gates
  pub kinds-full : length ks ≡ length (net_of n ks xs ys).reaches
  kinds-full = sym (row-length ks xs ys v.ends-a v.ends-b)

  pub kinds-tried : (j : ℕ) → j < length (net_of n ks xs ys).reaches → is_tried ks j ≡ is_gated (reach_at (net_of n ks xs ys) j).state
  kinds-tried j l = sym (ap is_gated (row-state ks xs ys v.ends-a v.ends-b j (omega (arith, kinds-full))))

  pub kinds-bind : {us : List ℕ} → Under (net_of n ks xs ys) us → Binds (net_of n ks xs ys) ks us
  kinds-bind {us} u = all-bind (net_of n ks xs ys) ks u.setting us u.is kinds-full kinds-tried
