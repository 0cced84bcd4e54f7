-- `stepping::advance` meets its contract: a step from the plan's end.
-- Assumes nothing.
use Prim.Native.Nat.{ℕ}
use mathlib.Core.Path.{sym, subst}
use mathlib.Core.List.{List}
use Rattle.tables.specs.Rows.{net_of}
use Rattle.orientations.specs.Partials.{Binds}
use Rattle.seeking.specs.Seeks.{AtPlan}
use Rattle.seeking.proofs.Seeks.{plan-partable}
use Rattle.stepping.proofs.Advances.{advanced}
use Rattle.stepping.proofs.advance.Goals as goal

pub returns : goal.returns
returns c =
    let copied : (ks p : List ℕ) → AtPlan c.args.graph.now.basins ks c.args.graph.now.a.now c.args.graph.now.b.now p c.args.ways.now → AtPlan c.args.graph.now.basins ks c.args.graph.now.a.now c.args.graph.now.b.now p c.copy_from_slice.new.self = λ ks. λ p. λ h. subst (λ u. AtPlan c.args.graph.now.basins ks c.args.graph.now.a.now c.args.graph.now.b.now p u) (sym c.copy_from_slice.ensures.after) h in
    record {
      from = λ ks p h f guides.
          let h' = copied ks p h in
          let f' = subst (λ u. Binds (net_of c.args.graph.now.basins ks c.args.graph.now.a.now c.args.graph.now.b.now) c.args.tried.now u) (sym c.copy_from_slice.ensures.after) f in
          advanced c.args.graph.now.basins ks c.args.graph.now.a.now c.args.graph.now.b.now h.level h' h.oriented f'
          (c.step_from.ensures.from ks (plan-partable c.args.graph.now.basins ks c.args.graph.now.a.now c.args.graph.now.b.now h' h.oriented f') guides);
    }
