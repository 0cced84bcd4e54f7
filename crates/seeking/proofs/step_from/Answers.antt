-- `seeking::step_from` meets its contract: the gates after the last one at which a plan can part are decided.
-- Assumes nothing.
use Rattle.seeking.proofs.Seeks.{bridgeless, part-following, step-completable, step-completed, step-none}
use Rattle.seeking.proofs.step_from.Goals as goal

pub returns-in_err-at : goal.returns-in_err-at
returns-in_err-at c =
    rw c.from_residual.ensures
    record {
      from = λ ks p guides.
          step-none (c.in_err-at.ensures.turned_back.from ks (part-following c.args.graph.now.basins ks c.args.graph.now.a.now c.args.graph.now.b.now p) p.connected-below guides);
    }

pub returns : goal.returns
returns c =
    record {
      from = λ ks p guides.
          let d = c.in_ok-at.ensures.turned_back.from ks (part-following c.args.graph.now.basins ks c.args.graph.now.a.now c.args.graph.now.b.now p) p.connected-below guides in
          step-completed c.args.graph.now.basins ks c.args.graph.now.a.now c.args.graph.now.b.now p d
          (c.complete.ensures.from ks (step-completable c.args.graph.now.basins ks c.args.graph.now.a.now c.args.graph.now.b.now p d) (bridgeless _ p.some-plan) guides);
    }
