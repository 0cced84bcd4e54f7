-- `scan` meets its contract. The loop's invariant is `Scanning`: all half-edges at the basin from some x on are done, and h is the last one below x.
-- The measure is h + 1, or 0 where h is `none`.
-- Assumes nothing.
use Prim.Native.Nat.{◌<◌}
use native.Mathlib.Omega.{arith}
use mathlib.Core.Path.{sym, ◌∙◌}
use lib.ListN.{length, get_or}
use Rattle.half_edges.specs.Ends.{halves, other_of}
use Rattle.search.specs.Searches.{stay}
use Rattle.half_edges.proofs.Halves.{end_below}
use Rattle.half_edges.proofs.Laws.{table-turned}
use Rattle.search.proofs.Sides.{length-sided}
use Rattle.search.proofs.Visits.{grew_none}
use Rattle.half_edges.proofs.Hands.{Current, current}
use Rattle.search.proofs.Scans.{turn-past, turn-through, renamed, scanned}
use Rattle.search.proofs.scan.Goals as goal
use Rattle.search.proofs.scan.Goals.{else-passes, then-passes}

pub loop-h-init : goal.loop-h-init
loop-h-init c =
    record {
      x = halves c.args.graph.now.a.now;
      within = omega arith;
      chain = c.args.graph.now.index.heads (get_or c.args.queue.now c.args.at 0) c.requires.basin;
      done = λ k l m. absurd (omega arith);
      grown = stay;
      grew = grew_none c.args.seen.now c.args.queue.now c.args.tail c.requires.room;
    }

pub loop-h-preserved : goal.loop-h-preserved
loop-h-preserved c =
    let here : Current c.args.graph.now.a.now c.args.graph.now.b.now c.loop-h.invariant.x (get_or c.args.queue.now c.args.at 0) c.loop-h.h = current c.loop-h-test.true c.loop-h.invariant.chain in
    let leads-in : other_of c.args.graph.now.a.now c.args.graph.now.b.now c.loop-h.h < length c.loop-h.seen = omega (arith, end_below c.args.graph.now.b.now c.args.graph.now.a.now c.args.graph.now.basins c.loop-h.h (table-turned c.args.graph.now.table) (omega (arith, (here).below))) in
    let before = c.args.graph.now.index.nexts c.loop-h.h (omega (arith, (here).below)) in
    elim c.if-passes.branch [
      | then-passes w ↦ renamed w.seen-is w.queue-is w.end-is
          (turn-through c.loop-h.invariant (here) before c.args.graph.now.table.paired (omega (arith, c.requires.ways-room, length-sided c.args.against c.args.ways.now)) (sym c.passes.ensures ∙ w.if-passes.true) w.far.ensures (leads-in) c.requires.counts w.visit-end.ensures)
      | else-passes w ↦ renamed w.seen-is w.queue-is w.end-is (turn-past c.loop-h.invariant (here) before (sym c.passes.ensures ∙ w.if-passes.false))
    ]

pub returns : goal.returns
returns c = scanned c.args.graph.now.table.few c.loop-h-test.false c.loop-h.invariant
