-- `scan` meets its contract. The loop's invariant is `Spreading`: all half-edges at the basin from some x on are done, h is the last one below x, and what the other search
-- sees and has queued is as it was. The measure is h + 1, or 0 where h is `none`.
-- Assumes nothing.
use Prim.Native.Nat.{ℕ, ◌≤◌, ◌<◌}
use native.Mathlib.Omega.{arith}
use mathlib.Core.Path.{◌≡◌, refl, sym, subst, ◌∙◌}
use lib.ListN.{length, get_or}
use Rattle.half_edges.specs.Ends.{halves, end_of, sided, other_of}
use Rattle.half_edges.specs.Chains.{Last}
use Rattle.half_edges.proofs.Halves.{end_below}
use Rattle.half_edges.proofs.Laws.{table-turned}
use Rattle.half_edges.proofs.Hands.{Current, current}
use Rattle.search.specs.Searches.{stay}
use Rattle.search.proofs.Sides.{length-sided}
use Rattle.search.proofs.Visits.{grew_none}
use Rattle.leading.specs.Leads.{own_seen, place_of, lane}
use Rattle.leading.proofs.Lanes.{lane-read}
use Rattle.leading.proofs.Spreads.{spread-past, spread-met, spread-through, spread-on}
use Rattle.leading.proofs.scan.Goals as goal

pub bounds-graph-queue : goal.bounds-graph-queue
bounds-graph-queue c =
    let Placed : ℕ → Type 0 = λ p. p ≡ place_of c.args.up c.args.graph.now.basins c.args.k in
    let low : c.args.k < c.args.graph.now.basins = omega (arith, c.requires.waiting, c.requires.room) in
    let basin-at : (p : ℕ) → Placed p → get_or c.args.queue.now p 0 ≡ get_or (lane c.args.up c.args.queue.now) c.args.k 0 = λ p. λ e. lane-read c.args.up c.args.queue.now c.args.graph.now.basins c.args.k p c.requires.queue-length (low) e in
    omega (arith, basin-at _ c.place.ensures.value, c.requires.basin, c.args.graph.now.index)

pub loop-h-init : goal.loop-h-init
loop-h-init c =
    let Placed : ℕ → Type 0 = λ p. p ≡ place_of c.args.up c.args.graph.now.basins c.args.k in
    let low : c.args.k < c.args.graph.now.basins = omega (arith, c.requires.waiting, c.requires.room) in
    let basin-at : (p : ℕ) → Placed p → get_or c.args.queue.now p 0 ≡ get_or (lane c.args.up c.args.queue.now) c.args.k 0 = λ p. λ e. lane-read c.args.up c.args.queue.now c.args.graph.now.basins c.args.k p c.requires.queue-length (low) e in
    record {
      scanning = record {
        x = halves c.args.graph.now.a.now;
        within = omega arith;
        chain = subst (λ (v : ℕ). Last c.args.graph.now.a.now c.args.graph.now.b.now (halves c.args.graph.now.a.now) (get_or (lane c.args.up c.args.queue.now) c.args.k 0) (get_or c.args.graph.now.head.now v 0)) (sym (basin-at _ c.place.ensures.value)) (c.args.graph.now.index.heads (get_or (lane c.args.up c.args.queue.now) c.args.k 0) c.requires.basin);
        done = λ k l m. absurd (omega arith);
        grown = stay;
        grew = grew_none (own_seen c.args.c c.args.seen.now) (lane c.args.up c.args.queue.now) c.args.tail c.requires.lane_room;
      };
      others = refl;
      lanes = λ j l. refl;
      counted = refl;
      sides = c.requires.sides;
      seen-length = c.requires.seen-length;
      queue-length = c.requires.queue-length;
    }

pub loop-h-preserved-then-not-passes : goal.loop-h-preserved-then-not-passes
loop-h-preserved-then-not-passes c =
    let here : Current c.args.graph.now.a.now c.args.graph.now.b.now c.loop-h.invariant.scanning.x (get_or (lane c.args.up c.args.queue.now) c.args.k 0) c.loop-h.h = current c.loop-h-test.true c.loop-h.invariant.scanning.chain in
    let onward : Last c.args.graph.now.a.now c.args.graph.now.b.now c.loop-h.h (end_of c.args.graph.now.a.now c.args.graph.now.b.now c.loop-h.h) (get_or c.args.graph.now.next.now c.loop-h.h 0) = c.args.graph.now.index.nexts c.loop-h.h (omega (arith, (here).below, c.loop-h.invariant.scanning.within)) in
    spread-past c.loop-h.invariant (here) (onward) (sym c.passes.ensures ∙ c.if-not-passes.true)

pub returns-then-seen-w : goal.returns-then-seen-w
returns-then-seen-w c =
    let here : Current c.args.graph.now.a.now c.args.graph.now.b.now c.loop-h.invariant.scanning.x (get_or (lane c.args.up c.args.queue.now) c.args.k 0) c.loop-h.h = current c.loop-h-test.true c.loop-h.invariant.scanning.chain in
    let leads-in : (w : ℕ) → w ≡ other_of c.args.graph.now.a.now c.args.graph.now.b.now c.loop-h.h → w < c.args.graph.now.basins = λ w. λ e. omega (arith, e, end_below c.args.graph.now.b.now c.args.graph.now.a.now c.args.graph.now.basins c.loop-h.h (table-turned c.args.graph.now.table) (omega (arith, (here).below, c.loop-h.invariant.scanning.within, c.args.graph.now.table.paired))) in
    let wide : length c.args.graph.now.a.now ≤ length (sided c.args.up c.args.ways.now) = omega (arith, c.requires.ways-room, length-sided c.args.up c.args.ways.now) in
    spread-met c.loop-h.invariant (here) c.args.graph.now.table.paired (wide) (sym c.passes.ensures ∙ c.if-not-passes.false) c.far-w.ensures (leads-in _ c.far-w.ensures) c.requires.seen-length (omega (arith, c.if-seen-w.true)) refl

pub loop-h-preserved : goal.loop-h-preserved
loop-h-preserved c =
    let here : Current c.args.graph.now.a.now c.args.graph.now.b.now c.loop-h.invariant.scanning.x (get_or (lane c.args.up c.args.queue.now) c.args.k 0) c.loop-h.h = current c.loop-h-test.true c.loop-h.invariant.scanning.chain in
    let onward : Last c.args.graph.now.a.now c.args.graph.now.b.now c.loop-h.h (end_of c.args.graph.now.a.now c.args.graph.now.b.now c.loop-h.h) (get_or c.args.graph.now.next.now c.loop-h.h 0) = c.args.graph.now.index.nexts c.loop-h.h (omega (arith, (here).below, c.loop-h.invariant.scanning.within)) in
    let leads-in : (w : ℕ) → w ≡ other_of c.args.graph.now.a.now c.args.graph.now.b.now c.loop-h.h → w < c.args.graph.now.basins = λ w. λ e. omega (arith, e, end_below c.args.graph.now.b.now c.args.graph.now.a.now c.args.graph.now.basins c.loop-h.h (table-turned c.args.graph.now.table) (omega (arith, (here).below, c.loop-h.invariant.scanning.within, c.args.graph.now.table.paired))) in
    let wide : length c.args.graph.now.a.now ≤ length (sided c.args.up c.args.ways.now) = omega (arith, c.requires.ways-room, length-sided c.args.up c.args.ways.now) in
    let passes = sym c.passes.ensures ∙ c.if-not-passes.false in
    spread-through c.loop-h.invariant (leads-in _ c.far-w.ensures) c.requires.low c.requires.other c.requires.room (λ e. omega (arith, c.if-seen-w.false, e)) (here) (onward) c.args.graph.now.table.paired (wide) passes c.far-w.ensures c.visit-end.ensures

pub returns : goal.returns
returns c = spread-on c.args.graph.now.table.few c.loop-h-test.false c.loop-h.invariant
