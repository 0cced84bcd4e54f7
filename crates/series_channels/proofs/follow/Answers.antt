-- `series_channels::follow` meets its contract.
-- Assumes nothing.
use Rattle.basins.proofs.Graphs.{tabled}
use Prim.Native.Nat.{◌/◌, ◌<◌}
use native.Mathlib.Omega.{arith}
use lib.ListN.{length}
use Rattle.series_channels.proofs.Ways.{follow-more}
use Rattle.series_channels.proofs.Partners.{partner-below}
use Rattle.series_channels.proofs.follow.Goals as goal

pub bounds-kinds-o : goal.bounds-kinds-o
bounds-kinds-o c =
    let found_below : c.partner-o.result / 2 < length c.args.kinds.now = omega (arith, partner-below _ _ _ _ _ c.partner-o.ensures c.if-o-ge-NO_HALF.false, c.requires.kinds_len) in
    found_below

pub note-requires-clause-o_bound : goal.note-requires-clause-o_bound
note-requires-clause-o_bound c =
    let found_below : c.partner-o.result / 2 < length c.args.kinds.now = omega (arith, partner-below _ _ _ _ _ c.partner-o.ensures c.if-o-ge-NO_HALF.false, c.requires.kinds_len) in omega (arith, found_below)

pub loop-preserved : goal.loop-preserved
loop-preserved c =
    let g = follow-more (tabled c.args.graph.now c.requires.kinds_len) c.args.start c.loop.h _ _ c.args.guide.now c.loop.guide _ c.loop.invariant.0 c.loop.invariant.1 c.loop.invariant.2 c.partner-o.ensures c.if-o-ge-NO_HALF.false
    c.if-o-start.false c.other_half-h.ensures c.note.ensures c.loop.invariant.3 in
    (g.0, g.1, g.2, g.3)
