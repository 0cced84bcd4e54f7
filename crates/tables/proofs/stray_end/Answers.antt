-- `stray_end` meets its contract. The loop's invariant: every reach has good ends exactly if every reach from i on has.
-- Assumes nothing.
use Prim.Native.Nat.{◌<◌}
use native.Mathlib.Omega.{arith}
use lib.ListN.{length}
use Rattle.network.specs.Tables.{table_of}
use Rattle.tables.specs.Rows.{net_of}
use Rattle.network.specs.Bridges.{no_reach}
use Rattle.network.proofs.Networks.{ends_below}
use Rattle.tables.proofs.Faults.{ends-good, ends-bad, stray-here}
use Rattle.tables.proofs.Laws.{table-short}
use Rattle.lists.proofs.Searches.{passed-more, passed-not}
use Rattle.tables.proofs.stray_end.Goals as goal
use Rattle.tables.proofs.stray_end.Goals.{then-a-i-via-else-a-i+then-b-i, then-a-i-via-then-a-i}

pub offset_bounds-a-i : goal.offset_bounds-a-i
offset_bounds-a-i c =
    let in_rows : (c.loop-i.i < length c.args.a.now) × (c.loop-i.i < length c.args.b.now) = let t = table-short c.args.kinds.now c.args.a.now c.args.b.now in
    (omega arith, omega arith) in
    omega (arith, in_rows)

pub bounds-a-i : goal.bounds-a-i
bounds-a-i c =
    let in_rows : (c.loop-i.i < length c.args.a.now) × (c.loop-i.i < length c.args.b.now) = let t = table-short c.args.kinds.now c.args.a.now c.args.b.now in
    (omega arith, omega arith) in
    omega (arith, in_rows)

pub offset_bounds-b-i : goal.offset_bounds-b-i
offset_bounds-b-i c =
    let in_rows : (c.loop-i.i < length c.args.a.now) × (c.loop-i.i < length c.args.b.now) = let t = table-short c.args.kinds.now c.args.a.now c.args.b.now in
    (omega arith, omega arith) in
    omega (arith, in_rows)

pub bounds-b-i : goal.bounds-b-i
bounds-b-i c =
    let in_rows : (c.loop-i.i < length c.args.a.now) × (c.loop-i.i < length c.args.b.now) = let t = table-short c.args.kinds.now c.args.a.now c.args.b.now in
    (omega arith, omega arith) in
    omega (arith, in_rows)

pub returns-then-a-i : goal.returns-then-a-i
returns-then-a-i c =
    let t = table_of c.args.kinds.now c.args.a.now c.args.b.now in
    let l : c.loop-i.i < length t = omega arith in
    let bad = ends-bad c.args.basins c.loop-i.i c.args.kinds.now c.args.a.now c.args.b.now l in
    stray-here (net_of c.args.basins c.args.kinds.now c.args.a.now c.args.b.now) c.loop-i.i l
    (passed-not (ends_below c.args.basins) t c.loop-i.i c.loop-i.invariant no_reach l
    (elim c.then-a-i.branch [ then-a-i-via-then-a-i w ↦ bad (λ p q. omega arith) | then-a-i-via-else-a-i+then-b-i w ↦ bad (λ p q. omega (arith, w.if-b-i.true)) ]))

pub loop-i-preserved : goal.loop-i-preserved
loop-i-preserved c =
    let l : c.loop-i.i < length (table_of c.args.kinds.now c.args.a.now c.args.b.now) = omega arith in
    passed-more (ends_below c.args.basins) (table_of c.args.kinds.now c.args.a.now c.args.b.now) c.loop-i.i c.loop-i.invariant no_reach l
    (ends-good c.args.basins c.loop-i.i c.args.kinds.now c.args.a.now c.args.b.now l c.if-a-i.false (c.if-b-i.false))
