-- `contraction::contract_room` meets its contract: the new rows are cut to what a network can use of the room, and the call over rows does the rest.
-- Assumes nothing.
use mathlib.Core.Path.{sym}
use Prim.Native.Nat.{◌≤◌}
use lib.ListN.{take}
use native.Mathlib.Omega.{arith}
use lib.Seq.{length-take-le}
use Rattle.tables.specs.Rows.{room_of, net_of}
use Rattle.tables.proofs.Laws.{table-short}
use Rattle.contraction.proofs.Buffers.{contracted-into}
use Rattle.contraction.proofs.contract_room.Goals as goal

pub slice_bounds-contract_rows-end : goal.slice_bounds-contract_rows-end
slice_bounds-contract_rows-end c =
    let cut : c.least-m.result ≤ room_of c.args.kinds2.now c.args.a2.now c.args.b2.now = omega (arith, c.least-m.ensures, c.row_count.ensures, table-short c.args.kinds2.now c.args.a2.now c.args.b2.now) in
    omega (arith, cut)

pub slice_bounds-contract_rows-end-2 : goal.slice_bounds-contract_rows-end-2
slice_bounds-contract_rows-end-2 c =
    let cut : c.least-m.result ≤ room_of c.args.kinds2.now c.args.a2.now c.args.b2.now = omega (arith, c.least-m.ensures, c.row_count.ensures, table-short c.args.kinds2.now c.args.a2.now c.args.b2.now) in
    sym (length-take-le _ _ (omega (arith, cut)))

pub slice_bounds-contract_rows-end-3 : goal.slice_bounds-contract_rows-end-3
slice_bounds-contract_rows-end-3 c =
    let cut : c.least-m.result ≤ room_of c.args.kinds2.now c.args.a2.now c.args.b2.now = omega (arith, c.least-m.ensures, c.row_count.ensures, table-short c.args.kinds2.now c.args.a2.now c.args.b2.now) in
    omega (arith, cut)

pub slice_bounds-contract_rows-end-4 : goal.slice_bounds-contract_rows-end-4
slice_bounds-contract_rows-end-4 c =
    let cut : c.least-m.result ≤ room_of c.args.kinds2.now c.args.a2.now c.args.b2.now = omega (arith, c.least-m.ensures, c.row_count.ensures, table-short c.args.kinds2.now c.args.a2.now c.args.b2.now) in
    sym (length-take-le _ _ (omega (arith, cut)))

pub slice_bounds-contract_rows-end-5 : goal.slice_bounds-contract_rows-end-5
slice_bounds-contract_rows-end-5 c =
    let cut : c.least-m.result ≤ room_of c.args.kinds2.now c.args.a2.now c.args.b2.now = omega (arith, c.least-m.ensures, c.row_count.ensures, table-short c.args.kinds2.now c.args.a2.now c.args.b2.now) in
    omega (arith, cut)

pub slice_bounds-contract_rows-end-6 : goal.slice_bounds-contract_rows-end-6
slice_bounds-contract_rows-end-6 c =
    let cut : c.least-m.result ≤ room_of c.args.kinds2.now c.args.a2.now c.args.b2.now = omega (arith, c.least-m.ensures, c.row_count.ensures, table-short c.args.kinds2.now c.args.a2.now c.args.b2.now) in
    sym (length-take-le _ _ (omega (arith, cut)))

pub returns : goal.returns
returns c =
    let cut : c.least-m.result ≤ room_of c.args.kinds2.now c.args.a2.now c.args.b2.now = omega (arith, c.least-m.ensures, c.row_count.ensures, table-short c.args.kinds2.now c.args.a2.now c.args.b2.now) in
    record {
      said = λ big t t' l v.
          contracted-into (net_of c.args.basins c.args.kinds.now c.args.a.now c.args.b.now) (take c.least-m.result c.args.kinds2.now) (take c.least-m.result c.args.a2.now) (take c.least-m.result c.args.b2.now) _ _ _ _ _
          (omega (
            arith,
            big,
            c.least-m.ensures,
            c.least.ensures,
            c.row_count.ensures,
            table-short c.args.kinds2.now c.args.a2.now c.args.b2.now,
            length-take-le c.least-m.result c.args.kinds2.now (omega (arith, cut)),
            length-take-le c.least-m.result c.args.a2.now (omega (arith, cut)),
            length-take-le c.least-m.result c.args.b2.now (omega (arith, cut)),
          ))
          c.contract_rows.ensures
          _ _ _ t t' l v;
    }
