-- `netfile::read_rows` meets its contract: the rows are cut to what a network can use of the room, and the reader over rows does the rest.
-- Assumes nothing.
use mathlib.Core.Path.{sym}
use Prim.Native.Nat.{◌≤◌}
use lib.ListN.{take}
use native.Mathlib.Omega.{arith}
use lib.Seq.{length-take-le}
use Rattle.tables.specs.Rows.{room_of}
use Rattle.tables.proofs.Laws.{table-short}
use Rattle.file_records.proofs.Records.{bytes-make}
use Rattle.netfile.proofs.Reading.{read-into}
use Rattle.netfile.proofs.read_rows.Goals as goal

pub slice_bounds-read_network-end : goal.slice_bounds-read_network-end
slice_bounds-read_network-end c =
    let cut : c.least-m.result ≤ room_of c.args.kinds.now c.args.a.now c.args.b.now = omega (arith, c.least-m.ensures, c.row_count.ensures, table-short c.args.kinds.now c.args.a.now c.args.b.now) in
    omega (arith, cut)

pub slice_bounds-read_network-end-2 : goal.slice_bounds-read_network-end-2
slice_bounds-read_network-end-2 c =
    let cut : c.least-m.result ≤ room_of c.args.kinds.now c.args.a.now c.args.b.now = omega (arith, c.least-m.ensures, c.row_count.ensures, table-short c.args.kinds.now c.args.a.now c.args.b.now) in
    sym (length-take-le _ _ (omega (arith, cut)))

pub slice_bounds-read_network-end-3 : goal.slice_bounds-read_network-end-3
slice_bounds-read_network-end-3 c =
    let cut : c.least-m.result ≤ room_of c.args.kinds.now c.args.a.now c.args.b.now = omega (arith, c.least-m.ensures, c.row_count.ensures, table-short c.args.kinds.now c.args.a.now c.args.b.now) in
    omega (arith, cut)

pub slice_bounds-read_network-end-4 : goal.slice_bounds-read_network-end-4
slice_bounds-read_network-end-4 c =
    let cut : c.least-m.result ≤ room_of c.args.kinds.now c.args.a.now c.args.b.now = omega (arith, c.least-m.ensures, c.row_count.ensures, table-short c.args.kinds.now c.args.a.now c.args.b.now) in
    sym (length-take-le _ _ (omega (arith, cut)))

pub slice_bounds-read_network-end-5 : goal.slice_bounds-read_network-end-5
slice_bounds-read_network-end-5 c =
    let cut : c.least-m.result ≤ room_of c.args.kinds.now c.args.a.now c.args.b.now = omega (arith, c.least-m.ensures, c.row_count.ensures, table-short c.args.kinds.now c.args.a.now c.args.b.now) in
    omega (arith, cut)

pub slice_bounds-read_network-end-6 : goal.slice_bounds-read_network-end-6
slice_bounds-read_network-end-6 c =
    let cut : c.least-m.result ≤ room_of c.args.kinds.now c.args.a.now c.args.b.now = omega (arith, c.least-m.ensures, c.row_count.ensures, table-short c.args.kinds.now c.args.a.now c.args.b.now) in
    sym (length-take-le _ _ (omega (arith, cut)))

pub returns : goal.returns
returns c =
    let cut : c.least-m.result ≤ room_of c.args.kinds.now c.args.a.now c.args.b.now = omega (arith, c.least-m.ensures, c.row_count.ensures, table-short c.args.kinds.now c.args.a.now c.args.b.now) in
    record {
      said = λ big t t' l v.
          read-into _ (take c.least-m.result c.args.kinds.now) (take c.least-m.result c.args.a.now) (take c.least-m.result c.args.b.now) _ _ _ _ _
          (bytes-make c.args.file.now (λ i. (c.type_inv.file i).fits))
          (omega (
            arith,
            big,
            c.least-m.ensures,
            c.least.ensures,
            c.row_count.ensures,
            table-short c.args.kinds.now c.args.a.now c.args.b.now,
            length-take-le c.least-m.result c.args.kinds.now (omega (arith, cut)),
            length-take-le c.least-m.result c.args.a.now (omega (arith, cut)),
            length-take-le c.least-m.result c.args.b.now (omega (arith, cut)),
          ))
          c.read_network.ensures
          _ _ _ t t' l v;
    }
