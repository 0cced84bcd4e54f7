-- `netfile_rows::read_network` meets its contract: the check of the whole file, the room, and then the second pass.
-- Assumes nothing.
use Rattle.std.specs.Prelude.{Ok}
use Prim.Native.Nat.{◌≤◌}
use native.Mathlib.Omega.{arith}
use mathlib.Core.Path.{◌≡◌, sym, ◌∙◌}
use mathlib.Core.Bool.{true}
use Rattle.tables.proofs.Laws.{table-short}
use Rattle.tables.specs.Rows.{room_of}
use lib.Pow.{are_bytes}
use Rattle.netfile_format.specs.Files.{read_file}
use Rattle.netfile_format.specs.Answers.{read_answer}
use Rattle.file_records.proofs.Records.{bytes-make}
use Rattle.netfile_format.proofs.Calls.{call-short, call-fills, call-read}
use Rattle.netfile_rows.proofs.read_network.Goals as goal

pub returns-then-row_count-counts : goal.returns-then-row_count-counts
returns-then-row_count-counts c =
    let counted : read_answer (read_file c.args.file.now) ≡ Ok c.in_ok-counts.counts = sym c.check_network.ensures ∙ c.in_ok-counts.was in
    call-short c.args.file.now c.args.kinds.now c.args.a.now c.args.b.now _ _ (counted)
    (omega (arith, table-short c.args.kinds.now c.args.a.now c.args.b.now, c.row_count.ensures, c.if-row_count-counts.true))

pub fill_rows-requires : goal.fill_rows-requires
fill_rows-requires c =
    let counted : read_answer (read_file c.args.file.now) ≡ Ok c.in_ok-counts.counts = sym c.check_network.ensures ∙ c.in_ok-counts.was in
    let bytes : are_bytes c.args.file.now ≡ true = bytes-make c.args.file.now (λ i. (c.shared_slice_known-1.given i).fits) in
    let room : c.in_ok-counts.counts.reaches ≤ room_of c.args.kinds.now c.args.a.now c.args.b.now = omega (arith, table-short c.args.kinds.now c.args.a.now c.args.b.now, c.row_count.ensures, c.if-row_count-counts.false) in
    call-fills c.args.file.now c.args.kinds.now c.args.a.now c.args.b.now _ _ (counted) (bytes) (room)

pub returns : goal.returns
returns c =
    let counted : read_answer (read_file c.args.file.now) ≡ Ok c.in_ok-counts.counts = sym c.check_network.ensures ∙ c.in_ok-counts.was in
    let bytes : are_bytes c.args.file.now ≡ true = bytes-make c.args.file.now (λ i. (c.shared_slice_known-1.given i).fits) in
    let room : c.in_ok-counts.counts.reaches ≤ room_of c.args.kinds.now c.args.a.now c.args.b.now = omega (arith, table-short c.args.kinds.now c.args.a.now c.args.b.now, c.row_count.ensures, c.if-row_count-counts.false) in
    call-read c.args.file.now c.args.kinds.now c.args.a.now c.args.b.now _ _ (counted) (bytes) (room)
    c.fill_rows.new.kinds c.fill_rows.new.a c.fill_rows.new.b c.fill_rows.ensures
