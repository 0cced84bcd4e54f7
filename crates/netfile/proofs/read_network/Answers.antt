-- `netfile::read_network` meets its contract: rows of its own are lent to the reader over rows, and their reaches go into the table; where the file is
-- refused none do.
-- Assumes nothing.
use Rattle.std.proofs.Common.{refl, subst, arith}
use Rattle.std.proofs.lemmas.Result.{err_from_is_err_and}
use Rattle.std.specs.Prelude.{Result}
use mathlib.Core.Path.{subst⁻¹}
use Rattle.network.specs.declared.Counts.{Counts}
use Rattle.network.specs.declared.Refusal.{Refusal}
use Rattle.netfile_format.specs.Answers.{ReadTable}
use Rattle.packing.specs.Rows.{UnpackedFrom}
use Rattle.netfile.specs.Reads.{count_of}
use Rattle.packing.proofs.Fillings.{none-unpacked}
use Rattle.netfile.proofs.read_network.Goals as goal

pub returns-in_err-counts : goal.returns-in_err-counts
returns-in_err-counts c =
    let k = c.read_rows in
    let Reads : Result Counts Refusal → Type 0 = λ r. ReadTable c.args.file.now c.args.table.now r c.args.table.now in
    let Into : Result Counts Refusal → Type 0 = λ r. UnpackedFrom (count_of r) k.new.kinds k.new.a k.new.b c.args.table.now c.args.table.now in
    let into = subst⁻¹ Into c.in_err-counts.was (none-unpacked k.new.kinds k.new.a k.new.b c.args.table.now) in
    let p = err_from_is_err_and c.from_residual.result c.from_residual.ensures.1 in
    rw (p.1, p.2) (subst Reads c.in_err-counts.was (k.ensures.said (omega arith) c.args.table.now c.args.table.now refl into))

pub returns : goal.returns
returns c =
    let k = c.read_rows in
    let Reads : Result Counts Refusal → Type 0 = λ r. ReadTable c.args.file.now c.args.table.now r c.unpack_from.new.t in
    let Into : Result Counts Refusal → Type 0 = λ r. UnpackedFrom (count_of r) k.new.kinds k.new.a k.new.b c.args.table.now c.unpack_from.new.t in
    let into = subst⁻¹ Into c.in_ok-counts.was c.unpack_from.ensures in
    subst Reads c.in_ok-counts.was (k.ensures.said (omega arith) c.args.table.now c.unpack_from.new.t refl into)
