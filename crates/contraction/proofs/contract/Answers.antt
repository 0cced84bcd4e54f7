-- `contraction::contract` meets its contract: rows of its own are lent to the call that contracts the table into rows, and their reaches go into the buffer.
-- Assumes nothing.
use Rattle.std.proofs.Common.{refl, arith}
use Rattle.std.proofs.lemmas.Result.{err_from_is_err_and}
use Rattle.packing.proofs.Fillings.{none-unpacked}
use Rattle.contraction.proofs.contract.Goals as goal

pub returns-in_err-counts : goal.returns-in_err-counts
returns-in_err-counts c =
    let p = err_from_is_err_and c.from_residual.result c.from_residual.ensures.1 in
    rw (p.1, p.2) (c.in_err-counts.ensures.said (omega arith) c.args.out.now c.args.out.now refl (none-unpacked _ _ _ _))

pub returns : goal.returns
returns c = c.in_ok-counts.ensures.said (omega arith) c.args.out.now c.unpack_from.new.t refl c.unpack_from.ensures
