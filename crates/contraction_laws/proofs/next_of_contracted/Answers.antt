-- `contraction_laws::next_of_contracted` meets its contract: what the two calls promise gives the law.
-- Assumes nothing.
use Rattle.std.proofs.lemmas.Result.{err_from_is_err_and}
use Rattle.network.specs.Networks.{Network}
use Rattle.tables.specs.Rows.{net_of}
use Rattle.contraction_laws.proofs.Contractions.{next-refused, next-choice, asked-refused, asked-given}
use Rattle.contraction_laws.proofs.next_of_contracted.Goals as goal

pub returns-in_err-counts : goal.returns-in_err-counts
returns-in_err-counts c =
    let N : Network = net_of c.args.basins c.args.kinds.now c.args.a.now c.args.b.now in
    let p = err_from_is_err_and c.from_residual.result c.from_residual.ensures.1 in
    rw (p.1, p.2) (asked-refused (N) c.contracted-c.ensures _ c.in_err-counts.field-0.0 c.in_err-counts.was (λ d. next-refused (N) _ _ _ d) _ _)

pub returns : goal.returns
returns c =
    let N : Network = net_of c.args.basins c.args.kinds.now c.args.a.now c.args.b.now in
    asked-given (N) c.contracted-c.ensures _ c.in_ok-counts.counts.basins c.in_ok-counts.counts.reaches c.in_ok-counts.was (λ M ok is. next-choice (N) M ok is _) c.next_plan.ensures
