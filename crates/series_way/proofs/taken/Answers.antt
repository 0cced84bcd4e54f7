-- `series_way::taken` meets its contract.
-- Assumes nothing.
use native.Mathlib.Omega.{arith}
use mathlib.Core.Path.{◌≡◌}
use lib.ListN.{get_or}
use Rattle.series_way.specs.Guided.{taken, not_taken}
use Rattle.series_way.proofs.taken.Goals as goal

pub returns-in_err-h : goal.returns-in_err-h
returns-in_err-h c = rw c.from_residual.ensures not_taken

pub returns-then-h-ge-UNGUIDED : goal.returns-then-h-ge-UNGUIDED
returns-then-h-ge-UNGUIDED c = not_taken

pub returns-then-w-gt1 : goal.returns-then-w-gt1
returns-then-w-gt1 c = not_taken

pub returns-then-h-eq0 : goal.returns-then-h-eq0
returns-then-h-eq0 c =
    let e : c.in_ok-h.field-0.now ≡ get_or c.args.guide.now c.args.i 0 = c.in_ok-h.ensures.lookup.3.1 0 in
    taken c.in_ok-h.ensures.lookup.3.0 (omega (arith, e)) c.way_at-w.ensures (omega (arith, e)) (omega arith) (omega (arith, e, c.if-h-eq0.true))

pub returns : goal.returns
returns c =
    let e : c.in_ok-h.field-0.now ≡ get_or c.args.guide.now c.args.i 0 = c.in_ok-h.ensures.lookup.3.1 0 in
    taken c.in_ok-h.ensures.lookup.3.0 (omega (arith, e)) c.way_at-w.ensures (omega (arith, e)) (omega arith) (omega (arith, e, c.if-h-eq0.false))
