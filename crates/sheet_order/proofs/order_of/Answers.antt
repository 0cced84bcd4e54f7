-- `sheet_order::order_of` meets its contract: the bytes behind the common prefix decide.
-- Assumes nothing.
use native.Mathlib.Omega.{arith}
use mathlib.Core.Path.{sym}
use mathlib.Core.Logic.{inl, inr}
use Rattle.sheet_order.proofs.Prefixes.{prefix-left, order-ended, order-first, order-second}
use Rattle.sheet_order.proofs.order_of.Goals as goal

pub overflow_sub-left : goal.overflow_sub-left
overflow_sub-left c = omega (arith, c.common_prefix-at.ensures, prefix-left c.args.first.now c.args.second.now)

pub returns-then-left-eq0 : goal.returns-then-left-eq0
returns-then-left-eq0 c = sym (order-ended c.args.first.now c.args.second.now (inl (omega (arith, c.common_prefix-at.ensures, c.if-left-eq0.true))))

pub returns-then-second-at : goal.returns-then-second-at
returns-then-second-at c = sym (order-ended c.args.first.now c.args.second.now (inr (omega (arith, c.common_prefix-at.ensures, c.if-second-at.true))))

pub returns-then-first-at : goal.returns-then-first-at
returns-then-first-at c =
    sym (order-first c.args.first.now c.args.second.now c.common_prefix-at.ensures (omega (arith, c.if-left-eq0.false)) (omega (arith, c.if-second-at.false)) c.if-first-at.true)

pub returns-else-first-at : goal.returns-else-first-at
returns-else-first-at c =
    sym (order-second c.args.first.now c.args.second.now c.common_prefix-at.ensures (omega (arith, c.if-left-eq0.false)) (omega (arith, c.if-second-at.false)) c.if-first-at.false)
