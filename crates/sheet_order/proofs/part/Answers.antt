-- `sheet_order::part` meets its contract: each arm returns the part that the contract names, and the common prefix is no longer than either sheet.
-- The bounds are shown from those of both sheets, so that a part of the other sheet is refused for what it is.
-- Assumes nothing.
use Prim.Native.Nat.{◌≤◌}
use native.Mathlib.Omega.{arith}
use lib.ListN.{length}
use borrow.Author.Rules.{rules}
use Rattle.sheet_order.proofs.Prefixes.{prefix-left, prefix-right}
use Rattle.sheet_order.proofs.part.Goals as goal

pub slice_bounds-result-count : goal.slice_bounds-result-count
slice_bounds-result-count c =
    let in_first : c.common_prefix-at.result ≤ length c.args.first.now = omega (arith, prefix-left c.args.first.now c.args.second.now) in
    let in_second : c.common_prefix-at.result ≤ length c.args.second.now = omega (arith, prefix-right c.args.first.now c.args.second.now) in
    omega arith

pub slice_bounds-result-start : goal.slice_bounds-result-start
slice_bounds-result-start c =
    let in_first : c.common_prefix-at.result ≤ length c.args.first.now = omega (arith, prefix-left c.args.first.now c.args.second.now) in
    let in_second : c.common_prefix-at.result ≤ length c.args.second.now = omega (arith, prefix-right c.args.first.now c.args.second.now) in
    search rules

pub slice_bounds-result-count-in-Ok-Greater : goal.slice_bounds-result-count-in-Ok-Greater
slice_bounds-result-count-in-Ok-Greater c =
    let in_first : c.common_prefix-at.result ≤ length c.args.first.now = omega (arith, prefix-left c.args.first.now c.args.second.now) in
    let in_second : c.common_prefix-at.result ≤ length c.args.second.now = omega (arith, prefix-right c.args.first.now c.args.second.now) in
    omega arith

pub slice_bounds-result-start-in-Ok-Greater : goal.slice_bounds-result-start-in-Ok-Greater
slice_bounds-result-start-in-Ok-Greater c =
    let in_first : c.common_prefix-at.result ≤ length c.args.first.now = omega (arith, prefix-left c.args.first.now c.args.second.now) in
    let in_second : c.common_prefix-at.result ≤ length c.args.second.now = omega (arith, prefix-right c.args.first.now c.args.second.now) in
    search rules
