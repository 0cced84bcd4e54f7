-- `binding::tell_bound` meets its contract. The loop's invariant: the bytes of the gates among the first i reaches are told, and the ways are as they were.
-- Assumes nothing.
use Prim.Native.Nat.{◌≤◌, ◌<◌}
use lib.ListN.{length, get_or}
use Rattle.binding.proofs.Tellings.{telling-room, telling-small, telling-all, telling-on-gate, telling-on-other}
use Rattle.binding.proofs.tell_bound.Goals as goal

pub loop-i-preserved-then-kind-ne-KIND_GATED : goal.loop-i-preserved-then-kind-ne-KIND_GATED
loop-i-preserved-then-kind-ne-KIND_GATED c = telling-on-other c.requires.tellable c.loop-i.invariant c.loop-i-test.true c.if-kind-ne-KIND_GATED.true

pub bounds-bytes-k : goal.bounds-bytes-k
bounds-bytes-k c =
    let room_in : c.loop-i.k < length c.loop-i.bytes = telling-room c.requires.tellable c.loop-i.invariant.telling c.loop-i-test.true c.if-kind-ne-KIND_GATED.false in
    room_in

pub bound_at-bound-requires-clause-way_bound : goal.bound_at-bound-requires-clause-way_bound
bound_at-bound-requires-clause-way_bound c =
    let small-in : get_or c.loop-i.bytes c.loop-i.k 0 ≤ 1 = telling-small c.requires.tellable c.loop-i.invariant.telling c.loop-i-test.true c.if-kind-ne-KIND_GATED.false in small-in

pub told-requires : goal.told-requires
told-requires c =
    let small-in : get_or c.loop-i.bytes c.loop-i.k 0 ≤ 1 = telling-small c.requires.tellable c.loop-i.invariant.telling c.loop-i-test.true c.if-kind-ne-KIND_GATED.false in
    small-in

pub bounds-bytes-k-in-loop-i : goal.bounds-bytes-k-in-loop-i
bounds-bytes-k-in-loop-i c =
    let room_in : c.loop-i.k < length c.loop-i.bytes = telling-room c.requires.tellable c.loop-i.invariant.telling c.loop-i-test.true c.if-kind-ne-KIND_GATED.false in
    room_in

pub loop-i-preserved : goal.loop-i-preserved
loop-i-preserved c =
    telling-on-gate c.requires.tellable c.loop-i.invariant c.loop-i-test.true c.if-kind-ne-KIND_GATED.false {ws' = c.bound_at-bound.new.ways} c.bound_at-bound.ensures.ways_after c.bound_at-bound.ensures.value
    c.bound_at-bound.auto.seen c.bound_at-bound.auto.queue c.told.ensures

pub returns : goal.returns
returns c = telling-all c.requires.tellable c.loop-i.invariant.telling c.loop-i-test.false
