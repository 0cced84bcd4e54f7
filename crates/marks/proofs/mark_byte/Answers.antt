-- `mark_byte` meets its contract: as long as a bit is left to come, those taken make a number below 128.
-- Assumes nothing.
use Prim.Native.Nat.{ℕ, ◌+◌, ◌-◌, ◌*◌, ◌<◌}
use native.Mathlib.Omega.{arith}
use mathlib.Core.Path.{◌≡◌}
use mathlib.Core.Bool.{Bool}
use Rattle.lists.specs.Lists.{elem}
use Rattle.marks.specs.Sets.{marked_set}
use Rattle.marks.proofs.Bytes.{digits-room, digits_more}
use Rattle.network.proofs.Marks.{bit-lt}
use Rattle.marks.proofs.mark_byte.Goals as goal

pub overflow_mul-byte : goal.overflow_mul-byte
overflow_mul-byte c =
    let is : ℕ → Bool = λ b. elem b (marked_set c.args.n c.args.seen.now) in
    let room : c.loop-b.byte < 128 = rw c.loop-b.invariant.2 (digits-room is c.loop-b.b (8 * c.args.k + 8 - c.loop-b.b) (omega arith)) in
    omega (arith, room)

pub overflow_add-byte : goal.overflow_add-byte
overflow_add-byte c =
    let is : ℕ → Bool = λ b. elem b (marked_set c.args.n c.args.seen.now) in
    let room : c.loop-b.byte < 128 = rw c.loop-b.invariant.2 (digits-room is c.loop-b.b (8 * c.args.k + 8 - c.loop-b.b) (omega arith)) in
    let small : c.mark_bit.result < 2 = rw c.mark_bit.ensures (search bit-lt) in
    omega (arith, room)

pub loop-b-preserved : goal.loop-b-preserved
loop-b-preserved c =
    let is : ℕ → Bool = λ b. elem b (marked_set c.args.n c.args.seen.now) in (
      omega arith,
      omega arith,
      rw (c.loop-b.invariant.2, c.mark_bit.ensures) (digits_more is (c.loop-b.b - 1) c.loop-b.b _ _ (omega arith) (omega arith)),
    )

pub returns : goal.returns
returns c =
    let first : c.loop-b.b ≡ 8 * c.args.k = omega arith in
    let eight : 8 * c.args.k + 8 - c.loop-b.b ≡ 8 = omega arith in
    rw (eight, first) at c.loop-b.invariant.2
