-- `count_marks` meets its contract: one more word at each turn.
-- Assumes nothing.
use Prim.Native.Nat.{◌≤◌}
use native.Mathlib.Omega.{arith}
use lib.Count.{ones, ones-le}
use Rattle.marks.proofs.Counts.{count-more}
use Rattle.marks.proofs.count_marks.Goals as goal

pub loop-at-preserved : goal.loop-at-preserved
loop-at-preserved c =
    let few : ones c.word_at.result ≤ 64 = ones-le 64 c.word_at.result c.word_at.type_inv in (
      omega arith,
      omega arith,
      omega (arith, few),
      rw (c.loop-at.invariant.3, c.word_at.ensures) (count-more c.loop-at.at c.args.marks.now (λ i. (c.type_inv.marks i).fits)),
    )
