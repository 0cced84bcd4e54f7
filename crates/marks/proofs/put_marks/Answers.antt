-- `put_marks` meets its contract: one more byte at each turn, and all bytes of the marks at the end.
-- Assumes nothing.
use Prim.Native.Nat.{ℕ}
use native.Mathlib.Omega.{arith}
use mathlib.Core.Path.{◌≡◌, ap, ◌∙◌}
use mathlib.Core.List.{List, ◌++◌, map}
use lib.ListN.{take, drop, length-set, length-take, drop_of_length-le}
use Rattle.lists.specs.Lists.{range}
use Rattle.network.specs.Marks.{mark_bytes, mark_byte, marks_of}
use Rattle.marks.specs.Sets.{marked_set}
use Rattle.lists.proofs.Ranges.{put-more}
use Rattle.marks.proofs.put_marks.Goals as goal

pub loop-k-preserved : goal.loop-k-preserved
loop-k-preserved c =
    let f : ℕ → ℕ = mark_byte (marked_set c.args.n c.args.seen.now) in
    let k : ℕ = c.loop-k.k in (
      rw (c.loop-k.invariant.0, c.mark_byte.ensures) (put-more f k (take mark_bytes c.args.marks.now) (omega arith)),
      length-set c.loop-k.byte-items k c.mark_byte.result ∙ c.loop-k.invariant.1,
    )

pub returns : goal.returns
unfolding marks_of
returns c =
    let front : List ℕ = take mark_bytes c.args.marks.now in
    let all : c.loop-k.k ≡ mark_bytes = omega arith in
    let written : c.loop-k.byte-items ≡ map (mark_byte (marked_set c.args.n c.args.seen.now)) (range 0 mark_bytes) =
    rw (all, drop_of_length-le front {i = mark_bytes} (omega (arith, length-take mark_bytes c.args.marks.now))) at c.loop-k.invariant.0 in
    ap (λ bytes. bytes ++ drop mark_bytes c.args.marks.now) written
