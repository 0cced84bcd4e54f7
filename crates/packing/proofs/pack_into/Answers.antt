-- `pack_into` meets its contract. The loop's invariant: the first i numbers of each row are those of the table's reaches, and the others as they were.
-- Assumes nothing.
use Rattle.std.proofs.Common.{◌<◌, length, ap, arith}
use Rattle.packing.specs.Rows.{reach_state_number}
use Rattle.packing.proofs.Rows.{row_put}
use Rattle.packing.proofs.pack_into.Goals as goal

pub loop-i-preserved : goal.loop-i-preserved
loop-i-preserved c =
    let s = c.args in
    let i = c.loop-i.i in
    let v = c.loop-i.invariant in
    let t-in : i < length s.t.now = omega arith in
    record {
      within = omega arith;
      kinds = row_put reach_state_number s.t.now _ s.kinds.now _ i _ v.kinds t-in (omega arith) (ap (λ x. x.kind) c.numbers_of-x.ensures);
      a = row_put (λ x. x.a) s.t.now _ s.a.now _ i _ v.a t-in (omega arith) (ap (λ x. x.a) c.numbers_of-x.ensures);
      b = row_put (λ x. x.b) s.t.now _ s.b.now _ i _ v.b t-in (omega arith) (ap (λ x. x.b) c.numbers_of-x.ensures);
    }
