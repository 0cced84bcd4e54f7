-- `replies::write_marks` meets its contract.
-- Assumes nothing.
use Rattle.marks.specs.Sets.{marked_set}
use Rattle.replies.proofs.Reported.{marks-written}
use Rattle.replies.proofs.write_marks.Goals as goal

pub returns : goal.returns
returns c = marks-written (marked_set c.args.n c.args.seen.now) c.put_marks.ensures c.count_marks.ensures
