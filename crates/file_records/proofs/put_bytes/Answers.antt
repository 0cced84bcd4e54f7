-- `file_records::put_bytes` meets its contract: the bytes are copied to the part from the place on.
-- Assumes nothing.
use native.Mathlib.Omega.{arith}
use Rattle.file_records.proofs.Writing.{part-put}
use Rattle.file_records.proofs.put_bytes.Goals as goal

pub returns : goal.returns
returns c = part-put c.args.at _ c.args.out.now c.copy_from_slice.new.self c.args.values.now c.requires (omega arith) c.copy_from_slice.ensures.after
