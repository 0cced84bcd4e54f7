-- `sheet_writing::write_lone` meets its contract: the room, and then the bytes, stored one after the other.
-- Assumes nothing.
use Prim.Native.Nat.{◌+◌}
use native.Mathlib.Omega.{arith}
use mathlib.Core.Path.{refl}
use mathlib.Core.List.{◌∷◌}
use lib.ListN.{length}
use Rattle.file_records.specs.Records.{two_bytes}
use Rattle.sheet_format.proofs.Puts.{finding-done}
use Rattle.sheet_writing.proofs.write_lone.Goals as goal

pub returns : goal.returns
returns c =
    finding-done (21 ∷ two_bytes c.args.reach) c.args.marks.now c.args.out.now (length c.args.marks.now + 4) 3 (omega arith) refl c.put_word.new.out c.put_bytes.new.out c.put_word.ensures c.put_bytes.ensures
    c.if-out-size.false
