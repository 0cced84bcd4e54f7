-- `sheet_writing::write_shut_in` meets its contract: the room, and then the bytes, stored one after the other.
-- Assumes nothing.
use Prim.Native.Nat.{◌+◌}
use native.Mathlib.Omega.{arith}
use mathlib.Core.Path.{refl}
use mathlib.Core.List.{[], ◌∷◌}
use lib.ListN.{length}
use Rattle.sheet_format.proofs.Puts.{finding-done}
use Rattle.sheet_writing.proofs.write_shut_in.Goals as goal

pub returns : goal.returns
returns c =
    finding-done (20 ∷ []) c.args.marks.now c.args.out.now (length c.args.marks.now + 2) 1 (omega arith) refl _ c.put_bytes.new.out refl c.put_bytes.ensures
    c.if-out-size.false
