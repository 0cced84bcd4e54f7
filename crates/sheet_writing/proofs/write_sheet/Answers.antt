-- `sheet_writing::write_sheet` meets its contract: the room, the head, and then the records into the part of the buffer after it.
-- Assumes nothing.
use Prim.Native.Nat.{◌≤◌}
use native.Mathlib.Omega.{arith}
use lib.ListN.{length}
use Rattle.network.specs.Networks.{max_reaches}
use Rattle.sheet_format.proofs.Puts.{sheet-few, sheet-short, sheet-done}
use Rattle.sheet_writing.proofs.write_sheet.Goals as goal

pub overflow_mul-size : goal.overflow_mul-size
overflow_mul-size c =
    let few : length c.args.setting.now ≤ max_reaches = sheet-few c.args.kinds.now c.args.setting.now c.requires in
    omega (arith, few)

pub overflow_add-size : goal.overflow_add-size
overflow_add-size c =
    let few : length c.args.setting.now ≤ max_reaches = sheet-few c.args.kinds.now c.args.setting.now c.requires in
    omega (arith, few)

pub returns-then-out-size : goal.returns-then-out-size
returns-then-out-size c =
    sheet-short c.args.kinds.now c.args.setting.now c.requires c.args.out.now c.if-out-size.true

pub overflow_cast-count : goal.overflow_cast-count
overflow_cast-count c =
    let few : length c.args.setting.now ≤ max_reaches = sheet-few c.args.kinds.now c.args.setting.now c.requires in
    omega (arith, few)

pub returns : goal.returns
returns c =
    sheet-done c.args.kinds.now c.args.setting.now c.requires c.args.out.now c.if-out-size.false
    c.put_word.new.out c.put_word.ensures c.put_records.new.out c.put_records.ensures
