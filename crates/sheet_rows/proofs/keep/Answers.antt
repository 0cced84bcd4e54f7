-- `sheet_rows::keep` meets its contract: the room, and then the bytes.
-- Assumes nothing.
use Rattle.sheet_format.proofs.Getting.{got-whole}
use Rattle.sheet_rows.proofs.keep.Goals as goal

pub returns : goal.returns
returns c =
    got-whole c.args.bytes.now c.args.setting.now c.if-setting-bytes.false c.put_bytes.ensures
