-- `walker::padded` meets its contract: the setting stands over zeros.
-- Assumes nothing.
use Rattle.walker.proofs.Copies.{zeros, over_zeros}
use Rattle.walker.proofs.padded.Goals as goal

pub returns : goal.returns
unfolding zeros
returns c = over_zeros c.args.setting.now _ c.copy_from_slice.ensures.after
