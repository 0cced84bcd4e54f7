-- `diameter_in` meets its contract: the working memory is cut to the table.
-- Assumes nothing.
use native.Mathlib.Omega.{arith}
use mathlib.Core.Path.{sym}
use lib.Seq.{length-take-le}
use Rattle.finder.proofs.Rooms.{level-few, level-room}
use Rattle.diameter.proofs.diameter_in.Goals as goal

pub slice_bounds-diameter_under-end : goal.slice_bounds-diameter_under-end
slice_bounds-diameter_under-end c = omega (arith, level-few c.requires.level, c.requires.space.ways-space)

pub slice_bounds-diameter_under-end-2 : goal.slice_bounds-diameter_under-end-2
slice_bounds-diameter_under-end-2 c = sym (length-take-le _ c.args.ways.now (omega (arith, level-few c.requires.level, c.requires.space.ways-space)))

pub diameter_under-requires : goal.diameter_under-requires
diameter_under-requires c = level-room c.requires.level c.requires.space
