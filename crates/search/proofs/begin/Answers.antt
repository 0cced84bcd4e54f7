-- `begin` meets its contract: after the notes are cleared start is not seen, and its visit is the first.
-- Assumes nothing.
use Rattle.search.proofs.Fronts.{first-visit}
use Rattle.search.proofs.begin.Goals as goal

pub returns : goal.returns
returns c =
    first-visit c.args.seen.now c.requires.start_lt_n c.requires.n_in_bounds c.fill_row.ensures
