-- `following::next_of_other` meets its contract: a finding is one whatever is asked for, and with a plan the setting is followed.
-- Assumes nothing.
use Rattle.tables.specs.Rows.{net_of}
use Rattle.following.proofs.Nexts.{finding-next}
use Rattle.following.proofs.next_of_other.Goals as goal

pub returns-in_default : goal.returns-in_default
returns-in_default c = finding-next (net_of c.args.graph.now.basins c.args.kinds.now c.args.graph.now.a.now c.args.graph.now.b.now) c.requires.other_than_plan.seeking.level.accepted _ (λ e. c.in_default.not-Oriented e) c.first_from.ensures
