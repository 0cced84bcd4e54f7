-- `planning::first_in` meets its contract: what is found is written down.
-- Assumes nothing.
use native.Mathlib.Omega.{arith}
use mathlib.Core.Path.{sym, ◌∙◌}
use lib.Seq.{length-take-le}
use Rattle.network.proofs.Networks.{accepted}
use Rattle.tables.specs.Rows.{net_of}
use Rattle.finder.proofs.Rooms.{level-few, level-room}
use Rattle.planning.proofs.Working.{first_fits, first-written}
use Rattle.planning.proofs.first_in.Goals as goal

pub slice_bounds-oriented-end : goal.slice_bounds-oriented-end
slice_bounds-oriented-end c = omega (arith, level-few c.requires.lent.level, c.requires.space.ways-space)

pub slice_bounds-oriented-end-2 : goal.slice_bounds-oriented-end-2
slice_bounds-oriented-end-2 c = sym (length-take-le _ c.args.ways.now (omega (arith, level-few c.requires.lent.level, c.requires.space.ways-space)))

pub find_first-found-requires : goal.find_first-found-requires
find_first-found-requires c = level-room c.requires.lent.level c.requires.space

pub report-requires : goal.report-requires
report-requires c = let facts = accepted (net_of c.args.n c.args.kinds.now c.args.a.now c.args.b.now) c.requires.lent.level.accepted in
    record {
      ways-room = c.find_first-found.auto.ways ∙ (level-room c.requires.lent.level c.requires.space).ways-room;
      seen-room = omega (arith, facts.few-basins);
      plan-room = c.requires.lent.plan-room;
      marks-room = c.requires.lent.marks-room;
      reach-fits = first_fits (net_of c.args.n c.args.kinds.now c.args.a.now c.args.b.now) c.requires.lent.level.accepted c.find_first-found.ensures;
    }

pub returns : goal.returns
returns c = first-written c.requires.lent.level (c.find_first-found.auto.ways ∙ (level-room c.requires.lent.level c.requires.space).ways-room) c.find_first-found.ensures c.report.ensures
