-- `planning_next::next_in` meets its contract: what is found is written down, or 11.
-- Assumes nothing.
use native.Mathlib.Omega.{arith}
use mathlib.Core.Path.{sym, ◌∙◌}
use lib.Seq.{length-take-le}
use Rattle.network.proofs.Networks.{accepted}
use Rattle.tables.specs.Rows.{net_of}
use Rattle.finder.proofs.Rooms.{level-few, level-room}
use Rattle.planning_next.proofs.Working.{next-at, next-written}
use Rattle.planning_next.proofs.next_in.Goals as goal

pub slice_bounds-oriented-end : goal.slice_bounds-oriented-end
slice_bounds-oriented-end c = omega (arith, level-few c.requires.lent.level, c.requires.space.ways-space)

pub slice_bounds-oriented-end-2 : goal.slice_bounds-oriented-end-2
slice_bounds-oriented-end-2 c = sym (length-take-le _ c.args.ways.now (omega (arith, level-few c.requires.lent.level, c.requires.space.ways-space)))

pub slice_bounds-find_next-end : goal.slice_bounds-find_next-end
slice_bounds-find_next-end c = omega (arith, level-few c.requires.lent.level, c.requires.under_len)

pub slice_bounds-find_next-end-2 : goal.slice_bounds-find_next-end-2
slice_bounds-find_next-end-2 c = sym (length-take-le _ c.args.under.now (omega (arith, level-few c.requires.lent.level, c.requires.under_len)))

pub find_next-sought-requires : goal.find_next-sought-requires
find_next-sought-requires c = record {
  room = level-room c.requires.lent.level c.requires.space;
  under-room = length-take-le _ c.args.under.now (omega (arith, level-few c.requires.lent.level, c.requires.under_len));
  fits = c.requires.setting_value;
}

pub report-requires : goal.report-requires
report-requires c = let facts = accepted (net_of c.args.n c.args.kinds.now c.args.a.now c.args.b.now) c.requires.lent.level.accepted in
    record {
      ways-room = c.find_next-sought.auto.ways ∙ (level-room c.requires.lent.level c.requires.space).ways-room;
      seen-room = omega (arith, facts.few-basins);
      plan-room = c.requires.lent.plan-room;
      marks-room = c.requires.lent.marks-room;
      reach-fits = (next-at c.in-Some.is c.find_next-sought.ensures).fits;
    }

pub returns-in-Some : goal.returns-in-Some
returns-in-Some c = next-written c.requires.lent.level (c.find_next-sought.auto.ways ∙ (level-room c.requires.lent.level c.requires.space).ways-room) (next-at c.in-Some.is c.find_next-sought.ensures) c.report.ensures
