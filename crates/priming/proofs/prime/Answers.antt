-- `priming::prime` meets its contract: it says what the check says, and where that is yes the ways are the plan's.
-- Assumes nothing.
use native.Mathlib.Omega.{arith}
use mathlib.Core.Path.{◌≡◌, refl, sym, ap, ◌∙◌}
use lib.ListN.{length}
use Rattle.std.specs.Prelude.{Ok}
use Rattle.tables.specs.Rows.{net_of}
use Rattle.seeking.specs.Levels.{Level}
use Rattle.replies.specs.Answers.{says_yes}
use Rattle.replies.proofs.Answers.{yes-plan}
use Rattle.priming.proofs.Priming.{said-yes, spare-ways, spare-index}
use Rattle.priming.proofs.prime.Goals as goal

pub orient-requires : goal.orient-requires
orient-requires c =
    let long-a : length c.args.a.now ≡ length c.args.kinds.now = omega (arith, c.if-a-kinds.false) in
    let long-b : length c.args.b.now ≡ length c.args.kinds.now = omega (arith, c.if-b-kinds.false) in
    let level : Level c.args.basins c.args.kinds.now c.args.a.now c.args.b.now = record {
      accepted = (yes-plan (net_of c.args.basins c.args.kinds.now c.args.a.now c.args.b.now) c.args.setting.now (sym c.check.ensures.answer ∙ c.in-Ok-true.is ∙ ap Ok c.in-Ok-true.field-0-test)).0;
      ends-a = long-a;
      ends-b = long-b;
    } in
    spare-ways (level) c.requires

pub index-requires : goal.index-requires
index-requires c =
    let long-a : length c.args.a.now ≡ length c.args.kinds.now = omega (arith, c.if-a-kinds.false) in
    let long-b : length c.args.b.now ≡ length c.args.kinds.now = omega (arith, c.if-b-kinds.false) in
    let level : Level c.args.basins c.args.kinds.now c.args.a.now c.args.b.now = record {
      accepted = (yes-plan (net_of c.args.basins c.args.kinds.now c.args.a.now c.args.b.now) c.args.setting.now (sym c.check.ensures.answer ∙ c.in-Ok-true.is ∙ ap Ok c.in-Ok-true.field-0-test)).0;
      ends-a = long-a;
      ends-b = long-b;
    } in
    spare-index (level) c.requires refl refl

pub returns-in-Ok-true : goal.returns-in-Ok-true
returns-in-Ok-true c =
    let long-a : length c.args.a.now ≡ length c.args.kinds.now = omega (arith, c.if-a-kinds.false) in
    let long-b : length c.args.b.now ≡ length c.args.kinds.now = omega (arith, c.if-b-kinds.false) in
    let level : Level c.args.basins c.args.kinds.now c.args.a.now c.args.b.now = record {
      accepted = (yes-plan (net_of c.args.basins c.args.kinds.now c.args.a.now c.args.b.now) c.args.setting.now (sym c.check.ensures.answer ∙ c.in-Ok-true.is ∙ ap Ok c.in-Ok-true.field-0-test)).0;
      ends-a = long-a;
      ends-b = long-b;
    } in
    said-yes (long-a) (long-b) c.check.ensures.answer (ap says_yes (c.in-Ok-true.is ∙ ap Ok c.in-Ok-true.field-0-test))
    record {
      level = level;
      is-plan = (yes-plan (net_of c.args.basins c.args.kinds.now c.args.a.now c.args.b.now) c.args.setting.now (sym c.check.ensures.answer ∙ c.in-Ok-true.is ∙ ap Ok c.in-Ok-true.field-0-test)).1;
      oriented = c.orient.ensures;
    }
    c.index.ensures
