-- `listing::line_after` meets its contract: either way the state is that of the line after the plan's.
-- Assumes nothing.
use mathlib.Core.Path.{sym, ◌∙◌}
use Rattle.network.proofs.Networks.{accepted}
use native.Mathlib.Omega.{arith}
use Rattle.seeking.proofs.Levels.{level-table}
use Rattle.tables.specs.Rows.{net_of}
use Rattle.listing_state.specs.Pending.{holding}
use Rattle.listing.specs.Keeping.{unknown, kept}
use Rattle.listing.proofs.Steps.{kept-known, gates-held, step-front, step_line, step-stands}
use Rattle.listing.proofs.line_after.Goals as goal

pub invariant_of-graph : goal.invariant_of-graph
invariant_of-graph c =
    let k = kept-known c.requires.kept c.if-standing.true in record { table = level-table k.indexed.level; index = k.indexed.index }

pub advance-parted-requires-clause-ready : goal.advance-parted-requires-clause-ready
advance-parted-requires-clause-ready c =
    let k = kept-known c.requires.kept c.if-standing.true in
    let facts = accepted (net_of c.args.l.basins c.args.kinds.now c.args.a.now c.args.b.now) k.indexed.level.accepted in
    record { some-basin = facts.some-basin; few-basins = omega (arith, facts.few-basins); ways-full = k.indexed.ways-full; seen-room = omega (arith, facts.few-basins); queue-room = omega arith }

pub note_bound-known-requires-clause-ready : goal.note_bound-known-requires-clause-ready
note_bound-known-requires-clause-ready c =
    let k = kept-known c.requires.kept c.if-standing.true in
    let facts = accepted (net_of c.args.l.basins c.args.kinds.now c.args.a.now c.args.b.now) k.indexed.level.accepted in
    record { some-basin = facts.some-basin; few-basins = omega (arith, facts.few-basins); ways-full = c.advance-parted.auto.ways ∙ k.indexed.ways-full; seen-room = omega (arith, facts.few-basins); queue-room = omega arith }

pub after_step-line-requires-clause-g_value : goal.after_step-line-requires-clause-g_value
after_step-line-requires-clause-g_value c =
    let l = holding c.args.l c.args.setting.now in
    let k = kept-known c.requires.kept c.if-standing.true in gates-held l c.args.kinds.now c.args.a.now c.args.b.now c.args.ways.now c.args.left c.args.g c.requires.g_value k.stands.at-plan

pub returns-in-Some-clause-line_after : goal.returns-in-Some-clause-line_after
returns-in-Some-clause-line_after c =
    let l = holding c.args.l c.args.setting.now in
    let k = kept-known c.requires.kept c.if-standing.true in
    let went = c.advance-parted.ensures.from _ _ k.stands.at-plan k.stands.binds (c.requires.guiding _) in step_line l c.args.kinds.now c.args.a.now c.args.b.now c.args.ways.now c.args.left c.args.g c.requires.g_value k.stands.at-plan went c.after_step-line.ensures

pub returns-in-Some-clause-kept_2 : goal.returns-in-Some-clause-kept_2
returns-in-Some-clause-kept_2 c =
    let l = holding c.args.l c.args.setting.now in
    let k = kept-known c.requires.kept c.if-standing.true in
    let went = c.advance-parted.ensures.from _ _ k.stands.at-plan k.stands.binds (c.requires.guiding _) in kept c.if-standing.true (record { level = k.indexed.level; ways-full = c.advance-parted.auto.ways ∙ k.indexed.ways-full; index = k.indexed.index })
    (c.note_bound-known.auto.tried ∙ k.tried-row) (c.note_bound-known.auto.loose ∙ c.advance-parted.auto.under ∙ k.spare ∙ sym c.advance-parted.auto.ways)
    (step-stands l c.args.kinds.now c.args.a.now c.args.b.now c.args.ways.now c.args.left c.args.g c.requires.g_value k.stands.at-plan went c.after_step-line.ensures k.stands.binds c.note_bound-known.ensures)

pub returns-in-None-clause-line_after : goal.returns-in-None-clause-line_after
returns-in-None-clause-line_after c =
    let l = holding c.args.l c.args.setting.now in
    let k = kept-known c.requires.kept c.if-standing.true in
    let went = c.advance-parted.ensures.from _ _ k.stands.at-plan k.stands.binds (c.requires.guiding _) in step_line l c.args.kinds.now c.args.a.now c.args.b.now c.args.ways.now c.args.left c.args.g c.requires.g_value k.stands.at-plan went c.after_step-line.ensures

pub returns-in-None-clause-kept_2 : goal.returns-in-None-clause-kept_2
returns-in-None-clause-kept_2 c =
    let l = holding c.args.l c.args.setting.now in
    let k = kept-known c.requires.kept c.if-standing.true in
    let went = c.advance-parted.ensures.from _ _ k.stands.at-plan k.stands.binds (c.requires.guiding _) in kept c.if-standing.true (record { level = k.indexed.level; ways-full = c.advance-parted.auto.ways ∙ k.indexed.ways-full; index = k.indexed.index })
    k.tried-row (c.advance-parted.auto.under ∙ k.spare ∙ sym c.advance-parted.auto.ways)
    (step-stands l c.args.kinds.now c.args.a.now c.args.b.now c.args.ways.now c.args.left c.args.g c.requires.g_value k.stands.at-plan went c.after_step-line.ensures k.stands.binds (record { still = λ p at b. b }))

pub returns-clause-kept_2 : goal.returns-clause-kept_2
returns-clause-kept_2 c = unknown c.if-standing.false

pub after_step-line-requires-clause-front_stands : goal.after_step-line-requires-clause-front_stands
after_step-line-requires-clause-front_stands c =
    let l = holding c.args.l c.args.setting.now in
    let k = kept-known c.requires.kept c.if-standing.true in step-front l c.args.kinds.now c.args.a.now c.args.b.now c.args.ways.now c.args.left c.args.g c.requires.g_value k.stands.at-plan (c.advance-parted.ensures.from _ _ k.stands.at-plan k.stands.binds (c.requires.guiding _))
