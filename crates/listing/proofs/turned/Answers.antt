-- `listing::turned` meets its contract: only the line of a plan that is printed is left.
-- Assumes nothing.
use native.Mathlib.Omega.{arith}
use mathlib.Core.Path.{ap}
use Rattle.lines.specs.declared.Due.{Due}
use Rattle.listing_state.specs.Pending.{lines_after, plan_in_hand, holding, state_net}
use Rattle.listing_state.specs.Parts.{plan_length}
use Rattle.listing.proofs.Turns.{turned_none, turned-next, turned-last}
use Rattle.listing.proofs.turned.Goals as goal

pub returns-then-l-plan_length-clause-turned : goal.returns-then-l-plan_length-clause-turned
returns-then-l-plan_length-clause-turned c =
    let l = holding c.args.l c.args.setting.now in turned_none (state_net l c.args.kinds.now c.args.a.now c.args.b.now) l c.requires.setting_len _ c.in-Plan.is (omega (arith, c.if-l-plan_length.true, c.plan_length.ensures, ap plan_length c.requires.g_value))

pub returns-else-l-plan_length-clause-turned : goal.returns-else-l-plan_length-clause-turned
returns-else-l-plan_length-clause-turned c =
    let l = holding c.args.l c.args.setting.now in turned-next (state_net l c.args.kinds.now c.args.a.now c.args.b.now) l c.requires.setting_len _ (holding c.line_after.result.line c.line_after.new.setting) c.in-Plan.is
    (omega (arith, c.if-l-plan_length.false, c.plan_length.ensures, ap plan_length c.requires.g_value)) c.line_after.ensures.line_after

pub returns-in-More-clause-turned : goal.returns-in-More-clause-turned
returns-in-More-clause-turned c =
    let l = holding c.args.l c.args.setting.now in
    let N = state_net l c.args.kinds.now c.args.a.now c.args.b.now in turned-last N l (ap (λ (d : Due). lines_after N d (plan_in_hand N l)) c.in-More.is)

pub returns-in-End-clause-turned : goal.returns-in-End-clause-turned
returns-in-End-clause-turned c =
    let l = holding c.args.l c.args.setting.now in
    let N = state_net l c.args.kinds.now c.args.a.now c.args.b.now in turned-last N l (ap (λ (d : Due). lines_after N d (plan_in_hand N l)) c.in-End.is)

pub returns-in-Refused-clause-turned : goal.returns-in-Refused-clause-turned
returns-in-Refused-clause-turned c =
    let l = holding c.args.l c.args.setting.now in
    let N = state_net l c.args.kinds.now c.args.a.now c.args.b.now in turned-last N l (ap (λ (d : Due). lines_after N d (plan_in_hand N l)) c.in-Refused.is)
