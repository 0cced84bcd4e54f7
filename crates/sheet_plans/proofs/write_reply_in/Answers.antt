-- `sheet_plans::write_reply_in` meets its contract: the planner's first plan, and then the sheet of what it gave.
-- Assumes nothing.
use Rattle.std.proofs.lemmas.Result.{err_from_is_err_and}
use Rattle.std.specs.Prelude.{Ok}
use mathlib.Core.Path.{ap, ◌∙◌}
use Rattle.network.specs.Networks.{Network}
use Rattle.tables.specs.Rows.{net_of}
use Rattle.replies.specs.declared.Verdict.TheVariants.{Plan}
use Rattle.sheet_plans.proofs.Replies.{reply-refused, reply-roomy, reply-put}
use Rattle.sheet_plans.proofs.write_reply_in.Goals as goal

pub write_first-requires : goal.write_first-requires
write_first-requires c =
    let net : Network = net_of c.args.basins c.args.kinds.now c.args.a.now c.args.b.now in
    reply-roomy (net) c.args.plan.now c.args.marks.now c.requires.plan_len c.requires.marks_len c.first_plan.new.plan c.first_plan.new.marks c.first_plan.result c.first_plan.ensures Plan
    (c.in_ok-reply.was ∙ ap (λ v. Ok (record { verdict = v })) c.in-Plan.is) c.first_plan.auto.plan

pub returns-in_err-reply : goal.returns-in_err-reply
returns-in_err-reply c =
    let p = err_from_is_err_and c.from_residual.result c.from_residual.ensures.1 in
    rw (p.1, p.2) (let net : Network = net_of c.args.basins c.args.kinds.now c.args.a.now c.args.b.now in reply-refused (net) c.args.plan.now c.args.marks.now c.requires.plan_len c.requires.marks_len c.first_plan.new.plan c.first_plan.new.marks c.first_plan.result c.first_plan.ensures c.args.out.now _ c.in_err-reply.was)

pub returns-in-Plan : goal.returns-in-Plan
returns-in-Plan c =
    let net : Network = net_of c.args.basins c.args.kinds.now c.args.a.now c.args.b.now in
    reply-put (net) c.args.plan.now c.args.marks.now c.requires.plan_len c.requires.marks_len c.first_plan.new.plan c.first_plan.new.marks c.first_plan.result c.first_plan.ensures Plan
    (c.in_ok-reply.was ∙ ap (λ v. Ok (record { verdict = v })) c.in-Plan.is) c.args.out.now c.write_first.result c.write_first.new.out c.write_first.ensures

pub returns-in-ShutIn : goal.returns-in-ShutIn
returns-in-ShutIn c =
    let net : Network = net_of c.args.basins c.args.kinds.now c.args.a.now c.args.b.now in
    reply-put (net) c.args.plan.now c.args.marks.now c.requires.plan_len c.requires.marks_len c.first_plan.new.plan c.first_plan.new.marks c.first_plan.result c.first_plan.ensures _
    (c.in_ok-reply.was ∙ ap (λ v. Ok (record { verdict = v })) c.in-ShutIn.is) c.args.out.now c.write_shut_in.result c.write_shut_in.new.out c.write_shut_in.ensures

pub returns-in-Lone : goal.returns-in-Lone
returns-in-Lone c =
    let net : Network = net_of c.args.basins c.args.kinds.now c.args.a.now c.args.b.now in
    reply-put (net) c.args.plan.now c.args.marks.now c.requires.plan_len c.requires.marks_len c.first_plan.new.plan c.first_plan.new.marks c.first_plan.result c.first_plan.ensures _
    (c.in_ok-reply.was ∙ ap (λ v. Ok (record { verdict = v })) c.in-Lone.is) c.args.out.now c.write_lone.result c.write_lone.new.out c.write_lone.ensures
