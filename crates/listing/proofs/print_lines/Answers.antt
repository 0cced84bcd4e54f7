-- `listing::print_lines` meets its contract. The loop's invariant is `Printing`, and that the working memory stands where it is known to. The measure is what is
-- left of the buffer.
-- Assumes nothing.
use Prim.Native.Nat.{ℕ}
use native.Mathlib.Omega.{arith}
use mathlib.Core.Path.{subst, ◌∙◌}
use lib.ListN.{take}
use Rattle.listing_state.specs.Pending.{holding}
use Rattle.listing.specs.Keeping.{Kept}
use Rattle.lists.proofs.Lists.{copied-length}
use Rattle.listing.proofs.Fills.{Printing, turned-here, print-turn, place_short, print-more, print-end}
use Rattle.listing.proofs.print_lines.Goals as goal

pub returns-then-k-eq0 : goal.returns-then-k-eq0
returns-then-k-eq0 c =
    let turn : Printing (holding c.args.l c.args.setting.now) c.args.kinds.now c.args.a.now c.args.b.now c.args.out.now c.loop-n.out (holding c.turned-turn.result.line c.turned-turn.new.setting) c.loop-n.n = print-turn _ _ _ _ _ _ _ _ c.loop-n.invariant.0 c.turned-turn.ensures.turned in
    print-end _ _ _ _ _ _ _ _ (turn) c.requires.g_value c.put_line-k.ensures
    (omega (arith, c.loop-n-test.true, copied-length c.loop-n.invariant.0.laid)) c.if-k-eq0.true (turned-here _ _ _ _ _ _ _ _ c.loop-n.invariant.0 c.turned-turn.ensures.turned).ended

pub overflow_add-line : goal.overflow_add-line
overflow_add-line c =
    let turn : Printing (holding c.args.l c.args.setting.now) c.args.kinds.now c.args.a.now c.args.b.now c.args.out.now c.loop-n.out (holding c.turned-turn.result.line c.turned-turn.new.setting) c.loop-n.n = print-turn _ _ _ _ _ _ _ _ c.loop-n.invariant.0 c.turned-turn.ensures.turned in
    omega (arith, c.requires.g_value, place_short _ _ _ _ _ _ _ _ (turn) c.requires.g_value c.put_line-k.ensures c.if-k-eq0.false)

pub loop-n-preserved : goal.loop-n-preserved
loop-n-preserved c =
    let turn : Printing (holding c.args.l c.args.setting.now) c.args.kinds.now c.args.a.now c.args.b.now c.args.out.now c.loop-n.out (holding c.turned-turn.result.line c.turned-turn.new.setting) c.loop-n.n = print-turn _ _ _ _ _ _ _ _ c.loop-n.invariant.0 c.turned-turn.ensures.turned in (
      print-more _ _ _ _ _ _ _ _ (turn) c.requires.g_value c.put_line-k.ensures,
      subst (λ (m : ℕ). Kept m c.args.kinds.now c.turned-turn.new.tried c.args.a.now c.args.b.now c.turned-turn.result.line.due (take c.args.g c.turned-turn.new.setting) c.turned-turn.new.under c.turned-turn.new.ways c.args.head.now c.args.next.now c.args.standing) c.loop-n.invariant.0.basins-kept c.turned-turn.ensures.kept_2,
      c.turned-turn.auto.tried ∙ c.loop-n.invariant.2,
      c.turned-turn.auto.under ∙ c.loop-n.invariant.3,
      c.turned-turn.auto.ways ∙ c.loop-n.invariant.4,
      c.turned-turn.auto.setting ∙ c.loop-n.invariant.5,
    )
