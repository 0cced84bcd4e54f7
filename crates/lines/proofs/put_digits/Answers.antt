-- `lines::put_digits` meets its contract: one character more.
-- Assumes nothing.
use Prim.Native.Nat.{◌<◌}
use native.Mathlib.Omega.{arith}
use mathlib.Core.Path.{sym, ap, ◌∙◌}
use lib.ListN.{length-take, length-map}
use Rattle.std.proofs.lemmas.List.{get_or-take, get_or-map}
use Rattle.lines.specs.Listings.{character}
use Rattle.lists.proofs.Lists.{copied_more}
use Rattle.lines.proofs.put_digits.Goals as goal

pub loop-i-preserved : goal.loop-i-preserved
loop-i-preserved c =
    let in-part : c.loop-i.i < c.least-n.result = omega (arith, length-take c.least-n.result c.args.setting.now) in
    copied_more c.loop-i.invariant (omega (arith, length-map c.args.setting.now character)) (omega arith) _
    (c.digit.ensures ∙ ap character (get_or-take c.least-n.result c.args.setting.now c.loop-i.i 0 (omega arith)) ∙ sym (get_or-map character c.args.setting.now c.loop-i.i 0 0 (omega arith)))
