-- `line_steps::asked` meets its contract: the line that the reply of next calls for.
-- Assumes nothing.
use mathlib.Core.Path.{refl}
use Rattle.listing_state.specs.Pending.{holding}
use Rattle.listing_state.proofs.States.{next-state}
use Rattle.line_steps.proofs.asked.Goals as goal

pub returns : goal.returns
returns c = next-state (holding c.args.l c.args.setting.now) c.args.kinds.now c.args.a.now c.args.b.now _ c.args.left c.requires.setting_len refl c.due_of-due.ensures c.requires.g_value c.copy_from_slice.ensures.after c.next_plan-answer.ensures
