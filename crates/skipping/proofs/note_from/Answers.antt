-- `skipping::note_from` meets its contract: what is not tried stays bound, reach by reach.
-- Assumes nothing.
use native.Mathlib.Omega.{arith}
use mathlib.Core.Path.{◌∙◌}
use Rattle.lists.proofs.Lists.{get_d_any}
use Rattle.orienting.proofs.Readies.{ready-ways, ready-notes}
use Rattle.skipping.proofs.Skips.{noted-on}
use Rattle.skipping.proofs.note_from.Goals as goal

pub loop-i-preserved : goal.loop-i-preserved
loop-i-preserved c = (
  ready-notes _ _ (ready-ways _ c.loop-i.invariant.0 c.note_at.auto.loose) c.note_at.auto.seen c.note_at.auto.queue,
  (λ ks p o h f.
      noted-on c.loop-i.i _ h (omega (arith, c.loop-i-test.true, c.requires.to_in_bounds))
      (get_d_any c.args.ways.now c.loop-i.i 0 3 (omega (arith, c.loop-i-test.true, c.requires.ways_len, c.requires.to_in_bounds))) (c.loop-i.invariant.1 ks p o h f) c.note_at.ensures),
  c.note_at.auto.tried ∙ c.loop-i.invariant.2,
  c.note_at.auto.loose ∙ c.loop-i.invariant.3,
  c.note_at.auto.seen ∙ c.loop-i.invariant.4,
  c.note_at.auto.queue ∙ c.loop-i.invariant.5,
)
