-- `lines::put_digits` meets its contract. The loop's invariant: the first i characters of the text stand at the front of the buffer.
-- Assumes nothing.
use mathlib.Core.List.{map}
use Rattle.lines.specs.Listings.{character}
use Rattle.lists.proofs.Lists.{Copied}
use Rattle.lines.proofs.put_digits.Given as goal

abbrev pub invariant-loop-i : goal.invariant-loop-i
invariant-loop-i l = Copied (map character l.setting) l.initial.out l.out l.i
