-- `bits` meets its contract: what `all` answers is the test of every byte.
-- Assumes nothing.
use Prim.Native.Nat.{ℕ}
use mathlib.Core.Path.{refl}
use lib.Dec.{leb}
use Rattle.std.proofs.Common.{rules}
use Rattle.std.proofs.lemmas.List.Recursion.{and_is}
use Rattle.lists.specs.Lists.{every}
use Rattle.tables.proofs.bits.Goals as goal

pub returns : goal.returns
returns c =
    let small = λ (x : ℕ). leb x 1 in
    and_is (every small) small refl (λ _ _. refl) c.args.setting.now 0 c.all.result (search rules) (search rules)
