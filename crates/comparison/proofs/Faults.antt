-- The order that is told of two sheets of a network that is refused by its table depends on the refusal only.
-- Assumes nothing.
use Rattle.std.specs.declared.cmp.Ordering.{Ordering}
use Rattle.std.specs.Prelude.{Err, Result}
use Prim.Native.Nat.{ℕ}
use mathlib.Core.Path.{◌≡◌, sym, subst, ◌∙◌}
use mathlib.Core.List.{List}
use mathlib.Core.Option.{some}
use Rattle.network.specs.declared.Refusal.{Refusal}
use Rattle.network.specs.Networks.{Network, table_fault}
use Rattle.sheet_format.specs.Readings.{read_sheet}
use Rattle.sheet_order.specs.Calls.{Ordered}
use Rattle.sheet_order.proofs.Orders.{refused-first}
use Rattle.packing.proofs.Packings.{ByTable}

refused-order : (N : Network) (f g : List ℕ) (x : Refusal) → table_fault N ≡ some x → Ordered N f g (Err x)
unfolding read_sheet
refused-order N f g x e = refused-first N f g (rw e)

pub order_alike : (f g : List ℕ) {r : Result Ordering Refusal} → ByTable (λ N. Ordered N f g r)
order_alike f g N N' x e e' o = subst (Ordered N' f g) ((refused-order N f g x e).order ∙ sym o.order) (refused-order N' f g x e')
