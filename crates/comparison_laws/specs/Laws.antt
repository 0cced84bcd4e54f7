-- The laws of two plan sheets laid side by side, as the calls are held to them.
-- Assumes nothing.
use Rattle.std.specs.Prelude.{ℕ, ◌≡◌, true, List}
use Rattle.std.specs.Borrow.{Bor}
use Rattle.network.specs.Networks.{Network}
use Rattle.sheet_order.specs.Orders.{sheet_order, differ}
use Rattle.sheet_order.specs.Parts.{differing_record, PartFrom}
use Rattle.sheet_order.specs.Calls.{Ordered}
use Rattle.sheet_order.specs.Laws.{Exchanged, EqualExactly, PartShown}
use Rattle.comparison_laws.specs.declared.Orders.{Orders}

-- The orders of the sheets f and g as they were lent, and exchanged.
pub record BothWays (N : Network) (f g : List ℕ) (r : Orders) : Type 0 where
  pub forth-told : Ordered N f g r.forth
  pub back-told : Ordered N g f r.back
  pub exchange : Exchanged r.forth r.back
  pub equal : EqualExactly f g r.forth

-- The part that is handed back, by its place in the lent sheets, and what it says.
pub record PartOfTwo (N : Network) (first second r : Bor (List ℕ)) : Type 0 where
  pub part : PartFrom (differing_record N first.now second.now) (sheet_order N first.now second.now) first second r
  pub says : PartShown N first.now second.now (sheet_order N first.now second.now) r.now

-- The part that the sheets exchanged hand back is, where they differ, the part of the sheets as they were lent.
abbrev pub PartOfExchanged : Network → Bor (List ℕ) → Bor (List ℕ) → Bor (List ℕ) → Type 0
PartOfExchanged N first second r =
    differ (sheet_order N first.now second.now) ≡ true
    → PartFrom (differing_record N first.now second.now) (sheet_order N first.now second.now) first second r
