-- What the calls that compare two sheets answer.
-- Assumes nothing.
use Rattle.std.specs.declared.cmp.Ordering.{Ordering}
use Rattle.network.specs.declared.Refusal.{Refusal}
use Rattle.std.specs.Prelude.{ℕ, ◌≡◌, true, List, Result}
use Rattle.std.specs.Borrow.{Bor}
use Rattle.network.specs.Networks.{Network}
use Rattle.sheet_format.specs.Readings.{read_sheet}
use Rattle.sheet_format.specs.Answers.{sheet_reading_number}
use Rattle.sheet_order.specs.declared.Parting.{Parting}
use Rattle.sheet_order.specs.Orders.{sheet_order, order_number, first_number, differ}
use Rattle.sheet_order.specs.Parts.{common_prefix, differing_record, PartFrom}

-- The order that is told of the sheets f and g, and its number.
pub record Ordered (N : Network) (f g : List ℕ) (r : Result Ordering Refusal) : Type 0 where
  pub order : r ≡ sheet_order N f g
  pub number : order_number r ≡ first_number (sheet_reading_number (read_sheet N f)) (sheet_reading_number (read_sheet N g))

-- The same, and that the first byte in which the sheets differ is the first of the first differing record: so `part` begins there.
pub record OrderedAt (N : Network) (f g : List ℕ) (r : Result Ordering Refusal) : Type 0 where
  pub ordered : Ordered N f g r
  pub place : differ r ≡ true → common_prefix f g ≡ differing_record N f g

-- The reply to two lent sheets: the order, its number, and the part, which lies in the earlier sheet itself.
pub record Compared (N : Network) (first second : Bor (List ℕ)) (r : Parting) : Type 0 where
  pub ordered : Ordered N first.now second.now r.order
  pub part : PartFrom (differing_record N first.now second.now) r.order first second r.part
