-- The order of two plan sheets of one network. Document 02, item 5, its first half.
-- Assumes nothing.
use Rattle.std.specs.declared.cmp.Ordering.{Ordering}
use Rattle.network.specs.declared.Refusal.{Refusal}
use Rattle.std.specs.declared.cmp.Ordering.TheVariants.{Equal, Greater, Less}
use Rattle.std.specs.Prelude.{ℕ, zero, suc, Bool, true, false, cond, List, Ok, Err, Result}
use Rattle.std.specs.Ordering.{ordering_reverse}
use Rattle.network.specs.Networks.{Network}
use Rattle.network.specs.Settings.{before}
use Rattle.network.specs.Replies.{refusal_number}
use Rattle.sheet_format.specs.Readings.{SheetReading, sheet_refused, sheet_says, read_sheet}

-- Which of two settings is earlier, the first (`Less`) or the second (`Greater`), or that they are equal: 01's order of settings.
abbrev pub setting_order : List ℕ → List ℕ → Ordering
setting_order s t = cond (before s t) Less (cond (before t s) Greater Equal)

-- "Both sheets are read in full, the first sheet's refusal before the second's. The reply says which is earlier, or that they are equal": the order of
-- two plan sheets is that of the settings that they say.
abbrev pub reading_order : SheetReading → SheetReading → Result Ordering Refusal
reading_order (sheet_refused r) y = Err r
reading_order (sheet_says s) (sheet_refused r) = Err r
reading_order (sheet_says s) (sheet_says t) = Ok (setting_order s t)

-- The same of their bytes; 1, 2 and 3 of the table come before the sheets.
unfoldable pub sheet_order : Network → List ℕ → List ℕ → Result Ordering Refusal
sheet_order N f g = reading_order (read_sheet N f) (read_sheet N g)

-- Document 01's number of the answer, 0 where both sheets are read.
abbrev pub order_number : Result Ordering Refusal → ℕ
order_number (Err r) = refusal_number r
order_number (Ok o) = 0

-- The same by the numbers of the two readings: "the first sheet's refusal before the second's".
abbrev pub first_number : ℕ → ℕ → ℕ
first_number zero n = n
first_number (suc m) n = suc m

-- The two sheets differ: one of them is earlier.
abbrev pub differ : Result Ordering Refusal → Bool
differ (Err r) = false
differ (Ok Equal) = false
differ (Ok Less) = true
differ (Ok Greater) = true

-- The order of the two sheets exchanged, where both are read.
abbrev pub exchanged : Result Ordering Refusal → Result Ordering Refusal
exchanged (Err r) = Err r
exchanged (Ok o) = Ok (ordering_reverse o)
