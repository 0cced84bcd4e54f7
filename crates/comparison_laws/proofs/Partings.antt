-- The order of two sheets and then the part, by what the two calls promise.
-- Assumes nothing.
use Rattle.std.specs.declared.cmp.Ordering.{Ordering}
use Rattle.network.specs.declared.Refusal.{Refusal}
use Rattle.std.specs.Prelude.{Result}
use Prim.Native.Nat.{ℕ}
use mathlib.Core.Path.{◌≡◌, refl, subst}
use mathlib.Core.Bool.{true}
use mathlib.Core.List.{List}
use lib.Pow.{are_bytes}
use denote.Ref.{Bor}
use Rattle.network.specs.Networks.{Network}
use Rattle.sheet_order.specs.declared.Parting.{Parting}
use Rattle.sheet_order.specs.Parts.{common_prefix, differing_record, PartFrom}
use Rattle.sheet_order.specs.Laws.{PartShown}
use Rattle.sheet_order.specs.Calls.{Ordered, Compared}
use Rattle.sheet_order.proofs.Orders.{ordered, ordered_at, compared}
use Rattle.sheet_order.proofs.Laws.{part-shown, part-exchanged}
use Rattle.comparison_laws.specs.Laws.{PartOfTwo, PartOfExchanged}

-- the two calls together reply as the one over records does
pub parted :
    (N : Network) (first second : Bor (List ℕ)) → are_bytes first.now ≡ true → are_bytes second.now ≡ true → {o : Result Ordering Refusal} {r : Bor (List ℕ)}
    → Ordered N first.now second.now o → PartFrom (common_prefix first.now second.now) o first second r → Compared N first second (record { order = o; part = r })
parted N first second bf bg told p = compared N first second (ordered_at N first.now second.now bf bg told) p

pub of_two :
    (N : Network) (first second : Bor (List ℕ)) → are_bytes first.now ≡ true → are_bytes second.now ≡ true → {x : Parting} → Compared N first second x
    → PartOfTwo N first second x.part
of_two N first second bf bg {x} c =
    record {
      part = subst (λ o. PartFrom (differing_record N first.now second.now) o first second x.part) c.ordered.order c.part;
      says = subst (λ o. PartShown N first.now second.now o x.part.now) c.ordered.order (part-shown N first second bf bg c);
    }

pub of-exchanged : (N : Network) (first second : Bor (List ℕ)) {y : Parting} → Compared N second first y → PartOfExchanged N first second y.part
of-exchanged N first second c d = part-exchanged N first second c (ordered N first.now second.now refl) d
