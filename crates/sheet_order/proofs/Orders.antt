-- What two sheets are read as, and so their order: a refusal, or the order of two settings of one network; and where the part begins.
-- Assumes nothing.
use Rattle.std.specs.declared.cmp.Ordering.{Ordering}
use Rattle.std.specs.declared.cmp.Ordering.TheVariants.{Equal, Greater, Less}
use Rattle.std.specs.Prelude.{Ok, Err, Result}
use Prim.Native.Nat.{ℕ, zero, suc}
use mathlib.Core.Path.{◌≡◌, refl, sym, ap, subst, ◌∙◌}
use mathlib.Core.Bool.{true, false, true≢false}
use mathlib.Core.List.{List}
use lib.Dec.{eqb}
use borrow.Author.Tests.{eqb-false}
use lib.Pow.{are_bytes}
use denote.Ref.{Bor}
use Rattle.std.specs.Ordering.{ordering_reverse}
use Rattle.network.specs.declared.Refusal.{Refusal}
use Rattle.network.specs.Replies.{refusal_number}
use Rattle.network.proofs.Replies.{refusal-number}
use Rattle.network.specs.Networks.{Network}
use Rattle.network.specs.Settings.{gates}
use Rattle.sheet_format.specs.Sheets.{sheet_of}
use Rattle.sheet_format.specs.Readings.{SheetReading, sheet_refused, sheet_says, read_sheet}
use Rattle.sheet_format.specs.Answers.{sheet_reading_number}
use Rattle.sheet_format.proofs.Sheets.{plan-long, plan-bits, read-is-plan, sheet-write-read}
use Rattle.sheet_order.specs.Orders.{setting_order, reading_order, sheet_order, order_number, first_number, differ}
use Rattle.sheet_order.specs.Parts.{common_prefix, record_place, differing_gate, differing_record, PartFrom}
use Rattle.sheet_order.specs.Calls.{Ordered, OrderedAt, Compared}
use Rattle.sheet_order.proofs.Prefixes.{prefix-sym}
use Rattle.sheet_order.proofs.Sheets.{order-exchanged, Alongside, alongside, order-sheets, sheets-apart}

-- a refusal has a number of its own, and is told before any other
pub no_number {ℓ} : {A : Type ℓ} (r : Refusal) → refusal_number r ≡ 0 → A
no_number r z = absurd (eqb-false (refusal_number r) 0 (refusal-number r) z)

first-number : (m n : ℕ) → eqb m 0 ≡ false → first_number m n ≡ m
first-number zero n h = absurd (true≢false h)
first-number (suc m) n h = refl

reading-number : (x y : SheetReading) → order_number (reading_order x y) ≡ first_number (sheet_reading_number x) (sheet_reading_number y)
reading-number (sheet_refused r) y = sym (first-number (refusal_number r) (sheet_reading_number y) (refusal-number r))
reading-number (sheet_says s) (sheet_refused r) = refl
reading-number (sheet_says s) (sheet_says t) = refl

-- both sheets are read
pub record BothRead (N : Network) (f g s t : List ℕ) : Type 0 where
  pub first_says : read_sheet N f ≡ sheet_says s
  pub second-says : read_sheet N g ≡ sheet_says t

module _ (N : Network) (f g : List ℕ) where
  pub ordered : {r : Result Ordering Refusal} → r ≡ sheet_order N f g → Ordered N f g r
  unfolding sheet_order
  ordered e = record { order = e; number = ap order_number e ∙ reading-number (read_sheet N f) (read_sheet N g) }

  pub refused-first : {r : Refusal} → read_sheet N f ≡ sheet_refused r → Ordered N f g (Err r)
  unfolding sheet_order
  refused-first e = ordered (rw e)

  pub refused-second : {s : List ℕ} {r : Refusal} → read_sheet N f ≡ sheet_says s → read_sheet N g ≡ sheet_refused r → Ordered N f g (Err r)
  unfolding sheet_order
  refused-second e h = ordered (rw (e, h))

  -- what two sheets that are read come to
  module _ {s t : List ℕ} (b : BothRead N f g s t) where
    pub read-order : sheet_order N f g ≡ Ok (setting_order s t)
    unfolding sheet_order
    read-order = rw (b.first_says, b.second-says)

    pub both-alongside : Alongside (gates N) s t
    both-alongside =
        let p = read-is-plan N f s b.first_says in
        let q = read-is-plan N g t b.second-says in
        alongside (gates N) s t (plan-long N s p) (plan-long N t q) (plan-bits N s p) (plan-bits N t q)

    module _ (bf : are_bytes f ≡ true) (bg : are_bytes g ≡ true) where
      pub first-sheet : f ≡ sheet_of N s
      first-sheet = sheet-write-read N f s bf b.first_says

      pub second-sheet : g ≡ sheet_of N t
      second-sheet = sheet-write-read N g t bg b.second-says

      bytes-order : setting_order f g ≡ setting_order s t
      bytes-order = rw (first-sheet, second-sheet) (order-sheets both-alongside)

  pub both_read : are_bytes f ≡ true → are_bytes g ≡ true → {s t : List ℕ} → BothRead N f g s t → {r : Result Ordering Refusal} → r ≡ Ok (setting_order f g) → Ordered N f g r
  both_read bf bg b q = ordered (q ∙ ap Ok (bytes-order b bf bg) ∙ sym (read-order b))

-- ---- an order that was told: a refusal, or that of two sheets that are read

pub data Told (N : Network) (f g : List ℕ) : Result Ordering Refusal → Type 0 where
  told-refused : (r : Refusal) → Told N f g (Err r)
  told-read : (s t : List ℕ) → BothRead N f g s t → Told N f g (Ok (setting_order s t))

told : (N : Network) (f g : List ℕ) → Told N f g (sheet_order N f g)
unfolding sheet_order
told N f g = go (read_sheet N f) refl (read_sheet N g) refl
  where
    go : (x : SheetReading) → read_sheet N f ≡ x → (y : SheetReading) → read_sheet N g ≡ y → Told N f g (reading_order x y)
    go (sheet_refused r) e y h = told-refused r
    go (sheet_says s) e (sheet_refused r) h = told-refused r
    go (sheet_says s) e (sheet_says t) h = told-read s t (record { first_says = e; second-says = h })

pub told_of : {N : Network} {f g : List ℕ} {o : Result Ordering Refusal} → Ordered N f g o → Told N f g o
told_of {N} {f} {g} p = subst (Told N f g) (sym p.order) (told N f g)

-- ---- where the part begins

pub reads-swapped : {N : Network} {f g s t : List ℕ} → BothRead N f g s t → BothRead N g f t s
reads-swapped b = record { first_says = b.second-says; second-says = b.first_says }

pub exchanged-first : (s t : List ℕ) → setting_order s t ≡ Greater → setting_order t s ≡ Less
exchanged-first s t e = order-exchanged s t ∙ ap ordering_reverse e

pub gate-said : {N : Network} {f g s t : List ℕ} → BothRead N f g s t → differing_gate N f g ≡ common_prefix s t
gate-said b = rw (b.first_says, b.second-says)

-- the earlier sheet first
pub record-place : (N : Network) (f g : List ℕ) → are_bytes f ≡ true → are_bytes g ≡ true → {s t : List ℕ} → BothRead N f g s t → setting_order s t ≡ Less → common_prefix f g ≡ record_place (common_prefix s t)
record-place N f g bf bg {s} {t} b e =
    ap (λ x. common_prefix x g) (first-sheet N f g b bf bg) ∙ ap (common_prefix (sheet_of N s)) (second-sheet N f g b bf bg) ∙ (sheets-apart (both-alongside N f g b) e).place

module _ (N : Network) (f g : List ℕ) (bf : are_bytes f ≡ true) (bg : are_bytes g ≡ true) where
  -- Where two sheets that are read differ, the first byte that differs is the first of the first differing record.
  module _ {s t : List ℕ} (b : BothRead N f g s t) where
    place-first : setting_order s t ≡ Less → common_prefix f g ≡ differing_record N f g
    place-first e = record-place N f g bf bg b e ∙ ap record_place (sym (gate-said b))

    place-second : setting_order s t ≡ Greater → common_prefix f g ≡ differing_record N f g
    place-second e =
        prefix-sym f g ∙ record-place N g f bg bf (reads-swapped b) (exchanged-first s t e) ∙ ap record_place (prefix-sym t s ∙ sym (gate-said b))

    place_read : (o : Ordering) → setting_order s t ≡ o → differ (Ok o) ≡ true → common_prefix f g ≡ differing_record N f g
    place_read Equal e d = absurd (true≢false (sym d))
    place_read Less e d = place-first e
    place_read Greater e d = place-second e

  place-told : {o : Result Ordering Refusal} → Told N f g o → differ o ≡ true → common_prefix f g ≡ differing_record N f g
  place-told (told-refused r) d = absurd (true≢false (sym d))
  place-told (told-read s t b) d = place_read b (setting_order s t) refl d

  pub ordered_at : {r : Result Ordering Refusal} → Ordered N f g r → OrderedAt N f g r
  ordered_at o = record { ordered = o; place = place-told (told_of o) }

-- a part from one place is one from another, where that is the same in sheets that differ
part_moved :
    {k k' : ℕ} (first second r : Bor (List ℕ)) (o : Result Ordering Refusal) → (differ o ≡ true → k ≡ k') → PartFrom k o first second r → PartFrom k' o first second r
part_moved first second r (Err x) e p = p
part_moved first second r (Ok Equal) e p = p
part_moved first second r (Ok Less) e p = subst (λ k. PartFrom k (Ok Less) first second r) (e refl) p
part_moved first second r (Ok Greater) e p = subst (λ k. PartFrom k (Ok Greater) first second r) (e refl) p

-- The order of two lent sheets, and the part from the first byte that differs: the reply.
pub compared :
    (N : Network) (first second : Bor (List ℕ)) {o : Result Ordering Refusal} {r : Bor (List ℕ)} → OrderedAt N first.now second.now o
    → PartFrom (common_prefix first.now second.now) o first second r → Compared N first second (record { order = o; part = r })
compared N first second {o} {r} a p = record { ordered = a.ordered; part = part_moved first second r o a.place p }
