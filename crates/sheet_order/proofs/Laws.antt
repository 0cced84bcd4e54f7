-- The laws of the order of two plan sheets and of the part, from what is told of them: so they hold of the calls on rows and on records alike.
-- Assumes nothing.
use Rattle.std.specs.declared.cmp.Ordering.{Ordering}
use Rattle.network.specs.declared.Refusal.{Refusal}
use Rattle.std.specs.declared.cmp.Ordering.TheVariants.{Equal, Greater, Less}
use Rattle.std.specs.Prelude.{Ok, Err, Result}
use Prim.Native.Nat.{ℕ, ◌-◌}
use native.Mathlib.Omega.{arith}
use mathlib.Core.Path.{◌≡◌, refl, sym, ap, subst, ◌∙◌}
use mathlib.Core.Bool.{true, true≢false}
use mathlib.Core.List.{List}
use lib.ListN.{length, take, drop, take-append-drop, drop_of_length-le}
use lib.Pow.{are_bytes}
use denote.Ref.{Bor}
use borrow.Author.Rules.{part_to_end}
use Rattle.network.specs.Networks.{Network}
use Rattle.sheet_format.specs.Sheets.{sheet_of}
use Rattle.sheet_format.specs.Readings.{read_sheet}
use Rattle.sheet_format.specs.Answers.{setting_read}
use Rattle.sheet_format.proofs.Sheets.{read-inj}
use Rattle.sheet_order.specs.declared.Parting.{Parting}
use Rattle.sheet_order.specs.Orders.{setting_order, sheet_order, order_number, differ, exchanged}
use Rattle.sheet_order.specs.Parts.{common_prefix, record_place, differing_record, Part, PartFrom}
use Rattle.sheet_order.specs.Calls.{Ordered, Compared}
use Rattle.sheet_order.specs.Laws.{Exchanged, EqualExactly, SamePart, Shown, PartShown}
use Rattle.sheet_order.proofs.Prefixes.{prefix-sym, prefix-shared}
use Rattle.sheet_order.proofs.Sheets.{order-refl, order-exchanged, equal-settings, sheets-apart}
use Rattle.sheet_order.proofs.Orders.{no_number, BothRead, read-order, both-alongside, first-sheet, second-sheet, Told, told-refused, told-read, told_of, reads-swapped, exchanged-first, gate-said, record-place}

-- ---- exchanged

exchange-forth : (N : Network) (f g : List ℕ) {o : Result Ordering Refusal} → Told N f g o → order_number o ≡ 0 → sheet_order N g f ≡ exchanged o
exchange-forth N f g (told-refused r) z = no_number r z
exchange-forth N f g (told-read s t b) z = read-order N g f (reads-swapped b) ∙ ap Ok (order-exchanged s t)

-- Exchanging two sheets exchanges their order, but for refusals.
pub exchange : (N : Network) (f g : List ℕ) {o o' : Result Ordering Refusal} → Ordered N f g o → Ordered N g f o' → Exchanged o o'
exchange N f g p q =
    record {
      forth = λ z. q.order ∙ exchange-forth N f g (told_of p) z;
      back = λ z. p.order ∙ exchange-forth N g f (told_of q) z;
    }

-- ---- equal

equal-same : (N : Network) (f g : List ℕ) → are_bytes f ≡ true → are_bytes g ≡ true → {o : Result Ordering Refusal} → Told N f g o → o ≡ Ok Equal → f ≡ g
equal-same N f g bf bg (told-refused r) e = absurd (true≢false (cc))
equal-same N f g bf bg (told-read s t b) e =
    let same : setting_order s t ≡ Equal = cc in
    first-sheet N f g b bf bg ∙ ap (sheet_of N) (equal-settings (both-alongside N f g b) same) ∙ sym (second-sheet N f g b bf bg)

same-equal : (N : Network) (f : List ℕ) {o : Result Ordering Refusal} → Told N f f o → order_number o ≡ 0 → o ≡ Ok Equal
same-equal N f (told-refused r) z = no_number r z
same-equal N f (told-read s t b) z = ap Ok (ap (setting_order s) (read-inj s t (sym b.first_says ∙ b.second-says)) ∙ order-refl s)

-- Two sheets that are read are equal exactly if they are the same bytes.
pub equal-exactly : (N : Network) (f g : List ℕ) → are_bytes f ≡ true → are_bytes g ≡ true → {o : Result Ordering Refusal} → Ordered N f g o → EqualExactly f g o
equal-exactly N f g bf bg {o} p =
    record {
      same = equal-same N f g bf bg (told_of p);
      equal = λ z e. same-equal N f (subst (λ x. Told N f x o) (sym e) (told_of p)) z;
    }

-- ---- the part

-- the earlier sheet first, and the bytes from record k to its end
shown :
    (N : Network) (f g : List ℕ) → are_bytes f ≡ true → are_bytes g ≡ true → {s t : List ℕ} → BothRead N f g s t → setting_order s t ≡ Less
    → {k : ℕ} → k ≡ common_prefix s t → {part : List ℕ} → part ≡ drop (record_place k) f → Shown N f g part k
shown N f g bf bg {s} {t} b e {k} q {part} h =
    let a = sheets-apart (both-alongside N f g b) e in
    rw (h, q) (record {
      shared = subst (λ n. take n f ≡ take n g) (record-place N f g bf bg b e) (prefix-shared f g);
      whole = take-append-drop (record_place (common_prefix s t)) f;
      drawn = ap (λ x. take 3 (drop (record_place (common_prefix s t)) x)) (first-sheet N f g b bf bg) ∙ a.early;
      turned = ap (λ x. take 3 (drop (record_place (common_prefix s t)) x)) (second-sheet N f g b bf bg) ∙ a.late;
      gate = a.gate;
    })

-- what a part to the end of a sheet holds
to_end : {s r : Bor (List ℕ)} {k to : ℕ} → Part s k to r → to ≡ length s.now → r.now ≡ drop k s.now
to_end {s} {r} {k} p e = p.bytes ∙ ap (λ n. take (n - k) (drop k s.now)) e ∙ part_to_end s.now k

module _ (N : Network) (first second r : Bor (List ℕ)) (bf : are_bytes first.now ≡ true) (bg : are_bytes second.now ≡ true) where
  abbrev Stands : Result Ordering Refusal → Type 0
  Stands o = PartFrom (differing_record N first.now second.now) o first second r → PartShown N first.now second.now o r.now

  part-read : {s t : List ℕ} → BothRead N first.now second.now s t → (o : Ordering) → setting_order s t ≡ o → Stands (Ok o)
  part-read b Equal e p = to_end p (omega arith) ∙ drop_of_length-le first.now {i = length first.now} (omega arith)
  part-read b Less e p = shown N first.now second.now bf bg b e (gate-said b) (to_end p (omega arith))
  part-read {s} {t} b Greater e p = shown N second.now first.now bg bf (reads-swapped b) (exchanged-first s t e) (gate-said b ∙ prefix-sym s t) (to_end p (omega arith))

  part-told : {o : Result Ordering Refusal} → Told N first.now second.now o → Stands o
  part-told (told-refused x) p = p.bytes
  part-told (told-read s t b) p = part-read b (setting_order s t) refl p

-- What is handed back: behind the bytes that both sheets share the earlier sheet, as drawn where the later one is turned.
pub part-shown :
    (N : Network) (first second : Bor (List ℕ)) → are_bytes first.now ≡ true → are_bytes second.now ≡ true → {x : Parting} → Compared N first second x
    → PartShown N first.now second.now x.order x.part.now
part-shown N first second bf bg {x} c =
    part-told N first second x.part bf bg (told_of c.ordered) c.part

-- ---- exchanged, the same part

differ-number : (o : Result Ordering Refusal) → differ o ≡ true → order_number o ≡ 0
differ-number (Err x) d = absurd (true≢false (sym d))
differ-number (Ok Equal) d = refl
differ-number (Ok Less) d = refl
differ-number (Ok Greater) d = refl

part-once : {s r r' : Bor (List ℕ)} {k to : ℕ} → Part s k to r → Part s k to r' → SamePart r r'
part-once p q = record { block = p.block ∙ sym q.block; place = p.place ∙ sym q.place; bytes = p.bytes ∙ sym q.bytes }

module _ (k : ℕ) (first second : Bor (List ℕ)) where
  part-back : (r : Bor (List ℕ)) (o : Result Ordering Refusal) → differ o ≡ true → PartFrom k (exchanged o) second first r → PartFrom k o first second r
  part-back r (Err x) d p = absurd (true≢false (sym d))
  part-back r (Ok Equal) d p = absurd (true≢false (sym d))
  part-back r (Ok Less) d p = p
  part-back r (Ok Greater) d p = p

  one-part : (r r' : Bor (List ℕ)) (o : Result Ordering Refusal) → differ o ≡ true → PartFrom k o first second r → PartFrom k o first second r' → SamePart r r'
  one-part r r' (Err x) d p q = absurd (true≢false (sym d))
  one-part r r' (Ok Equal) d p q = absurd (true≢false (sym d))
  one-part r r' (Ok Less) d p q = part-once p q
  one-part r r' (Ok Greater) d p q = part-once p q

module _ (N : Network) (first second : Bor (List ℕ)) where
  abbrev at : ℕ
  at = differing_record N first.now second.now

  same_place : differing_record N second.now first.now ≡ at
  same_place = ap record_place (prefix-sym (setting_read (read_sheet N second.now)) (setting_read (read_sheet N first.now)))

  -- Where two sheets differ, the part that they hand back exchanged is theirs as they were lent.
  pub part-exchanged : {y : Parting} → Compared N second first y → {o : Result Ordering Refusal} → Ordered N first.now second.now o → differ o ≡ true → PartFrom at o first second y.part
  part-exchanged {y} c {o} p d =
      let turned : y.order ≡ exchanged o = (exchange N first.now second.now p c.ordered).forth (differ-number o d) in
      part-back at first second y.part o d
      (subst (λ k. PartFrom k (exchanged o) second first y.part) same_place (subst (λ o. PartFrom (differing_record N second.now first.now) o second first y.part) turned c.part))

  -- So the two are one part.
  pub same-part : {x y : Parting} → Compared N first second x → Compared N second first y → differ x.order ≡ true → SamePart x.part y.part
  same-part {x} {y} c c' d = one-part at first second x.part y.part x.order d c.part (part-exchanged c' c.ordered d)
