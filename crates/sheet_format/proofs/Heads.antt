-- The head of a sheet: its number.
-- Assumes nothing.
use Rattle.network.specs.declared.Refusal.{Refusal}
use Rattle.std.specs.Prelude.{Err, Ok, Result}
use Prim.Native.Nat.{ℕ}
use mathlib.Core.Path.{◌≡◌, sym, subst, ◌∙◌}
use mathlib.Core.List.{List}
use lib.ListN.{length, take, drop}
use borrow.Author.Tests.{eq-eqb, ne_eqb}
use Rattle.network.specs.declared.Refusal.TheVariants.{BadSetting}
use Rattle.lists.specs.Words.{word_of}
use Rattle.file_records.specs.Records.{take_record, taken_answer}
use Rattle.sheet_format.specs.Readings.{plan_head_due, read_gates, read_records}
use Rattle.sheet_format.specs.Answers.{Held}
use Rattle.sheet_format.proofs.Steps.{sheet-head-at}
use Rattle.sheet_format.proofs.Scan.{held-refused}

module _ (gs f : List ℕ) (k : ℕ) (e : taken_answer (take_record plan_head_due f) ≡ Ok k) (n : ℕ) (w : n ≡ word_of (take 2 (drop 1 f))) where
  pub head-wrong : (held : List ℕ) → (n ≡ length gs → ⊥) → Held (read_records gs f) (Err BadSetting) held
  head-wrong held d = held-refused BadSetting held ((sheet-head-at gs f k e).next ∙ rw (← w, ne_eqb n (length gs) d))

  pub head-right : (r : Result ℕ Refusal) (held : List ℕ) → n ≡ length gs → Held (read_gates gs (drop 3 f)) r held → Held (read_records gs f) r held
  head-right r held d h =
      let goes : read_records gs f ≡ read_gates gs (drop 3 f) = (sheet-head-at gs f k e).next ∙ rw (← w, eq-eqb n (length gs) d) in
      subst (λ x. Held x r held) (sym goes) h
