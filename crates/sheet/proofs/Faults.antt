-- What a sheet call promises to a network that is refused by its table depends on the refusal only.
-- Assumes nothing.
use Rattle.network.specs.declared.Refusal.{Refusal}
use Rattle.std.specs.Prelude.{Result}
use Prim.Native.Nat.{ℕ}
use mathlib.Core.Path.{◌≡◌, subst}
use mathlib.Core.List.{List}
use lib.ListN.{length}
use Rattle.file_records.proofs.Wrote.{wrote-alike}
use Rattle.sheet_format.specs.Readings.{SheetReading, read_sheet, sheet_with_room}
use Rattle.sheet_format.specs.Answers.{Got, SheetRead, SheetWritten, ReplyWritten}
use Rattle.packing.proofs.Packings.{ByTable}

pub read_alike : (sheet setting : List ℕ) {r : Result ℕ Refusal} {setting' : List ℕ} → ByTable (λ N. SheetRead N sheet setting r setting')
unfolding read_sheet
read_alike sheet setting {r} {setting'} N N' x e e' =
    let same : read_sheet N sheet ≡ read_sheet N' sheet = rw (e, e') in
    subst (λ (y : SheetReading). Got (sheet_with_room (length setting) y) setting r setting') same

pub write-alike : (setting out : List ℕ) {r : Result ℕ Refusal} {out' : List ℕ} → ByTable (λ N. SheetWritten N setting out r out')
write-alike setting out N N' x e e' = wrote-alike x (rw e) (rw e')

pub reply-alike : (out : List ℕ) {r : Result ℕ Refusal} {out' : List ℕ} → ByTable (λ N. ReplyWritten N out r out')
reply-alike out N N' x e e' = wrote-alike x (rw e) (rw e')
