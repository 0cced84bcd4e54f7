-- A refusal writes nothing, whatever was to be written: what a writer leaves depends on the refusal only.
-- Assumes nothing.
use Rattle.std.specs.Prelude.{Result}
use Prim.Native.Nat.{ℕ}
use mathlib.Core.Path.{◌≡◌, subst, subst⁻¹}
use mathlib.Core.List.{List}
use mathlib.Core.Option.{Option, some}
use Rattle.network.specs.declared.Refusal.{Refusal}
use Rattle.file_records.specs.Puts.{Wrote}

module _ {o o' : Option Refusal} {f f' out out' : List ℕ} {r : Result ℕ Refusal} where
  pub wrote-alike : (x : Refusal) → o ≡ some x → o' ≡ some x → Wrote o f out r out' → Wrote o' f' out r out'
  wrote-alike x e e' h =
      let k : Wrote (some x) f out r out' = subst (λ (y : Option Refusal). Wrote y f out r out') e h in
      subst⁻¹ (λ (y : Option Refusal). Wrote y f' out r out') e' (record { answer = k.answer; number = k.number; bytes = k.bytes })
