-- Bytes put into a buffer, where there is no refusal and room for them; and what a writer's answer says.
-- Assumes nothing.
use Rattle.std.specs.Prelude.{Err, Ok}
use Prim.Native.Nat.{ℕ, ◌≤◌, ◌<◌}
use native.Mathlib.Nat.{zero-add}
use native.Mathlib.Omega.{arith}
use mathlib.Core.Path.{◌≡◌, refl, sym, ap, subst, ◌∙◌}
use mathlib.Core.Bool.{true≢false}
use mathlib.Core.List.{List, ◌++◌}
use mathlib.Core.Option.{Option, none, some}
use lib.ListN.{length, take, drop, length-append}
use lib.Seq.{sets, sets-eq, take_at}
use borrow.Author.Tests.{le-leb, lt-leb}
use Rattle.network.specs.declared.Refusal.{Refusal}
use Rattle.network.specs.declared.Refusal.TheVariants.{ShortBuffer}
use Rattle.file_records.specs.Puts.{write_number, write_answer, bytes_written, Wrote, room_for, WroteWhole}
use Rattle.network.specs.Replies.{fault_number}

-- ---- bytes that are put into a buffer

number_put : (o : Option Refusal) (f : List ℕ) → write_number (write_answer o f) ≡ fault_number o
number_put none f = refl
number_put (some r) f = refl

put_of : (o : Option Refusal) (f out out' : List ℕ) → out' ≡ bytes_written o f ++ drop (length (bytes_written o f)) out → Wrote o f out (write_answer o f) out'
put_of o f out out' e = record { answer = refl; number = number_put o f; bytes = e }

pub put_refused : {o : Option Refusal} (f out : List ℕ) (r : Refusal) → o ≡ some r → Wrote o f out (Err r) out
put_refused f out r e = subst (λ o. Wrote o f out (Err r) out) (sym e) (put_of (some r) f out out refl)

module _ (f out : List ℕ) where
  pub put-short : length out < length f → WroteWhole f out (Err ShortBuffer) out
  put-short l = put_refused f out ShortBuffer (rw (lt-leb (length f) (length out) l))

  pub put_whole : (n : ℕ) (out' : List ℕ) → n ≡ length f → n ≤ length out → out' ≡ sets out 0 f → WroteWhole f out (Ok n) out'
  put_whole n out' e l q =
      let room : room_for f (length out) ≡ none = rw (le-leb (length f) (length out) (omega arith)) in
      rw e
      (subst (λ o. Wrote o f out (Ok (length f)) out') (sym room)
      (put_of none f out out' (q ∙ sets-eq f out 0 (omega arith) ∙ ap (λ k. f ++ drop k out) (zero-add (length f)))))

-- ---- what a writer's answer says

not_written : (o : Option Refusal) (f : List ℕ) (r : Refusal) → Err r ≡ write_answer o f → o ≡ some r
not_written none f r h = cc
not_written (some e) f r h = cc

was-written : (o : Option Refusal) (f : List ℕ) (n : ℕ) → Ok n ≡ write_answer o f → (o ≡ none) × (n ≡ length f)
was-written none f n h = (refl, cc)
was-written (some e) f n h = absurd (true≢false (cc))

-- ---- the bytes that were written stand in front

module _ (o : Option Refusal) (f out out' : List ℕ) where
  pub unwritten : (r : Refusal) → Wrote o f out (Err r) out' → o ≡ some r
  unwritten r p = not_written o f r p.answer

  module _ (n : ℕ) (p : Wrote o f out (Ok n) out') where
    pub written : o ≡ none
    written = (was-written o f n p.answer).0

    size : n ≡ length f
    size = (was-written o f n p.answer).1

    stands : out' ≡ f ++ drop (length f) out
    stands = subst (λ o. out' ≡ bytes_written o f ++ drop (length (bytes_written o f)) out) written p.bytes

    pub written-fits : n ≤ length out'
    written-fits = omega (arith, size, ap length stands, length-append f (drop (length f) out))

    pub written-front : take n out' ≡ f
    written-front = ap (take n) stands ∙ take_at f (drop (length f) out) n (sym size)
