-- The bytes of the lines.
-- Assumes nothing.
use Prim.Native.Nat.{ℕ, ◌+◌, ◌-◌, ◌/◌, ◌%◌, ◌≤◌, ◌<◌}
use native.Mathlib.Omega.{arith}
use mathlib.Core.Path.{◌≡◌, refl, sym, ap, ◌∙◌}
use mathlib.Core.List.{List, [], ◌∷◌, ◌++◌, map}
use lib.ListN.{length, take, drop, length-map, length-append, drop_of_length-le}
use lib.Seq.{drop-append-le}
use borrow.Author.Tests.{lt-ltb, le-ltb}
use Rattle.lines.specs.Listings.{line, character, plan_text, refused_text}
use Rattle.lists.proofs.Lists.{take_rest, drop-map}

-- ---- a plan

-- without a gate
pub plan-dash : (s : List ℕ) → length s ≡ 0 → 45 ∷ 10 ∷ [] ≡ line (plan_text s)
plan-dash [] e = refl
plan-dash (x ∷ s) e = let none : ⊥ = omega arith in absurd none

plan-digits : (s : List ℕ) → (length s ≡ 0 → ⊥) → plan_text s ≡ map character s
plan-digits [] n = absurd (n refl)
plan-digits (x ∷ s) n = refl

module _ (s : List ℕ) (n : length s ≡ 0 → ⊥) (at : ℕ) where
  -- from a place past its newline on
  pub plan-past : length s < at → drop at (line (plan_text s)) ≡ []
  plan-past l =
      rw (plan-digits s n)
      (drop_of_length-le (map character s ++ (10 ∷ [])) {i = at} (omega (arith, length-append (map character s) (10 ∷ []), length-map s character)))

  -- from a character or the newline on
  pub plan-from : at ≤ length s → map character (take (length s - at) (drop at s)) ++ (10 ∷ []) ≡ drop at (line (plan_text s))
  plan-from l =
      sym
      (rw (plan-digits s n)
      (drop-append-le at (map character s) (10 ∷ []) (omega (arith, length-map s character)) ∙ ap (λ (t : List ℕ). t ++ (10 ∷ [])) (drop-map character at s ∙ ap (map character) (sym (take_rest at s)))))

-- ---- a refusal, with one digit and with two

pub refused-one : (n : ℕ) → n < 10 → 114 ∷ 101 ∷ 102 ∷ 117 ∷ 115 ∷ 101 ∷ 100 ∷ 32 ∷ (48 + n) ∷ 10 ∷ [] ≡ line (refused_text n)
refused-one n l = rw (lt-ltb n 10 l)

pub refused-two : (n : ℕ) → 10 ≤ n → 114 ∷ 101 ∷ 102 ∷ 117 ∷ 115 ∷ 101 ∷ 100 ∷ 32 ∷ (48 + n / 10) ∷ (48 + n % 10) ∷ 10 ∷ [] ≡ line (refused_text n)
refused-two n l = rw (le-ltb n 10 l)
