-- Facts about tests that neither Mathlib's Data.Bool.Basic nor borrow.Author.Tests has in this form.
-- Assumes nothing.
use mathlib.Core.Path.{◌≡◌, refl}
use mathlib.Core.Bool.{Bool, true, false, not, ◌||◌, beq, true≢false, false≢true}
use mathlib.Core.Logic.{◌⊎◌, inl, inr}

pub or_cases : (a b : Bool) → a || b ≡ true → (a ≡ true) ⊎ (b ≡ true)
or_cases true b e = inl refl
or_cases false b e = inr e

-- a test passes or fails
pub decide : (b : Bool) → (b ≡ true) ⊎ (b ≡ false)
decide true = inl refl
decide false = inr refl

pub clash {ℓ} : {A : Type ℓ} {b : Bool} → b ≡ true → b ≡ false → A
clash {b} p q = absurd (true≢false (cc))

-- two tests that pass together are equal
pub same_test : (a b : Bool) → (a ≡ true → b ≡ true) → (b ≡ true → a ≡ true) → a ≡ b
same_test true b f g = rw (f refl)
same_test false true f g = g refl
same_test false false f g = refl

-- ---- tests that are the same, and tests that differ

pub beq-true : (x y : Bool) → beq x y ≡ true → x ≡ y
beq-true true true e = refl
beq-true true false e = absurd (false≢true e)
beq-true false true e = absurd (false≢true e)
beq-true false false e = refl

pub beq-make : (x y : Bool) → x ≡ y → beq x y ≡ true
beq-make true y e = rw (← e)
beq-make false y e = rw (← e)

-- two pairs of tests, each of which differs, agree or differ alike
pub both-differ : (x y x' y' : Bool) → not (beq x y) ≡ true → not (beq x' y') ≡ true → beq x x' ≡ beq y y'
both-differ true true x' y' e f = absurd (false≢true e)
both-differ false false x' y' e f = absurd (false≢true e)
both-differ true false true true e f = absurd (false≢true f)
both-differ true false true false e f = refl
both-differ true false false true e f = refl
both-differ true false false false e f = absurd (false≢true f)
both-differ false true true true e f = absurd (false≢true f)
both-differ false true true false e f = refl
both-differ false true false true e f = refl
both-differ false true false false e f = absurd (false≢true f)

-- tests that are both turned round differ as they did
pub beq-not : (x y : Bool) → beq (not x) (not y) ≡ beq x y
beq-not true true = refl
beq-not true false = refl
beq-not false true = refl
beq-not false false = refl
