-- That a table and its index are right: facts with one proof at most, so that a graph keeps them.
-- Assumes nothing.
use Rattle.std.specs.Prelude.{ℕ, List}
use Rattle.std.specs.Coded.{le_prop}
use native.Mathlib.Nat.{ℕ_set}
use mathlib.Core.HLevel.{Π_prop, ⊥_prop}
use Rattle.half_edges.specs.Chains.{Last, nothing, last, Index, Table}

pub Last-prop : (xs ys : List ℕ) (x v c : ℕ) → IsProp (Last xs ys x v c)
Last-prop xs ys x v c (nothing e f) (nothing e' f') = λ i. nothing (ℕ_set _ _ e e' i) ((Π_prop λ h. Π_prop λ l. Π_prop λ q. ⊥_prop) f f' i)
Last-prop xs ys x v c (nothing e f) (last l q g) = absurd (f c l q)
Last-prop xs ys x v c (last l q g) (nothing e f) = absurd (f c l q)
Last-prop xs ys x v c (last l q g) (last l' q' g') = λ i. last (le_prop l l' i) (ℕ_set _ _ q q' i) ((Π_prop λ h. Π_prop λ m. Π_prop λ k. Π_prop λ p. ⊥_prop) g g' i)

pub Index-prop : (n : ℕ) (xs ys head next : List ℕ) → IsProp (Index n xs ys head next)
Index-prop n xs ys head next a b = λ i. record {
  heads = λ v l. Last-prop xs ys _ v _ (a.heads v l) (b.heads v l) i;
  nexts = λ h l. Last-prop xs ys h _ _ (a.nexts h l) (b.nexts h l) i;
  head-room = le_prop a.head-room b.head-room i;
  next-room = le_prop a.next-room b.next-room i;
}

pub Table-prop : (n : ℕ) (xs ys : List ℕ) → IsProp (Table n xs ys)
Table-prop n xs ys a b = λ i. record {
  paired = ℕ_set _ _ a.paired b.paired i;
  few = le_prop a.few b.few i;
  ends-a = λ k l. le_prop (a.ends-a k l) (b.ends-a k l) i;
  ends-b = λ k l. le_prop (a.ends-b k l) (b.ends-b k l) i;
}
