-- Which fault a network lent as rows has, by the tests of its table in their order.
-- Assumes nothing.
use Rattle.std.specs.Prelude.{Err, Ok}
use Prim.Native.Nat.{ℕ, ◌≤◌, ◌<◌}
use native.Mathlib.Omega.{arith}
use mathlib.Core.Path.{◌≡◌, refl, sym, ap, ◌∙◌}
use mathlib.Core.Bool.{true, false, ◌&&◌}
use mathlib.Core.List.{List}
use mathlib.Core.Option.{Option, none, some}
use lib.ListN.{length, get_or}
use lib.Dec.{leb, ltb}
use borrow.Author.Tests.{leb-true, ltb-true, le-leb, lt-ltb, eq-eqb, ne_eqb}
use mathlib.Mathlib.Data.Bool.Basic.{and_elim_left, and_elim_right, and_intro, Bool-eq-false}
use Rattle.network.specs.declared.Refusal.{Refusal}
use Rattle.network.specs.declared.Refusal.TheVariants.{BasinCount, TooManyReaches, EndOutOfRange}
use Rattle.network.specs.Networks.{Network, max_basins, good_count, good_length, good_ends, table_fault}
use Rattle.network.specs.Tables.{table_of}
use Rattle.network.specs.Bridges.{no_reach}
use Rattle.network.specs.Replies.{fault_number}
use Rattle.network.proofs.Networks.{ends_below}
use Rattle.tables.specs.Answers.{table_answer, table_number, TableChecked, StrayEnd}
use Rattle.tables.proofs.Laws.{table_at}

module _ (N : Network) where
  -- the basin count, by the number
  pub count-good : 1 ≤ N.basins → N.basins ≤ max_basins → good_count N ≡ true
  count-good p q = and_intro (le-leb 1 N.basins p) (le-leb N.basins max_basins q)

  pub count-bad : (1 ≤ N.basins → N.basins ≤ max_basins → ⊥) → good_count N ≡ false
  count-bad n =
      let some-basin = leb 1 N.basins in
      Bool-eq-false {b = good_count N} (λ e. n (leb-true 1 N.basins (and_elim_left some-basin _ e)) (leb-true N.basins max_basins (and_elim_right some-basin _ e)))

  -- the first test that fails decides
  pub fault-count : good_count N ≡ false → table_fault N ≡ some BasinCount
  unfolding table_fault
  fault-count e = rw e

  pub fault-length : good_count N ≡ true → good_length N ≡ false → table_fault N ≡ some TooManyReaches
  unfolding table_fault
  fault-length e f = rw (e, f)

  pub fault-ends : good_count N ≡ true → good_length N ≡ true → good_ends N ≡ false → table_fault N ≡ some EndOutOfRange
  unfolding table_fault
  fault-ends e f g = rw (e, f, g)

module _ (n i : ℕ) (ks xs ys : List ℕ) (l : i < length (table_of ks xs ys)) where
  -- by the two numbers in the rows
  pub ends-good : get_or xs i 0 < n → get_or ys i 0 < n → ends_below n (get_or (table_of ks xs ys) i no_reach) ≡ true
  ends-good p q = rw (table_at i ks xs ys l) (and_intro (lt-ltb (get_or xs i 0) n p) (lt-ltb (get_or ys i 0) n q))

  pub ends-bad : (get_or xs i 0 < n → get_or ys i 0 < n → ⊥) → ends_below n (get_or (table_of ks xs ys) i no_reach) ≡ false
  ends-bad f =
      let below = ltb (get_or xs i 0) n in
      rw (table_at i ks xs ys l) (Bool-eq-false {b = below && ltb (get_or ys i 0) n} (λ e. f (ltb-true (get_or xs i 0) n (and_elim_left below _ e)) (ltb-true (get_or ys i 0) n (and_elim_right below _ e))))

-- the first reach with a stray end, and none
pub stray-here : (N : Network) (r : ℕ) → r < length N.reaches → false ≡ good_ends N → StrayEnd N r
stray-here N r l e = record { within = omega arith; good = sym e ∙ sym (ne_eqb r (length N.reaches) (λ p. omega arith)) }

pub stray-none : (N : Network) {r : ℕ} → r ≡ length N.reaches → true ≡ good_ends N → StrayEnd N r
stray-none N {r} p e = record { within = omega arith; good = sym e ∙ sym (eq-eqb r (length N.reaches) p) }

-- the answer to the fault has its number
number-faulty : (o : Option Refusal) → table_number (table_answer o) ≡ fault_number o
number-faulty none = refl
number-faulty (some r) = refl

pub table-checked : (N : Network) {o : Option Refusal} → table_fault N ≡ o → TableChecked N (table_answer o)
table-checked N {o} e = record { answer = ap table_answer (sym e); number = number-faulty o ∙ ap fault_number (sym e) }

-- what the answer says of the fault
pub answer-refused : (o : Option Refusal) (r : Refusal) → table_answer o ≡ Err r → o ≡ some r
answer-refused none r e = cc
answer-refused (some x) r e = cc

pub answer-accepted : (o : Option Refusal) → table_answer o ≡ (Ok tt) → o ≡ none
answer-accepted none e = refl
answer-accepted (some x) e = cc
