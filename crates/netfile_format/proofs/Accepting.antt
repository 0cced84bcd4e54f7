-- What an accepted table is: none of the three tests fails. What the check of a table answers.
-- Assumes nothing.
use mathlib.Core.Path.{◌≡◌, sym, ◌∙◌}
use mathlib.Core.Bool.{true}
use mathlib.Core.Option.{some, some-ne-none}
use mathlib.Mathlib.Data.Bool.Basic.{eq-true_of_not-eq-false}
use Rattle.network.specs.declared.Refusal.{Refusal}
use Rattle.network.specs.Networks.{Network, good_count, good_length, good_ends, table_fault, Accepted}
use Rattle.tables.proofs.Faults.{fault-count, fault-length, fault-ends}

pub record Good (N : Network) : Type 0 where
  pub count : good_count N ≡ true
  pub few : good_length N ≡ true
  pub ends : good_ends N ≡ true

pub good : (N : Network) → Accepted N → Good N
good N h = record { count = count; few = few; ends = ends }
  where
    not-refused : (r : Refusal) → table_fault N ≡ some r → ⊥
    not-refused r e = some-ne-none r (sym e ∙ h)

    count : good_count N ≡ true
    count = eq-true_of_not-eq-false {b = good_count N} (λ e. not-refused _ (fault-count N e))

    few : good_length N ≡ true
    few = eq-true_of_not-eq-false {b = good_length N} (λ e. not-refused _ (fault-length N count e))

    ends : good_ends N ≡ true
    ends = eq-true_of_not-eq-false {b = good_ends N} (λ e. not-refused _ (fault-ends N count few e))
