-- What a table gets as an answer.
-- Assumes nothing.
use Rattle.std.specs.Prelude.{ℕ, ◌≤◌, ◌≡◌, length, eqb, Ok, Err, Result}
use Rattle.std.proofs.Math.Option.{Option, none, some}
use Rattle.network.specs.declared.Refusal.{Refusal}
use Rattle.network.specs.Networks.{Network, good_ends, table_fault}
use Rattle.network.specs.Replies.{refusal_number, fault_number}

-- A table is refused for its fault, and accepted if it has none.
abbrev pub table_answer : Option Refusal → Result (Unit {0}) Refusal
table_answer none = (Ok tt)
table_answer (some r) = Err r

-- Document 01's number of the answer, 0 where the table is accepted.
abbrev pub table_number : Result (Unit {0}) Refusal → ℕ
table_number (Ok tt) = 0
table_number (Err r) = refusal_number r

-- What the check of a table answers, and its number.
pub record TableChecked (N : Network) (r : Result (Unit {0}) Refusal) : Type 0 where
  pub answer : r ≡ table_answer (table_fault N)
  pub number : table_number r ≡ fault_number (table_fault N)

-- r is below the number of reaches if an end is not below the basin count, and is that number if all are. Which reach it then is, is free: the check
-- of a table asks only whether.
pub record StrayEnd (N : Network) (r : ℕ) : Type 0 where
  pub within : r ≤ length N.reaches
  pub good : good_ends N ≡ eqb r (length N.reaches)
