-- What the call for the longest of the fewest counts answers.
-- Assumes nothing.
use Rattle.std.specs.Prelude.{ℕ, ◌≡◌, cond, List, ltb, Err, Ok, Result}
use Rattle.std.proofs.Math.Option.{Option, none, some}
use Rattle.network.specs.declared.Refusal.{Refusal}
use Rattle.network.specs.declared.Refusal.TheVariants.{BadSetting}
use Rattle.network.specs.Networks.{Network, table_fault}
use Rattle.network.specs.Replies.{refusal_number, fault_number, first_of, plan_fault}
use Rattle.distances.specs.Distances.{unreached}
use Rattle.distances.specs.Diameters.{diameter}

-- It refuses 1, 2 and 3 of the table, then the setting. Document 02, item 6: "A setting that isn't a plan is refused 8."
abbrev pub diameter_fault : Network → List ℕ → Option Refusal
diameter_fault N s = first_of (table_fault N) (plan_fault N s)

-- A refusal if there is one, else the number d.
abbrev pub longest_unless : Option Refusal → ℕ → Result ℕ Refusal
longest_unless (some r) d = Err r
longest_unless none d = Ok d

-- The answer to any input.
unfoldable pub diameter_of : Network → List ℕ → Result ℕ Refusal
diameter_of N s = longest_unless (diameter_fault N s) (diameter N s)

-- What is answered where 1, 2, 3 and 8 by the setting's length and bytes are past: d, or 8 if it is 65,535. proofs/Answers.antt: with d the diameter this is
-- the same answer.
abbrev pub longest_or8 : ℕ → Result ℕ Refusal
longest_or8 d = cond (ltb d unreached) (Ok d) (Err BadSetting)

-- Document 01's number of an answer, 0 if it is no refusal.
abbrev pub diameter_number : Result ℕ Refusal → ℕ
diameter_number (Err r) = refusal_number r
diameter_number (Ok d) = 0

-- What the call promises: its answer, and the answer's number. It is lent no buffer.
pub record DiameterCall (N : Network) (s : List ℕ) (r : Result ℕ Refusal) : Type 0 where
  pub answer : r ≡ diameter_of N s
  pub number : diameter_number r ≡ fault_number (diameter_fault N s)
