-- Writing down what was found: the marks of a finding, or a plan.
-- Assumes nothing.
use Rattle.std.specs.Prelude.{ℕ, ◌≤◌, ◌<◌, ◌≡◌, List, ◌++◌, length, drop}
use Rattle.network.specs.Marks.{mark_bytes, marks_of, mark_count}
use Rattle.tables.specs.Rows.{gates_in, bytes_row}
use Rattle.marks.specs.Sets.{marked_set}
use Rattle.replies.specs.declared.Verdict.TheVariants.{Plan, ShutIn, Lone}
use Rattle.replies.specs.declared.Reply.{Reply}
use Rattle.seeking.specs.declared.Found.{Found}
use Rattle.seeking.specs.declared.Found.TheVariants.{Closed, Bridge, Oriented}
use Rattle.seeking.specs.Levels.{Level}
use Rattle.seeking.specs.Found.{reach_found}

-- The marks of S stand in the first bytes, and r is their count.
pub record MarksWritten (S marks marks' : List ℕ) (r : ℕ) : Type 0 where
  pub bytes : marks' ≡ marks_of S ++ drop mark_bytes marks
  pub count : r ≡ mark_count (marks_of S)

-- An accepted table of rows of one length, and lent buffers that are long enough.
pub record Lent (n : ℕ) (ks xs ys plan marks : List ℕ) : Type 0 where
  pub level : Level n ks xs ys
  pub plan-room : gates_in ks ≤ length plan
  pub marks-room : mark_bytes ≤ length marks

-- What writing a finding or a plan down requires.
pub record Reportable (n : ℕ) (ks ws seen plan marks : List ℕ) (f : Found) : Type 0 where
  pub ways-room : length ws ≡ length ks
  pub seen-room : n ≤ length seen
  pub plan-room : gates_in ks ≤ length plan
  pub marks-room : mark_bytes ≤ length marks
  pub reach-fits : reach_found f < 65536

-- What it leaves: the marks of the basins noted, or the plan.
pub data Reported (n : ℕ) (ks ws seen : List ℕ) : Found → List ℕ → List ℕ → List ℕ → List ℕ → Reply → Type 0 where
  wrote-shut : {plan marks marks' : List ℕ} {c : ℕ} → MarksWritten (marked_set n seen) marks marks' c
      → Reported n ks ws seen Closed plan marks plan marks' (record { verdict = ShutIn (record { reach = 0; count = c }) })
  wrote-lone : {r : ℕ} {plan marks marks' : List ℕ} {c : ℕ} → MarksWritten (marked_set n seen) marks marks' c
      → Reported n ks ws seen (Bridge r) plan marks plan marks' (record { verdict = Lone (record { reach = r; count = c }) })
  wrote-plan : {plan marks plan' : List ℕ} → plan' ≡ bytes_row ks ws ++ drop (gates_in ks) plan → Reported n ks ws seen Oriented plan marks plan' marks (record { verdict = Plan })
