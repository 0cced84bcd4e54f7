-- Document 02, item 4, said of what callers get who have a network contracted and then ask of what came out: "A setting is a plan of the folded network exactly if it is
-- one of the first. Folding again changes nothing."
-- Assumes nothing.
use Rattle.replies.specs.declared.Reply.{Reply}
use Rattle.network.specs.declared.Refusal.{Refusal}
use Rattle.std.specs.Prelude.{ℕ, ◌≤◌, ◌≡◌, ◌&&◌, List, length, take, eqb, Ok, Result}
use Rattle.lists.specs.Lists.{range, some?}
use Rattle.network.specs.Networks.{Network, is_wet, table_fault, Accepted, counts}
use Rattle.network.specs.Plans.{is_plan}
use Rattle.network.specs.Replies.{Outcome, number, unless, first_reply}
use Rattle.network.specs.Choices.{bound_after}
use Rattle.tables.specs.Rows.{net_of}
use Rattle.replies.specs.Answers.{answer_number, Replied}
use Rattle.planner_laws.specs.Demands.{read_reply}
use Rattle.bound_gates.specs.Calls.{BoundTold}
use Rattle.components.specs.Components.{component_number}
use Rattle.components.specs.Contracted.{contracted, SameChoice}
use Rattle.contraction.specs.Calls.{contract_answer}
use Rattle.contraction_laws.specs.declared.ContractedRows.{ContractedRows}

-- The network that a caller reads off the rows, where the counts n and m came back.
abbrev pub read_off : ContractedRows → ℕ → ℕ → Network
read_off r n m = net_of n (take m r.kinds) (take m r.a) (take m r.b)

-- What contracting N answers, and that the rows, which are long enough, then hold the contracted network.
pub record CameOut (N : Network) (r : ContractedRows) : Type 0 where
  pub answer : r.answer ≡ contract_answer (table_fault N) (contracted N)
  pub long : (n m : ℕ) → r.answer ≡ Ok (counts n m) → (m ≤ length r.kinds) × (m ≤ length r.a) × (m ≤ length r.b)
  pub network : (n m : ℕ) → r.answer ≡ Ok (counts n m) → read_off r n m ≡ contracted N

-- N was contracted, and first or next, which reply so to any network, was asked of what came out. Where N is refused 1, 2 or 3, so is the whole; else the reply is that to
-- the contracted network, with the lent buffers. It is the same plan as that to N, or the same number.
pub record ReplyOfContracted (reply : Network → Outcome) (N : Network) (plan marks : List ℕ) (r : Result Reply Refusal) (plan' marks' : List ℕ) : Type 0 where
  pub call : Replied (unless (table_fault N) (reply (contracted N))) plan marks plan' marks' r
  pub choice : SameChoice (read_reply (contracted N) r plan' marks') (reply N)

-- The same of the bound gates: the number is that of N, and so are the bytes.
pub record BoundOfContracted (N : Network) (bytes marks : List ℕ) (r : Result Reply Refusal) (bytes' marks' : List ℕ) : Type 0 where
  pub call : BoundTold (contracted N) (unless (table_fault N) (first_reply (contracted N) (length bytes) (length marks))) bytes marks bytes' marks' r
  pub same_number : answer_number r ≡ number (first_reply N (length bytes) (length marks))
  pub same_bytes : bytes' ≡ bound_after N (first_reply N (length bytes) (length marks)) bytes

-- What holds of a network M that a caller reads where N was contracted: it is the contracted network, is accepted and never larger, "a setting is a plan of the folded network
-- exactly if it is one of the first", a component is wet exactly if one of its basins is, and "folding again changes nothing".
pub record Smaller (N M : Network) : Type 0 where
  pub is : M ≡ contracted N
  pub accepted : Accepted M
  pub fewer-basins : M.basins ≤ N.basins
  pub fewer-reaches : length M.reaches ≤ length N.reaches
  pub same-plans : (s : List ℕ) → is_plan M s ≡ is_plan N s
  pub wet : (c : ℕ) → is_wet M c ≡ some? (λ b. is_wet N b && eqb (component_number N b) c) (range 0 N.basins)
  pub again : contracted M ≡ M

-- N was contracted, and what came out again: the same answer as to N alone, and what is read off the rows has all that holds of the contracted network.
pub record ContractedTwice (N : Network) (r : ContractedRows) : Type 0 where
  pub answer : r.answer ≡ contract_answer (table_fault N) (contracted N)
  pub read : (n m : ℕ) → r.answer ≡ Ok (counts n m) → Smaller N (read_off r n m)
