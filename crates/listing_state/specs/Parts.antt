-- The parts of the start and of the filling: the state that an answer or a line leads to.
-- Assumes nothing.
use Rattle.std.specs.Prelude.{ℕ, zero, suc, ◌≡◌, List, []}
use Rattle.network.specs.Networks.{Network, max_reaches}
use Rattle.network.specs.Marks.{mark_bytes}
use Rattle.network.specs.Replies.{first_reply}
use Rattle.tables.specs.Rows.{net_of}
use Rattle.lines.specs.declared.Due.TheVariants as D
use Rattle.lines.specs.Listings.{max_plans, reply_lines}
use Rattle.lines.specs.Dues.{refusal_due}
use Rattle.listing_state.specs.declared.Lister.{Lister}
use Rattle.listing_state.specs.Pending.{lines_after, plan_in_hand, rest_of, pending_of}

-- The first line's state, and that after the line of a plan.
pub record FirstLine (n : ℕ) (kinds a b : List ℕ) (r : Lister) : Type 0 where
  pub basins-kept : r.basins ≡ n
  pub lines : pending_of (net_of n kinds a b) r ≡ reply_lines (net_of n kinds a b) max_plans (first_reply (net_of n kinds a b) max_reaches mark_bytes)

pub record LineAfter (N : Network) (l : Lister) (left : ℕ) (r : Lister) : Type 0 where
  pub basins-kept : r.basins ≡ l.basins
  pub begun : r.at ≡ 0
  pub lines : pending_of N r ≡ lines_after N (D.Plan left) (plan_in_hand N l)

-- The length of a plan's line, by its number of gated reaches.
abbrev pub plan_length : ℕ → ℕ
plan_length zero = 2
plan_length (suc g) = suc (suc g)

-- The same is to be printed; if nothing is left of the line, nothing is left at all.
pub record Turned (N : Network) (l r : Lister) : Type 0 where
  pub basins-kept : r.basins ≡ l.basins
  pub same : pending_of N r ≡ pending_of N l
  pub ended : rest_of N r ≡ [] → pending_of N r ≡ []

-- The state of a refusal's line.
pub record RefusalLine (k : ℕ) (l : Lister) : Type 0 where
  pub its-line : l.due ≡ refusal_due k
  pub begun : l.at ≡ 0
