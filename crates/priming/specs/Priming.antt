-- Working memory that is prepared for the plans after a plan.
-- Assumes nothing.
use Rattle.std.specs.Prelude.{ℕ, ◌*◌, min, ◌≡◌, Bool, true, ◌&&◌, List, length, eqb}
use Rattle.network.specs.Networks.{max_basins, max_reaches}
use Rattle.tables.specs.Rows.{net_of}
use Rattle.half_edges.specs.Chains.{Index}
use Rattle.seeking.specs.Seeks.{AtPlan}
use Rattle.replies.specs.Answers.{check_of, says_yes}

-- Working memory for a table: for as many ways as it has reaches, up to the limit, and for an index.
pub record Spare (ks ws head next : List ℕ) : Type 0 where
  pub ways-spare : length ws ≡ min (length ks) max_reaches
  pub head-spare : length head ≡ max_basins
  pub next-spare : length next ≡ 2 * max_reaches

-- The three rows are of one length, and the check of the setting s "answers yes": it is a plan of an accepted table.
abbrev pub primes : ℕ → List ℕ → List ℕ → List ℕ → List ℕ → Bool
primes n ks xs ys s = eqb (length xs) (length ks) && (eqb (length ys) (length ks) && says_yes (check_of (net_of n ks xs ys) s))

-- r says whether it is so. Where it is, the working memory stands at the plan s: its ways, and the index of the half-edges. Where it is not, the
-- working memory is free.
pub record Primed (n : ℕ) (ks xs ys s ws head next : List ℕ) (r : Bool) : Type 0 where
  pub answer : r ≡ primes n ks xs ys s
  pub at-plan : r ≡ true → AtPlan n ks xs ys s ws
  pub indexed : r ≡ true → Index n xs ys head next
