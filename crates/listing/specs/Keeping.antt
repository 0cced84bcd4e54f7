-- Working memory that is kept from line to line.
-- Assumes nothing.
use Rattle.std.specs.Prelude.{ℕ, ◌≡◌, Bool, true, false, List, length}
use Rattle.tables.specs.Rows.{net_of}
use Rattle.orientations.specs.Partials.{Binds}
use Rattle.half_edges.specs.Chains.{Index}
use Rattle.seeking.specs.Levels.{Level}
use Rattle.seeking.specs.Seeks.{AtPlan}
use Rattle.lines.specs.declared.Due.{Due}
use Rattle.lines.specs.declared.Due.TheVariants as D

-- The working memory stands at the plan s: the ways are its own, and what fs does not try has one way in all plans.
pub record Placed (n : ℕ) (ks fs xs ys s ws : List ℕ) : Type 0 where
  pub at-plan : AtPlan n ks xs ys s ws
  pub binds : Binds (net_of n ks xs ys) fs ws

-- So it is where the line of a plan is being printed.
abbrev pub Standing : ℕ → List ℕ → List ℕ → List ℕ → List ℕ → Due → List ℕ → List ℕ → Type 0
Standing n ks fs xs ys (D.Plan left) s ws = Placed n ks fs xs ys s ws
Standing n ks fs xs ys D.More s ws = Unit {0}
Standing n ks fs xs ys D.End s ws = Unit {0}
Standing n ks fs xs ys (D.Refused k) s ws = Unit {0}

-- An accepted table, a way for each of its reaches, and the index of its half-edges.
pub record Indexed (n : ℕ) (ks xs ys ws head next : List ℕ) : Type 0 where
  pub level : Level n ks xs ys
  pub ways-full : length ws ≡ length xs
  pub index : Index n xs ys head next

-- The working memory stands at the plan in hand, or it is not known to.
pub data Kept (n : ℕ) (ks fs xs ys : List ℕ) (d : Due) (s us ws head next : List ℕ) : Bool → Type 0 where
  unknown : {r : Bool} → r ≡ false → Kept n ks fs xs ys d s us ws head next r
  kept : {r : Bool} → r ≡ true → Indexed n ks xs ys ws head next → length fs ≡ length xs → length us ≡ length ws → Standing n ks fs xs ys d s ws
      → Kept n ks fs xs ys d s us ws head next r
