-- What is printed at all: "for any of 1 to 6, 9 and 10 .. only one line", and else the plans from the first on. 7, 8 and 11 are never printed.
-- Assumes nothing.
use Rattle.std.specs.Prelude.{ℕ, ◌≡◌, true, List, [], ◌∷◌, take}
use Rattle.std.proofs.Math.Option.{some}
use Rattle.lists.specs.Lists.{elem}
use Rattle.network.specs.Networks.{Network}
use Rattle.network.specs.Plans.{first_plan}
use Rattle.netfile_format.specs.Files.{read, read_file}
use Rattle.lines.specs.Listings.{max_bytes, max_plans, line, refused_text, plans_from, listing}

pub data Printed (file : List ℕ) : Type 0 where
  one_line : (k : ℕ) → elem k (1 ∷ 2 ∷ 3 ∷ 4 ∷ 5 ∷ 6 ∷ 9 ∷ 10 ∷ []) ≡ true → listing file ≡ line (refused_text k) → Printed file
  plans : (N : Network) (p : List ℕ) → read_file (take max_bytes file) ≡ read N → first_plan N ≡ some p → listing file ≡ plans_from N max_plans (some p) → Printed file
