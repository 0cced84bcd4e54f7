-- Laws of a table lent as rows: what its kinds alone decide, its length, and its members.
-- Assumes nothing.
use Prim.Native.Nat.{ℕ, zero, suc, min, ◌≤◌, ◌<◌}
use mathlib.Core.Path.{◌≡◌, refl, ap}
use mathlib.Core.Bool.{cond, ◌&&◌}
use mathlib.Core.List.{List, [], ◌∷◌, map}
use native.Mathlib.Nat.{not-suc-le-zero, le_of_suc-le-suc}
use native.Mathlib.Omega.{arith}
use lib.ListN.{length, get_or, take, replicate}
use lib.Dec.{leb, eqb}
use Rattle.lists.proofs.Lists.{length-cond}
use Rattle.network.specs.declared.Kind.TheVariants.{Gated, Flap, TwoWay}
use Rattle.network.specs.declared.State.{State}
use Rattle.network.specs.declared.State.TheVariants.{InService, Shut}
use Rattle.network.specs.declared.Reach.{Reach}
use Rattle.lists.specs.Lists.{every}
use Rattle.network.specs.Tables.{state_of, state_number, table_of}
use Rattle.network.specs.Settings.{is_gated, gates_from, is_setting}
use Rattle.network.specs.Orientations.{way, after, ways}
use Rattle.network.specs.Bridges.{no_reach}
use Rattle.tables.specs.Rows.{net_of, gates_in, ways_row, bytes_row}
use Rattle.tables.specs.Bytes.{bytes_of}

-- the reach with a state's number and two ends
abbrev pub reach_of_numbers : ℕ → ℕ → ℕ → Reach
reach_of_numbers k x y = record { state = state_of k; a = x; b = y }

-- ---- rows of any lengths

-- the length of the shortest row
abbrev pub shortest : List ℕ → List ℕ → List ℕ → ℕ
shortest ks xs ys = min (length ks) (min (length xs) (length ys))

-- a table is as long as its shortest row
pub table-short : (ks xs ys : List ℕ) → length (table_of ks xs ys) ≡ shortest ks xs ys
table-short [] xs ys = omega arith
table-short (k ∷ ks) [] ys = omega arith
table-short (k ∷ ks) (x ∷ xs) [] = omega arith
table-short (k ∷ ks) (x ∷ xs) (y ∷ ys) = omega (arith, table-short ks xs ys)

take-table : (m : ℕ) (ks xs ys : List ℕ) → length (table_of ks xs ys) ≤ m → table_of (take m ks) (take m xs) (take m ys) ≡ table_of ks xs ys
take-table zero [] xs ys l = refl
take-table zero (k ∷ ks) [] ys l = refl
take-table zero (k ∷ ks) (x ∷ xs) [] l = refl
take-table zero (k ∷ ks) (x ∷ xs) (y ∷ ys) l = absurd (not-suc-le-zero l)
take-table (suc m) [] xs ys l = refl
take-table (suc m) (k ∷ ks) [] ys l = refl
take-table (suc m) (k ∷ ks) (x ∷ xs) [] l = refl
take-table (suc m) (k ∷ ks) (x ∷ xs) (y ∷ ys) l = ap (λ t. reach_of_numbers k x y ∷ t) (take-table m ks xs ys (le_of_suc-le-suc l))

-- what stands beyond the shortest row counts for nothing
pub table-take : (ks xs ys : List ℕ) → let m = shortest ks xs ys in table_of (take m ks) (take m xs) (take m ys) ≡ table_of ks xs ys
table-take ks xs ys = take-table (shortest ks xs ys) ks xs ys (omega (arith, table-short ks xs ys))

-- each reach has its state and its ends from the rows
pub table_at : (i : ℕ) (ks xs ys : List ℕ) → i < length (table_of ks xs ys) → get_or (table_of ks xs ys) i no_reach ≡ reach_of_numbers (get_or ks i 0) (get_or xs i 0) (get_or ys i 0)
table_at i [] xs ys l = absurd (not-suc-le-zero l)
table_at i (k ∷ ks) [] ys l = absurd (not-suc-le-zero l)
table_at i (k ∷ ks) (x ∷ xs) [] l = absurd (not-suc-le-zero l)
table_at zero (k ∷ ks) (x ∷ xs) (y ∷ ys) l = refl
table_at (suc i) (k ∷ ks) (x ∷ xs) (y ∷ ys) l = table_at i ks xs ys (le_of_suc-le-suc l)

-- ---- rows of equal length

-- Induction over rows of equal length.
rows : (P : List ℕ → List ℕ → List ℕ → Type 0) → P [] [] [] → ((k x y : ℕ) (ks xs ys : List ℕ) → P ks xs ys → P (k ∷ ks) (x ∷ xs) (y ∷ ys))
    → (ks xs ys : List ℕ) → length xs ≡ length ks → length ys ≡ length ks → P ks xs ys
rows P z s [] [] [] e f = z
rows P z s [] [] (y ∷ ys) e f = absurd (omega arith)
rows P z s [] (x ∷ xs) ys e f = absurd (omega arith)
rows P z s (k ∷ ks) [] ys e f = absurd (omega arith)
rows P z s (k ∷ ks) (x ∷ xs) [] e f = absurd (omega arith)
rows P z s (k ∷ ks) (x ∷ xs) (y ∷ ys) e f = s k x y ks xs ys (rows P z s ks xs ys (omega arith) (omega arith))

module _ (ks xs ys : List ℕ) (e : length xs ≡ length ks) (f : length ys ≡ length ks) where
  pub row-length : length (table_of ks xs ys) ≡ length ks
  row-length = omega (arith, table-short ks xs ys)

  -- what the kinds alone decide
  pub row-ways : (h : List ℕ) → ways (table_of ks xs ys) h ≡ ways_row ks h
  row-ways =
      rows (λ ks xs ys. (h : List ℕ) → ways (table_of ks xs ys) h ≡ ways_row ks h) (λ h. refl) (λ k x y ks xs ys r h. ap (λ ws. way (state_of k) h ∷ ws) (r (after (state_of k) h))) ks xs ys e f

  pub row-bytes : (ws : List ℕ) → bytes_of (table_of ks xs ys) ws ≡ bytes_row ks ws
  row-bytes =
      rows (λ ks xs ys. (ws : List ℕ) → bytes_of (table_of ks xs ys) ws ≡ bytes_row ks ws) (λ ws. refl) (λ k x y ks xs ys r ws. elim ws as (λ vs. bytes_of (table_of (k ∷ ks) (x ∷ xs) (y ∷ ys)) vs ≡ bytes_row (k ∷ ks) vs) [ [] ↦ refl | w ∷ vs ↦ ap (λ l. cond (is_gated (state_of k)) (w ∷ l) l) (r vs) ]) ks xs ys e f

  pub row-gates : (o : ℕ) → length (gates_from o (table_of ks xs ys)) ≡ gates_in ks
  row-gates =
      rows (λ ks xs ys. (o : ℕ) → length (gates_from o (table_of ks xs ys)) ≡ gates_in ks) (λ o. refl) (λ k x y ks xs ys r o. length-cond (is_gated (state_of k)) o (gates_from (suc o) (table_of ks xs ys)) (r (suc o))) ks xs ys e f

  -- its members
  row-reach : (i : ℕ) → i < length ks → get_or (table_of ks xs ys) i no_reach ≡ reach_of_numbers (get_or ks i 0) (get_or xs i 0) (get_or ys i 0)
  row-reach i l = table_at i ks xs ys (omega (arith, row-length))

  pub row-state : (i : ℕ) → i < length ks → (get_or (table_of ks xs ys) i no_reach).state ≡ state_of (get_or ks i 0)
  row-state i l = ap (λ r. r.state) (row-reach i l)

  pub row-a : (i : ℕ) → i < length ks → (get_or (table_of ks xs ys) i no_reach).a ≡ get_or xs i 0
  row-a i l = ap (λ r. r.a) (row-reach i l)

  pub row-b : (i : ℕ) → i < length ks → (get_or (table_of ks xs ys) i no_reach).b ≡ get_or ys i 0
  row-b i l = ap (λ r. r.b) (row-reach i l)

  pub row-ends-a : map (λ r. r.a) (table_of ks xs ys) ≡ xs
  row-ends-a = rows (λ ks xs ys. map (λ r. r.a) (table_of ks xs ys) ≡ xs) refl (λ k x y ks xs ys r. ap (λ l. x ∷ l) r) ks xs ys e f

  pub row-ends-b : map (λ r. r.b) (table_of ks xs ys) ≡ ys
  row-ends-b = rows (λ ks xs ys. map (λ r. r.b) (table_of ks xs ys) ≡ ys) refl (λ k x y ks xs ys r. ap (λ l. y ∷ l) r) ks xs ys e f

  -- a setting of the network, by the kinds
  pub row-setting : (n : ℕ) (s : List ℕ) → is_setting (net_of n ks xs ys) s ≡ eqb (length s) (gates_in ks) && every (λ x. leb x 1) s
  unfolding is_setting
  row-setting n s = rw (row-gates 0)

-- ---- a table's ways

after-unoriented : (d : State) (t : List Reach) → ((g : ℕ) → ways t (replicate g 2) ≡ ways t []) → (g : ℕ)
    → way d (replicate g 2) ∷ ways t (after d (replicate g 2)) ≡ way d [] ∷ ways t (after d [])
after-unoriented (InService Gated) t rest zero = refl
after-unoriented (InService Gated) t rest (suc g) = ap (λ ws. 2 ∷ ws) (rest g)
after-unoriented (InService Flap) t rest g = ap (λ ws. 0 ∷ ws) (rest g)
after-unoriented (InService TwoWay) t rest g = ap (λ ws. 2 ∷ ws) (rest g)
after-unoriented (Shut d) t rest g = ap (λ ws. 3 ∷ ws) (rest g)

-- gates that are all hung either way are as gates without a byte
pub ways-unoriented : (t : List Reach) (g : ℕ) → ways t (replicate g 2) ≡ ways t []
ways-unoriented [] g = refl
ways-unoriented (r ∷ t) g = after-unoriented r.state t (ways-unoriented t) g

-- ---- the table of a table's own numbers
state-of-number : (d : State) → state_of (state_number d) ≡ d
state-of-number (InService Gated) = refl
state-of-number (InService Flap) = refl
state-of-number (InService TwoWay) = refl
state-of-number (Shut Gated) = refl
state-of-number (Shut Flap) = refl
state-of-number (Shut TwoWay) = refl

pub table-of-rows : (t : List Reach) → table_of (map (λ r. state_number r.state) t) (map (λ r. r.a) t) (map (λ r. r.b) t) ≡ t
table-of-rows [] = refl
table-of-rows (r ∷ t) = rw (state-of-number r.state) (ap (λ l. r ∷ l) (table-of-rows t))
