-- Rows cut to the length of the table that they make: they are long enough, make the same network, and have its gates and its settings.
-- Assumes nothing.
use Prim.Native.Nat.{ℕ, ◌≤◌}
use native.Mathlib.Omega.{arith}
use mathlib.Core.Path.{◌≡◌, sym, ap, ◌∙◌}
use mathlib.Core.Bool.{◌&&◌}
use mathlib.Core.List.{List}
use lib.ListN.{length, take}
use lib.Seq.{length-take-le}
use lib.Dec.{leb, eqb}
use Rattle.lists.specs.Lists.{every}
use Rattle.network.specs.Networks.{Network}
use Rattle.network.specs.Tables.{table_of}
use Rattle.network.specs.Settings.{gate_count, is_setting}
use Rattle.tables.specs.Rows.{net_of, gates_in}
use Rattle.tables.proofs.Laws.{shortest, table-short, table-take, row-gates, row-setting}

module _ (ks xs ys : List ℕ) (m : ℕ) (e : m ≡ length (table_of ks xs ys)) where
  is-shortest : m ≡ shortest ks xs ys
  is-shortest = e ∙ table-short ks xs ys

  pub cut-kinds : m ≤ length ks
  cut-kinds = omega (arith, is-shortest)

  pub cut-a : m ≤ length xs
  cut-a = omega (arith, is-shortest)

  pub cut-b : m ≤ length ys
  cut-b = omega (arith, is-shortest)

  pub cut-ends-a : length (take m xs) ≡ length (take m ks)
  cut-ends-a = length-take-le m xs cut-a ∙ sym (length-take-le m ks cut-kinds)

  pub cut-ends-b : length (take m ys) ≡ length (take m ks)
  cut-ends-b = length-take-le m ys cut-b ∙ sym (length-take-le m ks cut-kinds)

  module _ (n : ℕ) where
    pub cut-net : net_of n (take m ks) (take m xs) (take m ys) ≡ net_of n ks xs ys
    cut-net = rw is-shortest (ap (λ t. record { basins = n; reaches = t }) (table-take ks xs ys))

    pub cut-gates : gates_in (take m ks) ≡ gate_count (net_of n ks xs ys)
    cut-gates = sym (row-gates (take m ks) (take m xs) (take m ys) cut-ends-a cut-ends-b 0) ∙ ap gate_count cut-net

    pub cut-setting : (s : List ℕ) → is_setting (net_of n ks xs ys) s ≡ eqb (length s) (gates_in (take m ks)) && every (λ x. leb x 1) s
    cut-setting s = ap (λ (N : Network). is_setting N s) (sym cut-net) ∙ row-setting (take m ks) (take m xs) (take m ys) cut-ends-a cut-ends-b n s
