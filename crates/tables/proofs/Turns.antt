-- One turn of a loop over the kinds of a table: the gates that are left.
-- Assumes nothing.
use Prim.Native.Nat.{ℕ, suc, ◌+◌, ◌≤◌, ◌<◌}
use mathlib.Core.Path.{◌≡◌}
use mathlib.Core.Bool.{cond}
use mathlib.Core.List.{List}
use lib.ListN.{length, get_or, drop, drop_of_length-le}
use Rattle.lists.proofs.Lists.{drop-one}
use Rattle.network.specs.Tables.{state_of}
use Rattle.network.specs.Settings.{is_gated}
use Rattle.tables.specs.Rows.{gates_in}
use Rattle.network.proofs.Networks.{not-gated}

-- the gates from i on
gates-turn : (ks : List ℕ) (i : ℕ) → i < length ks → gates_in (drop i ks) ≡ cond (is_gated (state_of (get_or ks i 0))) (suc (gates_in (drop (i + 1) ks))) (gates_in (drop (i + 1) ks))
gates-turn ks i h = rw (drop-one ks i 0 h)

pub gates-gate : (ks : List ℕ) (i : ℕ) → i < length ks → get_or ks i 0 ≡ 0 → gates_in (drop i ks) ≡ suc (gates_in (drop (i + 1) ks))
gates-gate ks i h e = rw (gates-turn ks i h, e)

pub gates-other : (ks : List ℕ) (i : ℕ) → i < length ks → (get_or ks i 0 ≡ 0 → ⊥) → gates_in (drop i ks) ≡ gates_in (drop (i + 1) ks)
gates-other ks i h n = rw (gates-turn ks i h, not-gated (get_or ks i 0) n)

pub gates-done : (ks : List ℕ) (i : ℕ) → length ks ≤ i → gates_in (drop i ks) ≡ 0
gates-done ks i h = rw (drop_of_length-le ks h)
