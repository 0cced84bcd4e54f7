-- The bytes of the gates before a reach and from it on: of ways, and of a setting.
-- Assumes nothing.
use Prim.Native.Nat.{ℕ, zero, suc, ◌+◌, ◌-◌, ◌≤◌, ◌<◌}
use native.Mathlib.Nat.{not-suc-le-zero, le_of_suc-le-suc, suc_inj}
use native.Mathlib.Omega.{arith}
use mathlib.Core.Path.{◌≡◌, refl, sym, ap, ap₂}
use mathlib.Core.Bool.{Bool, true, false, cond, true≢false}
use mathlib.Core.List.{List, [], ◌∷◌, ◌++◌, append-nil, append_assoc}
use lib.ListN.{length, get_or, take, drop}
use lib.Seq.{drop-drop}
use Rattle.lists.proofs.Lists.{take_rest, drop-rest}
use Rattle.network.specs.declared.Kind.TheVariants.{Gated, Flap, TwoWay}
use Rattle.network.specs.declared.State.{State}
use Rattle.network.specs.declared.State.TheVariants.{InService, Shut}
use Rattle.network.specs.Tables.{state_of}
use Rattle.network.specs.Settings.{is_gated}
use Rattle.network.specs.Orientations.{way, after}
use Rattle.tables.specs.Rows.{gates_in, ways_row, bytes_row}
use Rattle.stepping.specs.Advances.{gates_before}

-- the gates before reach r and those from it on are all
gates-more : (g : Bool) (m k n : ℕ) → n ≡ m + k → cond g (suc n) n ≡ cond g (suc m) m + k
gates-more true m k n e = omega arith
gates-more false m k n e = e

pub gates-split : (ks : List ℕ) (r : ℕ) → gates_in ks ≡ gates_before ks r + gates_in (drop r ks)
gates-split ks zero = omega arith
gates-split [] (suc r) = refl
gates-split (k ∷ ks) (suc r) = gates-more (is_gated (state_of k)) (gates_before ks r) (gates_in (drop r ks)) (gates_in ks) (gates-split ks r)

-- so it is with the bytes of ways
pub bytes-split : (ks ws : List ℕ) (r : ℕ) → length ws ≡ length ks → take (gates_before ks r) (bytes_row ks ws) ++ bytes_row (drop r ks) (drop r ws) ≡ bytes_row ks ws
bytes-split ks ws zero e = refl
bytes-split [] ws (suc r) e = refl
bytes-split (k ∷ ks) [] (suc r) e = absurd (omega arith)
bytes-split (k ∷ ks) (w ∷ ws) (suc r) e = go (is_gated (state_of k)) (bytes-split ks ws r (suc_inj e))
  where
    go : (g : Bool) → take (gates_before ks r) (bytes_row ks ws) ++ bytes_row (drop r ks) (drop r ws) ≡ bytes_row ks ws
        → take (cond g (suc (gates_before ks r)) (gates_before ks r)) (cond g (w ∷ bytes_row ks ws) (bytes_row ks ws)) ++ bytes_row (drop r ks) (drop r ws) ≡ cond g (w ∷ bytes_row ks ws) (bytes_row ks ws)
    go true rec = ap (λ (l : List ℕ). w ∷ l) rec
    go false rec = rec

-- ---- a part from a place on, that was lent and is back

pub gates-rest : (ks : List ℕ) (r : ℕ) → gates_in ks ≡ gates_before ks r + gates_in (take (length ks - r) (drop r ks))
gates-rest ks r = rw (take_rest r ks) (gates-split ks r)

-- the bytes from reach r on were put after those of the gates before it
pub rewritten :
    (ks ws plan part : List ℕ) (r g k : ℕ) → length ws ≡ length ks → g ≡ gates_in ks → take (gates_before ks r) plan ≡ take (gates_before ks r) (bytes_row ks ws)
    → k ≡ gates_in (take (length ks - r) (drop r ks))
    → part ≡ bytes_row (take (length ks - r) (drop r ks)) (take (length ws - r) (drop r ws)) ++ drop (gates_in (take (length ks - r) (drop r ks))) (take (length plan - (g - k)) (drop (g - k) plan))
    → take (g - k) plan ++ (part ++ drop (length plan - (g - k)) (drop (g - k) plan)) ≡ bytes_row ks ws ++ drop g plan
rewritten ks ws plan part r g k full all front count put =
    let m : ℕ = gates_before ks r in
    let at : g - k ≡ m = omega (arith, gates-rest ks r) in
    let sum : m + k ≡ g = omega (arith, gates-rest ks r) in
    rw (
      at,
      put,
      ← count,
      at,
      take_rest r ks,
      take_rest r ws,
      take_rest m plan,
      drop-rest m plan,
      append-nil,
      drop-drop k m plan,
      sum,
      front,
      ← append_assoc,
      bytes-split ks ws r full,
    )

-- ---- settings

-- settings under which the reaches before r have the same ways have the same bytes for the gates among them
pub front_same :
    (ks p q : List ℕ) (r : ℕ) → length p ≡ gates_in ks → length q ≡ gates_in ks → r ≤ length ks → ((j : ℕ) → j < r → get_or (ways_row ks p) j 3 ≡ get_or (ways_row ks q) j 3)
    → take (gates_before ks r) p ≡ take (gates_before ks r) q
front_same ks p q zero e f l same = refl
front_same [] p q (suc r) e f l same = absurd (not-suc-le-zero l)
front_same (k ∷ ks) p q (suc r) e f l same = go (state_of k) p q e f (same 0 (omega arith)) (λ j m. same (suc j) (omega arith)) (λ p' q' e' f'. front_same ks p' q' r e' f' (le_of_suc-le-suc l))
  where
    go :
        (d : State) (p q : List ℕ) → length p ≡ cond (is_gated d) (suc (gates_in ks)) (gates_in ks) → length q ≡ cond (is_gated d) (suc (gates_in ks)) (gates_in ks) → way d p ≡ way d q
        → ((j : ℕ) → j < r → get_or (ways_row ks (after d p)) j 3 ≡ get_or (ways_row ks (after d q)) j 3)
        → ((p' q' : List ℕ) → length p' ≡ gates_in ks → length q' ≡ gates_in ks → ((j : ℕ) → j < r → get_or (ways_row ks p') j 3 ≡ get_or (ways_row ks q') j 3) → take (gates_before ks r) p' ≡ take (gates_before ks r) q')
        → take (cond (is_gated d) (suc (gates_before ks r)) (gates_before ks r)) p ≡ take (cond (is_gated d) (suc (gates_before ks r)) (gates_before ks r)) q
    go (InService Gated) [] q e f x more rec = absurd (omega arith)
    go (InService Gated) (y ∷ p) [] e f x more rec = absurd (omega arith)
    go (InService Gated) (y ∷ p) (z ∷ q) e f x more rec = ap₂ (λ (b : ℕ) (l : List ℕ). b ∷ l) x (rec p q (suc_inj e) (suc_inj f) more)
    go (InService Flap) p q e f x more rec = rec p q e f more
    go (InService TwoWay) p q e f x more rec = rec p q e f more
    go (Shut k) p q e f x more rec = rec p q e f more

-- the way of a gate is its byte
pub gate-row : (ks s : List ℕ) (r : ℕ) → r < length ks → is_gated (state_of (get_or ks r 0)) ≡ true → get_or (ways_row ks s) r 3 ≡ get_or s (gates_before ks r) 2
gate-row [] s r l g = absurd (not-suc-le-zero l)
gate-row (k ∷ ks) s zero l g = go (state_of k) g
  where
    go : (d : State) → is_gated d ≡ true → way d s ≡ get_or s 0 2
    go (InService Gated) g = refl
    go (InService Flap) g = absurd (true≢false (sym g))
    go (InService TwoWay) g = absurd (true≢false (sym g))
    go (Shut k) g = absurd (true≢false (sym g))
gate-row (k ∷ ks) s (suc r) l g = go (state_of k) s (λ p. gate-row ks p r (le_of_suc-le-suc l) g)
  where
    go : (d : State) (s : List ℕ) → ((p : List ℕ) → get_or (ways_row ks p) r 3 ≡ get_or p (gates_before ks r) 2)
        → get_or (ways_row ks (after d s)) r 3 ≡ get_or s (cond (is_gated d) (suc (gates_before ks r)) (gates_before ks r)) 2
    go (InService Gated) [] rec = rec []
    go (InService Gated) (x ∷ s) rec = rec s
    go (InService Flap) s rec = rec s
    go (InService TwoWay) s rec = rec s
    go (Shut k) s rec = rec s
