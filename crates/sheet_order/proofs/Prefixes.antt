-- Laws of the longest common prefix of two rows: it is no longer than either, counting the pairs that are alike finds it, and the entries behind it decide the order.
-- Assumes nothing.
use Rattle.std.specs.declared.cmp.Ordering.{Ordering}
use Rattle.std.specs.declared.cmp.Ordering.TheVariants.{Equal, Greater, Less}
use Prim.Native.Nat.{ℕ, suc, ◌+◌, ◌≤◌, ◌<◌}
use native.Mathlib.Omega.{arith}
use mathlib.Core.Path.{◌≡◌, refl, sym, ap, ◌∙◌}
use mathlib.Core.Bool.{Bool, true, false, cond}
use mathlib.Core.List.{List, [], ◌∷◌, ◌++◌}
use mathlib.Core.Logic.{◌⊎◌, inl, inr, ⊎_elim}
use lib.Dec.{eqb, ltb}
use lib.ListN.{length, get_or, take}
use borrow.Author.Tests.{eqb-true, eq-eqb, ne_eqb, lt-ltb, le-ltb, ltb-true, ltb-false}
use Rattle.std.specs.List.{prefix_len, zip}
use Rattle.sheet_order.specs.Orders.{setting_order}
use Rattle.sheet_order.specs.Parts.{common_prefix}

pub prefix-left : (xs ys : List ℕ) → common_prefix xs ys ≤ length xs
prefix-left [] ys = omega arith
prefix-left (x ∷ xs) [] = omega arith
prefix-left (x ∷ xs) (y ∷ ys) = elim (eqb x y) as (λ t. cond t (suc (common_prefix xs ys)) 0 ≤ suc (length xs)) [ true ↦ omega (arith, prefix-left xs ys) | false ↦ omega arith ]

pub prefix-right : (xs ys : List ℕ) → common_prefix xs ys ≤ length ys
prefix-right [] ys = omega arith
prefix-right (x ∷ xs) [] = omega arith
prefix-right (x ∷ xs) (y ∷ ys) = elim (eqb x y) as (λ t. cond t (suc (common_prefix xs ys)) 0 ≤ suc (length ys)) [ true ↦ omega (arith, prefix-right xs ys) | false ↦ omega arith ]

none_right : (xs : List ℕ) → common_prefix xs [] ≡ 0
none_right [] = refl
none_right (x ∷ xs) = refl

-- as many pairs as are alike from the front on
abbrev pub alike : ℕ × ℕ → Bool
alike p = eqb p.0 p.1

pub prefix-counted : (xs ys : List ℕ) → prefix_len alike (zip xs ys) ≡ common_prefix xs ys
prefix-counted [] ys = refl
prefix-counted (x ∷ xs) [] = refl
prefix-counted (x ∷ xs) (y ∷ ys) =
    elim (eqb x y) as (λ t. cond t (1 + prefix_len alike (zip xs ys)) 0 ≡ cond t (suc (common_prefix xs ys)) 0) [ true ↦ omega (arith, prefix-counted xs ys) | false ↦ refl ]

-- ---- one entry more in front

pub prefix_same : (x : ℕ) (xs ys : List ℕ) → common_prefix (x ∷ xs) (x ∷ ys) ≡ suc (common_prefix xs ys)
prefix_same x xs ys = rw (eq-eqb x x refl)

pub order_same : (x : ℕ) (xs ys : List ℕ) → setting_order (x ∷ xs) (x ∷ ys) ≡ setting_order xs ys
order_same x xs ys = rw (le-ltb x x (omega arith), eq-eqb x x refl)

-- several in front of both
pub prefix-both : (ws xs ys : List ℕ) → common_prefix (ws ++ xs) (ws ++ ys) ≡ length ws + common_prefix xs ys
prefix-both [] xs ys = omega arith
prefix-both (w ∷ ws) xs ys = prefix_same w (ws ++ xs) (ws ++ ys) ∙ omega (arith, prefix-both ws xs ys)

pub order-both : (ws xs ys : List ℕ) → setting_order (ws ++ xs) (ws ++ ys) ≡ setting_order xs ys
order-both [] xs ys = refl
order-both (w ∷ ws) xs ys = order_same w (ws ++ xs) (ws ++ ys) ∙ order-both ws xs ys

-- ---- the first entries of both: the same, or one is lower

data Heads (x y : ℕ) : Type 0 where
  same : x ≡ y → Heads x y
  lower : x < y → Heads x y
  higher : y < x → Heads x y

heads : (x y : ℕ) → Heads x y
heads x y = go (ltb x y) refl (ltb y x) refl
  where
    go : (t : Bool) → ltb x y ≡ t → (u : Bool) → ltb y x ≡ u → Heads x y
    go true e u f = lower (ltb-true x y e)
    go false e true f = higher (ltb-true y x f)
    go false e false f = same (omega (arith, ltb-false x y e, ltb-false y x f))

module _ (x y : ℕ) (xs ys : List ℕ) where
  prefix-apart : (x ≡ y → ⊥) → common_prefix (x ∷ xs) (y ∷ ys) ≡ 0
  prefix-apart h = rw (ne_eqb x y h)

  order-lower : x < y → setting_order (x ∷ xs) (y ∷ ys) ≡ Less
  order-lower l = rw (lt-ltb x y l)

  order-higher : y < x → setting_order (x ∷ xs) (y ∷ ys) ≡ Greater
  order-higher l = rw (le-ltb x y (omega (arith, l)), ne_eqb x y (λ e. omega (arith, l, e)), lt-ltb y x l)

-- ---- what is shared is the same, and as long from either row

pub prefix-sym : (xs ys : List ℕ) → common_prefix xs ys ≡ common_prefix ys xs
prefix-sym [] ys = sym (none_right ys)
prefix-sym (x ∷ xs) [] = refl
prefix-sym (x ∷ xs) (y ∷ ys) = go (heads x y) (prefix-sym xs ys)
  where
    go : Heads x y → common_prefix xs ys ≡ common_prefix ys xs → common_prefix (x ∷ xs) (y ∷ ys) ≡ common_prefix (y ∷ ys) (x ∷ xs)
    go (same e) rest = rw (eq-eqb x y e, eq-eqb y x (sym e), rest)
    go (lower l) rest = prefix-apart x y xs ys (λ e. omega (arith, l, e)) ∙ sym (prefix-apart y x ys xs (λ e. omega (arith, l, e)))
    go (higher l) rest = prefix-apart x y xs ys (λ e. omega (arith, l, e)) ∙ sym (prefix-apart y x ys xs (λ e. omega (arith, l, e)))

pub prefix-shared : (xs ys : List ℕ) → take (common_prefix xs ys) xs ≡ take (common_prefix xs ys) ys
prefix-shared [] ys = refl
prefix-shared (x ∷ xs) [] = refl
prefix-shared (x ∷ xs) (y ∷ ys) = go (eqb x y) refl (prefix-shared xs ys)
  where
    go : (t : Bool) → eqb x y ≡ t → take (common_prefix xs ys) xs ≡ take (common_prefix xs ys) ys → take (common_prefix (x ∷ xs) (y ∷ ys)) (x ∷ xs) ≡ take (common_prefix (x ∷ xs) (y ∷ ys)) (y ∷ ys)
    go true e rest = rw e (rw (eqb-true x y e, rest))
    go false e rest = rw e

-- ---- the order by the first entries that differ

-- where one row is the start of the other, none is earlier
pub order-ended : (xs ys : List ℕ) → (length xs ≤ common_prefix xs ys) ⊎ (length ys ≤ common_prefix xs ys) → setting_order xs ys ≡ Equal
order-ended [] [] h = refl
order-ended [] (y ∷ ys) h = refl
order-ended (x ∷ xs) [] h = refl
order-ended (x ∷ xs) (y ∷ ys) h = go (heads x y) (order-ended xs ys)
  where
    some_left : (x ≡ y → ⊥) → ⊥
    some_left n = let p = prefix-apart x y xs ys n in ⊎_elim (λ l. omega (arith, l, p)) (λ l. omega (arith, l, p)) h

    go : Heads x y → ((length xs ≤ common_prefix xs ys) ⊎ (length ys ≤ common_prefix xs ys) → setting_order xs ys ≡ Equal) → setting_order (x ∷ xs) (y ∷ ys) ≡ Equal
    go (same e) rest =
        let p : common_prefix (x ∷ xs) (y ∷ ys) ≡ suc (common_prefix xs ys) = rw (eq-eqb x y e) in
        rw (sym e) (order_same x xs ys ∙ rest (⊎_elim (λ l. inl (omega (arith, l, p))) (λ l. inr (omega (arith, l, p))) h))
    go (lower l) rest = absurd (some_left (λ e. omega (arith, l, e)))
    go (higher l) rest = absurd (some_left (λ e. omega (arith, l, e)))

-- otherwise the entries behind the prefix decide
abbrev by_entries : ℕ → List ℕ → List ℕ → Ordering
by_entries k xs ys = cond (ltb (get_or xs k 0) (get_or ys k 0)) Less Greater

order-apart : (xs ys : List ℕ) → common_prefix xs ys < length xs → common_prefix xs ys < length ys → setting_order xs ys ≡ by_entries (common_prefix xs ys) xs ys
order-apart [] ys l m = absurd (omega (arith, l))
order-apart (x ∷ xs) [] l m = absurd (omega (arith, m))
order-apart (x ∷ xs) (y ∷ ys) l m = go (heads x y) (order-apart xs ys)
  where
    go : Heads x y → (common_prefix xs ys < length xs → common_prefix xs ys < length ys → setting_order xs ys ≡ by_entries (common_prefix xs ys) xs ys)
        → setting_order (x ∷ xs) (y ∷ ys) ≡ by_entries (common_prefix (x ∷ xs) (y ∷ ys)) (x ∷ xs) (y ∷ ys)
    go (same e) rest =
        let p : common_prefix (x ∷ xs) (y ∷ ys) ≡ suc (common_prefix xs ys) = rw (eq-eqb x y e) in
        rw (sym e) (order_same x xs ys ∙ rest (omega (arith, l, p)) (omega (arith, m, p)) ∙ ap (λ k. by_entries k (x ∷ xs) (x ∷ ys)) (sym (prefix_same x xs ys)))
    go (lower h) rest = order-lower x y xs ys h ∙ sym (rw (prefix-apart x y xs ys (λ e. omega (arith, h, e)), lt-ltb x y h))
    go (higher h) rest = order-higher x y xs ys h ∙ sym (rw (prefix-apart x y xs ys (λ e. omega (arith, h, e)), le-ltb x y (omega (arith, h))))

module _ (xs ys : List ℕ) {k : ℕ} (e : k ≡ common_prefix xs ys) (l : k < length xs) (m : k < length ys) where
  decided : setting_order xs ys ≡ by_entries k xs ys
  decided = order-apart xs ys (omega (arith, e, l)) (omega (arith, e, m)) ∙ ap (λ k. by_entries k xs ys) (sym e)

  pub order-first : get_or xs k 0 < get_or ys k 0 → setting_order xs ys ≡ Less
  order-first h = decided ∙ rw (lt-ltb _ _ h)

  pub order-second : get_or ys k 0 ≤ get_or xs k 0 → setting_order xs ys ≡ Greater
  order-second h = decided ∙ rw (le-ltb _ _ h)
