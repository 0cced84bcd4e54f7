-- Laws of lists by place: get_or, take, drop, set, ++, map and replicate, beyond those of lib.ListN and lib.Seq.
-- Assumes nothing.
use Prim.Native.Nat.{ℕ, zero, suc, min, ◌+◌, ◌-◌, ◌≤◌, ◌<◌}
use native.Mathlib.Nat.{not-suc-le-zero, le_of_suc-le-suc, sub-zero, zero-sub, suc-sub-suc, suc-ne-zero, min-zero, suc-min-suc}
use native.Mathlib.Numerals.{add-one}
use native.Mathlib.Omega.{arith}
use mathlib.Core.Path.{◌≡◌, refl, ap, ◌∙◌}
use mathlib.Core.Bool.{Bool, true, false, cond}
use mathlib.Core.List.{List, [], ◌∷◌, ◌++◌, map}
use lib.ListN.{length, get_or, take, drop, set, replicate, length-append, length-take, length-drop, length-set, drop_of_length-le, get_or-append}
use lib.Seq.{sets, length-sets, get_or-take, get_or-drop, get_or-append-add, take-nil, take_all, take-suc, take-suc-set, drop-cons, set_at, append_snoc, length-take-le}

module _ {A : Type 0} where
  -- ---- get_or

  -- within a list the default does not matter
  pub get_d_any : (xs : List A) (i : ℕ) (d d' : A) → i < length xs → get_or xs i d ≡ get_or xs i d'
  get_d_any [] i d d' h = absurd (not-suc-le-zero h)
  get_d_any (x ∷ xs) zero d d' h = refl
  get_d_any (x ∷ xs) (suc i) d d' h = get_d_any xs i d d' (le_of_suc-le-suc h)

  -- all places of a list of one element, and those past it, have that element
  pub get_or-replicate-all : (n i : ℕ) (a : A) → get_or (replicate n a) i a ≡ a
  get_or-replicate-all zero i a = refl
  get_or-replicate-all (suc n) zero a = refl
  get_or-replicate-all (suc n) (suc i) a = get_or-replicate-all n i a

  -- in the front of one list before the back of another
  pub get_d_front : (xs ys : List A) (i j : ℕ) (d : A) → i ≤ length xs → j < i → get_or (take i xs ++ drop i ys) j d ≡ get_or xs j d
  get_d_front xs ys i j d l k = get_or-append (take i xs) (drop i ys) d j (omega (arith, length-take-le i xs l)) ∙ get_or-take i xs j d k

  pub get_or-back : (xs ys : List A) (i j : ℕ) (d : A) → i ≤ length xs → i ≤ j → get_or (take i xs ++ drop i ys) j d ≡ get_or ys j d
  get_or-back xs ys i j d l k =
      let at : j ≡ length (take i xs) + (j - i) = omega (arith, length-take-le i xs l) in
      ap (λ (m : ℕ). get_or (take i xs ++ drop i ys) m d) at ∙ get_or-append-add (take i xs) (drop i ys) (j - i) d ∙ get_or-drop i ys (j - i) d ∙ ap (λ (m : ℕ). get_or ys m d) (omega arith)

  -- ---- take and drop

  pub nil-of-length : (l : List A) → length l ≡ 0 → l ≡ []
  nil-of-length [] e = refl
  nil-of-length (x ∷ l) e = absurd (suc-ne-zero (length l) e)

  -- as many members as there are, at most n
  pub take_min : (n : ℕ) (l : List A) → take (min (length l) n) l ≡ take n l
  take_min zero l = ap (λ (k : ℕ). take k l) (min-zero (length l))
  take_min (suc n) [] = take-nil (min (length {A = A} []) (suc n))
  take_min (suc n) (x ∷ l) = ap (λ (k : ℕ). take k (x ∷ l)) (suc-min-suc (length l) n) ∙ ap (λ (t : List A). x ∷ t) (take_min n l)

  -- the next member, and what is left after it
  pub drop-one : (l : List A) (i : ℕ) (d : A) → i < length l → drop i l ≡ get_or l i d ∷ drop (i + 1) l
  drop-one l i d h = rw (add-one, drop-cons l i d)

  -- what is left from a place on, cut to the length that is left
  pub take_rest : (i : ℕ) (l : List A) → take (length l - i) (drop i l) ≡ drop i l
  take_rest i l = take_all (length l - i) (drop i l) (omega (arith, length-drop i l))

  -- and nothing after it
  pub drop-rest : (i : ℕ) (l : List A) → drop (length l - i) (drop i l) ≡ []
  drop-rest i l = drop_of_length-le (drop i l) {i = length l - i} (omega (arith, length-drop i l))

  pub drop-replicate : (i n : ℕ) (a : A) → drop i (replicate n a) ≡ replicate (n - i) a
  drop-replicate zero n a = rw (sub-zero n)
  drop-replicate (suc i) zero a = rw (zero-sub (suc i))
  drop-replicate (suc i) (suc n) a = rw (suc-sub-suc n i) (drop-replicate i n a)

  -- ---- stores

  -- the front of a list, with one more member stored at its end
  pub take-stored : (l : List A) (i : ℕ) (v : A) (rest : List A) → i < length l → take (i + 1) (set l i v) ++ rest ≡ take i l ++ v ∷ rest
  take-stored l i v rest h = rw (add-one, take-suc-set l i v h) (append_snoc (take i l) v rest)

  -- a store of member i of s at i, where the members before it are copied
  pub copy_more : (s old : List A) (i : ℕ) (d : A) → i < length s → i < length old → set (take i s ++ drop i old) i (get_or s i d) ≡ take (i + 1) s ++ drop (i + 1) old
  copy_more s old i d l k =
      rw (add-one, drop-cons old i d k, take-suc s i d l, append_snoc)
      (set_at (take i s) (get_or old i d) (drop (suc i) old) (get_or s i d) i (length-take-le i s (omega arith)))

  -- a run of stores after a run of stores
  sets-append : (l : List A) (i : ℕ) (xs ys : List A) → sets (sets l i xs) (i + length xs) ys ≡ sets l i (xs ++ ys)
  sets-append l i [] ys = ap (λ j. sets l j ys) (omega arith)
  sets-append l i (x ∷ xs) ys =
      let next : i + suc (length xs) ≡ suc i + length xs = omega arith in
      rw next (sets-append (set l i x) (suc i) xs ys)

  pub sets-after : (l : List A) (i j : ℕ) (xs ys : List A) → j ≡ i + length xs → sets (sets l i xs) j ys ≡ sets l i (xs ++ ys)
  sets-after l i j xs ys e = rw e (sets-append l i xs ys)

  -- stores keep the length
  pub sets-long : (l l₁ : List A) (i : ℕ) (vs : List A) → l₁ ≡ sets l i vs → length l₁ ≡ length l
  sets-long l l₁ i vs e = ap length e ∙ length-sets l i vs

  pub set-sets-long : (l l₁ : List A) (at : ℕ) (k : A) (i : ℕ) (vs : List A) → l₁ ≡ sets (set l at k) i vs → length l₁ ≡ length l
  set-sets-long l l₁ at k i vs e = sets-long (set l at k) l₁ i vs e ∙ length-set l at k

  -- ---- a list that may have one member more

  pub length-cond : (b : Bool) (x : A) (l : List A) {n : ℕ} → length l ≡ n → length (cond b (x ∷ l) l) ≡ cond b (suc n) n
  length-cond true x l e = ap suc e
  length-cond false x l e = e

  pub length-cond-le : (b : Bool) (x : A) (l : List A) (n : ℕ) → length l ≤ n → length (cond b (x ∷ l) l) ≤ suc n
  length-cond-le true x l n h = omega arith
  length-cond-le false x l n h = omega arith

-- ---- map

module _ {A B : Type 0} (f : A → B) where
  pub get_d_map : (l : List A) (i : ℕ) (d : A) (e : B) → i < length l → get_or (map f l) i e ≡ f (get_or l i d)
  get_d_map [] i d e h = absurd (not-suc-le-zero h)
  get_d_map (x ∷ l) zero d e h = refl
  get_d_map (x ∷ l) (suc i) d e h = get_d_map l i d e (le_of_suc-le-suc h)

  pub set-map : (l : List A) (i : ℕ) (x : A) → set (map f l) i (f x) ≡ map f (set l i x)
  set-map [] i x = refl
  set-map (y ∷ l) zero x = refl
  set-map (y ∷ l) (suc i) x = ap (λ ys. f y ∷ ys) (set-map l i x)

  pub drop-map : (i : ℕ) (l : List A) → drop i (map f l) ≡ map f (drop i l)
  drop-map zero l = refl
  drop-map (suc i) [] = refl
  drop-map (suc i) (x ∷ l) = drop-map i l

  -- a store of the next value into room behind the values of f
  pub map_more : (l : List A) (i k : ℕ) (d : A) (z : B) → i < length l → set (map f (take i l) ++ replicate (suc k) z) i (f (get_or l i d)) ≡ map f (take (suc i) l) ++ replicate k z
  map_more [] i k d z h = absurd (not-suc-le-zero h)
  map_more (x ∷ l) zero k d z h = refl
  map_more (x ∷ l) (suc i) k d z h = ap (λ ys. f x ∷ ys) (map_more l i k d z (le_of_suc-le-suc h))

-- ---- a row copied over another, member by member

-- The first i members of s stand over those of old.
pub record Copied (s old new : List ℕ) (i : ℕ) : Type 0 where
  pub within : i ≤ length s
  pub room : i ≤ length old
  pub bytes : new ≡ take i s ++ drop i old

pub copied_none : (s old : List ℕ) → Copied s old old 0
copied_none s old = record { within = omega arith; room = omega arith; bytes = refl }

module _ {s old new : List ℕ} {i : ℕ} (c : Copied s old new i) where
  -- the row keeps its length
  pub copied-length : length new ≡ length old
  copied-length = omega (arith, ap length c.bytes, length-append (take i s) (drop i old), length-take i s, length-drop i old, c.within, c.room)

  -- one member more
  pub copied_more : i < length s → i < length old → (x : ℕ) → x ≡ get_or s i 0 → Copied s old (set new i x) (i + 1)
  copied_more l k x e = record { within = omega arith; room = omega arith; bytes = ap (λ (y : List ℕ). set y i x) c.bytes ∙ rw e (copy_more s old i 0 l k) }
