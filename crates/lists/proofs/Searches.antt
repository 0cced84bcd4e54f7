-- Laws of the finite searches: every, some?, find, keep and elem.
-- Assumes nothing.
use Prim.Native.Nat.{ℕ, zero, suc, ◌+◌, ◌≤◌, ◌<◌}
use mathlib.Core.Path.{◌≡◌, refl, sym, ◌∙◌, ap}
use mathlib.Core.Logic.{◌⊎◌, inl, inr, ⊎_elim}
use mathlib.Core.Bool.{Bool, true, false, cond, ◌&&◌, ◌||◌, true≢false, false≢true}
use mathlib.Core.List.{List, [], ◌∷◌, ◌++◌, map, Memᴰ}
use mathlib.Core.Option.{none, some, some-injective, none-ne-some, some-ne-none}
use native.Mathlib.Nat.{not-suc-le-zero, le_of_suc-le-suc}
use native.Mathlib.Omega.{arith}
use mathlib.Mathlib.Data.Bool.Basic.{and_elim_left, and_elim_right, and_intro, or_inl, or_inr, Bool-eq-false}
use lib.ListN.{length, get_or, take, drop, drop_of_length-le, length-append, length-take}
use lib.Seq.{split_at, take-take, get_or-take, get_or-append_seam}
use lib.Dec.{eqb, ltb}
use borrow.Author.Tests.{eqb-true, eqb-false, eq-eqb, ltb-true, lt-ltb, le-ltb}
use Rattle.lists.specs.Lists.{range, every, some?, find, keep, elem}
use Rattle.lists.proofs.Bools.{or_cases, decide, clash, same_test}
use Rattle.lists.proofs.Lists.{drop-one, length-cond, length-cond-le}

module _ {A : Type 0} (p : A → Bool) where
  -- every: what holds of each member, and the other way round
  pub every-at : {x : A} {xs : List A} → every p xs ≡ true → Memᴰ x xs → p x ≡ true
  every-at h (mathlib.Core.List.Memᴰ.head {x = y} {xs = ys} e) = rw e (and_elim_left (p y) (every p ys) h)
  every-at h (mathlib.Core.List.Memᴰ.tail {x = y} {xs = ys} m) = every-at (and_elim_right (p y) (every p ys) h) m

  pub every-make : (xs : List A) → ((x : A) → Memᴰ x xs → p x ≡ true) → every p xs ≡ true
  every-make [] f = refl
  every-make (x ∷ xs) f = and_intro (f x (mathlib.Core.List.Memᴰ.head refl)) (every-make xs (λ y m. f y (mathlib.Core.List.Memᴰ.tail m)))

  pub every-fails : (xs : List A) → every p xs ≡ false → (x : A) × Memᴰ x xs × (p x ≡ false)
  every-fails [] h = absurd (true≢false h)
  every-fails (x ∷ xs) h =
      ⊎_elim
      (λ e. let r = every-fails xs (rw e at h) in (r.0, mathlib.Core.List.Memᴰ.tail r.1, r.2))
      (λ e. (x, mathlib.Core.List.Memᴰ.head refl, e))
      (decide (p x))

  -- every, by place
  pub every-get_or : (xs : List A) (i : ℕ) (d : A) → every p xs ≡ true → i < length xs → p (get_or xs i d) ≡ true
  every-get_or [] i d h l = absurd (not-suc-le-zero l)
  every-get_or (x ∷ xs) zero d h l = and_elim_left (p x) _ h
  every-get_or (x ∷ xs) (suc i) d h l = every-get_or xs i d (and_elim_right (p x) _ h) (le_of_suc-le-suc l)

  pub every-from : (xs : List A) (d : A) → ((i : ℕ) → i < length xs → p (get_or xs i d) ≡ true) → every p xs ≡ true
  every-from [] d f = refl
  every-from (x ∷ xs) d f = and_intro (f 0 (omega arith)) (every-from xs d (λ i l. f (suc i) (omega arith)))

  -- some?: a member of which the test holds
  pub some-make : {x : A} {xs : List A} → Memᴰ x xs → p x ≡ true → some? p xs ≡ true
  some-make (mathlib.Core.List.Memᴰ.head {x = y} {xs = ys} e) h = or_inl _ (some? p ys) (rw e at h)
  some-make (mathlib.Core.List.Memᴰ.tail {x = y} {xs = ys} m) h = or_inr (p y) _ (some-make m h)

  pub some-has : (xs : List A) → some? p xs ≡ true → (x : A) × Memᴰ x xs × (p x ≡ true)
  some-has [] h = absurd (false≢true h)
  some-has (x ∷ xs) h =
      ⊎_elim
      (λ e. (x, mathlib.Core.List.Memᴰ.head refl, e))
      (λ e. let r = some-has xs (rw e at h) in (r.0, mathlib.Core.List.Memᴰ.tail r.1, r.2))
      (decide (p x))

  -- the same by number
  pub some-get_or : (xs : List A) (i : ℕ) (d : A) → i < length xs → p (get_or xs i d) ≡ true → some? p xs ≡ true
  some-get_or [] i d l e = absurd (omega arith)
  some-get_or (x ∷ xs) zero d l e = or_inl _ _ e
  some-get_or (x ∷ xs) (suc i) d l e = or_inr (p x) _ (some-get_or xs i d (omega arith) e)

  pub some_at : (xs : List A) (d : A) → some? p xs ≡ true → (i : ℕ) × (i < length xs) × (p (get_or xs i d) ≡ true)
  some_at [] d e = absurd (false≢true e)
  some_at (x ∷ xs) d e =
      ⊎_elim
      (λ here. (0, omega arith, here))
      (λ more. let k = some_at xs d more in (suc k.0, omega (arith, k.1), k.2))
      (or_cases (p x) _ e)

  pub some-none : {x : A} {xs : List A} → some? p xs ≡ false → Memᴰ x xs → p x ≡ false
  some-none {x} h m = Bool-eq-false {b = p x} (λ e. clash (some-make m e) h)

  -- find: what it does at one member
  pub find-yes : {x : A} (xs : List A) → p x ≡ true → find p (x ∷ xs) ≡ some x
  find-yes xs e = rw (e, find)

  pub find-no : {x : A} (xs : List A) → p x ≡ false → find p (x ∷ xs) ≡ find p xs
  find-no xs e = rw (e, find)

  -- what is found is a member of which the test holds; if nothing is found, it holds of none
  pub find-some : (xs : List A) {x : A} → find p xs ≡ some x → Memᴰ x xs × (p x ≡ true)
  find-some [] {x} h = absurd (none-ne-some x h)
  find-some (y ∷ xs) {x} h =
      ⊎_elim
      (λ e. let q : y ≡ x = some-injective y x (sym (find-yes xs e) ∙ h) in (mathlib.Core.List.Memᴰ.head (sym q), rw q at e))
      (λ e. let r = find-some xs (sym (find-no xs e) ∙ h) in (mathlib.Core.List.Memᴰ.tail r.0, r.1))
      (decide (p y))

  pub find_none : {x : A} {xs : List A} → find p xs ≡ none → Memᴰ x xs → p x ≡ false
  find_none h (mathlib.Core.List.Memᴰ.head {x = y} {xs = ys} e) = rw e (Bool-eq-false {b = p y} (λ t. some-ne-none y (sym (find-yes ys t) ∙ h)))
  find_none h (mathlib.Core.List.Memᴰ.tail {x = y} {xs = ys} m) =
      ⊎_elim
      (λ e. absurd (some-ne-none y (sym (find-yes ys e) ∙ h)))
      (λ e. find_none (sym (find-no ys e) ∙ h) m)
      (decide (p y))

  pub find-is : (xs : List A) → ((x : A) → Memᴰ x xs → p x ≡ false) → find p xs ≡ none
  find-is [] f = refl
  find-is (x ∷ xs) f = find-no xs (f x (mathlib.Core.List.Memᴰ.head refl)) ∙ find-is xs (λ y m. f y (mathlib.Core.List.Memᴰ.tail m))

  -- what is found in two lists after each other is found in the first, or in the second and not in the first
  pub find-append : (xs ys : List A) {x : A} → find p (xs ++ ys) ≡ some x → (find p xs ≡ some x) ⊎ ((find p xs ≡ none) × (find p ys ≡ some x))
  find-append [] ys h = inr (refl, h)
  find-append (y ∷ xs) ys h =
      ⊎_elim
      (λ e. inl (find-yes xs e ∙ (sym (find-yes (xs ++ ys) e) ∙ h)))
      (λ e. rw (find-no xs e) (find-append xs ys (sym (find-no (xs ++ ys) e) ∙ h)))
      (decide (p y))

  -- keep: the members of which the test holds
  pub keep-in : {x : A} (xs : List A) → Memᴰ x (keep p xs) → Memᴰ x xs × (p x ≡ true)
  keep-in [] m = absurd (mathlib.Core.List.Memᴰ.not-nil m)
  keep-in {x} (y ∷ xs) m =
      let later : Memᴰ x (keep p xs) → Memᴰ x (y ∷ xs) × (p x ≡ true) = λ k. let r = keep-in xs k in (mathlib.Core.List.Memᴰ.tail r.0, r.1) in
      ⊎_elim
      (λ e. ⊎_elim (λ q. (mathlib.Core.List.Memᴰ.head q, rw q e)) later (mathlib.Core.List.Memᴰ.cases_cons (rw e at m)))
      (λ e. later (rw e at m))
      (decide (p y))

  pub keep-has : {x : A} {xs : List A} → Memᴰ x xs → p x ≡ true → Memᴰ x (keep p xs)
  keep-has (mathlib.Core.List.Memᴰ.head {x = y} e) h = rw (rw e at h) (mathlib.Core.List.Memᴰ.head e)
  keep-has (mathlib.Core.List.Memᴰ.tail {x = y} m) h =
      ⊎_elim
      (λ e. rw e (mathlib.Core.List.Memᴰ.tail (keep-has m h)))
      (λ e. rw e (keep-has m h))
      (decide (p y))

-- Tests that agree on the members find the same.
pub find-same : {A : Type 0} (p q : A → Bool) (xs : List A) → ((x : A) → Memᴰ x xs → p x ≡ q x) → find p xs ≡ find q xs
find-same p q [] f = refl
find-same p q (x ∷ xs) f =
    let same = f x (mathlib.Core.List.Memᴰ.head refl) in
    ⊎_elim
    (λ e. find-yes p xs e ∙ sym (find-yes q xs (sym same ∙ e)))
    (λ e. find-no p xs e ∙ (find-same p q xs (λ y m. f y (mathlib.Core.List.Memᴰ.tail m)) ∙ sym (find-no q xs (sym same ∙ e))))
    (decide (p x))

-- What is found among the values of a function.
pub find-map : {A B : Type 0} (f : A → B) (p : B → Bool) (xs : List A) {y : B} → find p (map f xs) ≡ some y → (x : A) × (find (λ z. p (f z)) xs ≡ some x) × (y ≡ f x)
find-map f p [] {y} h = absurd (none-ne-some y h)
find-map f p (x ∷ xs) {y} h =
    ⊎_elim
    (λ e. (x, find-yes (λ z. p (f z)) xs e, sym (some-injective (f x) y (sym (find-yes p (map f xs) e) ∙ h))))
    (λ e. let r = find-map f p xs (sym (find-no p (map f xs) e) ∙ h) in (r.0, find-no (λ z. p (f z)) xs e ∙ r.1, r.2))
    (decide (p (f x)))

-- What is found in a range is the first number of which the test holds.
pub find_first : (p : ℕ → Bool) (i n : ℕ) {k : ℕ} → find p (range i n) ≡ some k → (j : ℕ) → i ≤ j → j < k → p j ≡ false
find_first p i zero {k} h j l m = absurd (none-ne-some k h)
find_first p i (suc n) {k} h j l m =
    let rest = range (suc i) n in
    let later : p i ≡ false → (j ≡ i → ⊥) → p j ≡ false = λ e d. find_first p (suc i) n (sym (find-no p rest e) ∙ h) j (omega arith) m in
    ⊎_elim
    (λ e. let q : i ≡ k = some-injective i k (sym (find-yes p rest e) ∙ h) in absurd (omega arith))
    (λ e. ⊎_elim (λ q. rw (eqb-true j i q) e) (λ q. later e (eqb-false j i q)) (decide (eqb j i)))
    (decide (p i))

-- elem: membership of a number
pub elem-has : {b : ℕ} {xs : List ℕ} → Memᴰ b xs → elem b xs ≡ true
elem-has {b} m = some-make (eqb b) m (eq-eqb b b refl)

pub elem_in : (b : ℕ) (xs : List ℕ) → elem b xs ≡ true → Memᴰ b xs
elem_in b xs h = let r = some-has (eqb b) xs h in mathlib.Core.List.Memᴰ.cast (eqb-true b r.0 r.2) r.1

pub elem-keep : (p : ℕ → Bool) {b : ℕ} {xs : List ℕ} → Memᴰ b xs → elem b (keep p xs) ≡ p b
elem-keep p {b} {xs} m = same_test (elem b (keep p xs)) (p b) (λ e. (keep-in p xs (elem_in b (keep p xs) e)).1) (λ e. elem-has (keep-has p m e))

-- tests that agree on the members keep the same
pub keep_same : {A : Type 0} (p q : A → Bool) (xs : List A) → ((x : A) → Memᴰ x xs → p x ≡ q x) → keep p xs ≡ keep q xs
keep_same p q [] f = refl
keep_same p q (x ∷ xs) f = rw (f x (mathlib.Core.List.Memᴰ.head refl), keep_same p q xs (λ y m. f y (mathlib.Core.List.Memᴰ.tail m)))

-- what is kept of two lists after each other, how many, and by a test that always fails
pub keep_append : {A : Type 0} (p : A → Bool) (xs ys : List A) → keep p (xs ++ ys) ≡ keep p xs ++ keep p ys
keep_append p [] ys = refl
keep_append {A} p (x ∷ xs) ys = rw (keep_append p xs ys) (one (p x) (keep p xs))
  where
    one : (b : Bool) (ks : List A) → cond b (x ∷ (ks ++ keep p ys)) (ks ++ keep p ys) ≡ cond b (x ∷ ks) ks ++ keep p ys
    one true ks = refl
    one false ks = refl

pub count-append : {A : Type 0} (p : A → Bool) (xs ys : List A) → length (keep p (xs ++ ys)) ≡ length (keep p xs) + length (keep p ys)
count-append p xs ys = ap length (keep_append p xs ys) ∙ length-append (keep p xs) (keep p ys)

-- what keep does at one member
module _ {A : Type 0} (p : A → Bool) where
  keep-yes : {x : A} (xs : List A) → p x ≡ true → keep p (x ∷ xs) ≡ x ∷ keep p xs
  keep-yes xs e = rw e

  keep-no : {x : A} (xs : List A) → p x ≡ false → keep p (x ∷ xs) ≡ keep p xs
  keep-no xs e = rw e

  -- the first that is kept is what is found
  pub keep-first : (d : A) (xs : List A) {k : A} → find p xs ≡ some k → get_or (keep p xs) 0 d ≡ k
  keep-first d [] {k} h = absurd (none-ne-some k h)
  keep-first d (x ∷ xs) {k} h =
      ⊎_elim
      (λ e. ap (λ (l : List A). get_or l 0 d) (keep-yes xs e) ∙ some-injective x k (sym (find-yes p xs e) ∙ h))
      (λ e. ap (λ (l : List A). get_or l 0 d) (keep-no xs e) ∙ keep-first d xs (sym (find-no p xs e) ∙ h))
      (decide (p x))

-- some?: a list without members of which it fails
pub some-keep : {A : Type 0} (p q : A → Bool) (xs : List A) → ((x : A) → p x ≡ false → q x ≡ false) → some? q (keep p xs) ≡ some? q xs
some-keep p q [] f = refl
some-keep p q (x ∷ xs) f =
    ⊎_elim
    (λ e. ap (some? q) (keep-yes p xs e) ∙ ap (λ (b : Bool). q x || b) (some-keep p q xs f))
    (λ e. ap (some? q) (keep-no p xs e) ∙ some-keep p q xs f ∙ ap (λ (b : Bool). b || some? q xs) (sym (f x e)))
    (decide (p x))

-- what is kept is kept again, or searched, by both tests at once
module _ {A : Type 0} (p q : A → Bool) where
  pub keep-keep : (xs : List A) → keep q (keep p xs) ≡ keep (λ x. p x && q x) xs
  keep-keep [] = refl
  keep-keep (x ∷ xs) =
      ⊎_elim
      (λ e. ap (keep q) (keep-yes p xs e) ∙ ap (λ (l : List A). cond (q x) (x ∷ l) l) (keep-keep xs) ∙ rw e)
      (λ e. ap (keep q) (keep-no p xs e) ∙ keep-keep xs ∙ rw e)
      (decide (p x))

  pub find-keep : (xs : List A) → find q (keep p xs) ≡ find (λ x. p x && q x) xs
  find-keep [] = refl
  find-keep (x ∷ xs) =
      ⊎_elim
      (λ e. ap (find q) (keep-yes p xs e) ∙ ⊎_elim
      (λ f. find-yes q (keep p xs) f ∙ sym (find-yes (λ x. p x && q x) xs (and_intro e f)))
      (λ f. find-no q (keep p xs) f ∙ find-keep xs ∙ sym (find-no (λ x. p x && q x) xs (rw (e, f))))
      (decide (q x)))
      (λ e. ap (find q) (keep-no p xs e) ∙ find-keep xs ∙ sym (find-no (λ x. p x && q x) xs (rw e)))
      (decide (p x))

pub keep-none : {A : Type 0} (xs : List A) → keep (λ x. false) xs ≡ []
keep-none [] = refl
keep-none (x ∷ xs) = keep-none xs

-- the lowest number of a range that passes a test is what is found
pub find-lowest : (p : ℕ → Bool) (i n k : ℕ) → i ≤ k → k < i + n → p k ≡ true → ((j : ℕ) → i ≤ j → j < k → p j ≡ false) → find p (range i n) ≡ some k
find-lowest p i zero k l m y f = absurd (omega arith)
find-lowest p i (suc n) k l m y f =
    ⊎_elim
    (λ same. let e : i ≡ k = sym (eqb-true k i same) in find-yes p (range (suc i) n) (rw e y) ∙ ap some e)
    (λ other.
    let n' : k ≡ i → ⊥ = eqb-false k i other in
    find-no p (range (suc i) n) (f i (omega arith) (omega arith)) ∙ find-lowest p (suc i) n k (omega arith) (omega arith) y (λ j a b. f j (omega arith) b))
    (decide (eqb k i))

-- ---- places among the kept

module _ {A : Type 0} (p : A → Bool) where
  -- no more are kept than there are
  pub length-keep : (l : List A) → length (keep p l) ≤ length l
  length-keep [] = omega arith
  length-keep (x ∷ l) = length-cond-le (p x) x (keep p l) (length l) (length-keep l)

  -- a member that is kept has the place that says how many before it are kept
  module _ (l : List A) (i : ℕ) (d : A) (h : i < length l) (e : p (get_or l i d) ≡ true) where
    keep-split : keep p l ≡ keep p (take i l) ++ get_or l i d ∷ keep p (drop (suc i) l)
    keep-split = ap (keep p) (split_at l i d h) ∙ keep_append p (take i l) (get_or l i d ∷ drop (suc i) l) ∙ rw e

    pub kept_at : get_or (keep p l) (length (keep p (take i l))) d ≡ get_or l i d
    kept_at = ap (λ (m : List A). get_or m (length (keep p (take i l))) d) keep-split ∙ get_or-append_seam (keep p (take i l)) (get_or l i d) _ d

    pub kept-below : length (keep p (take i l)) < length (keep p l)
    kept-below = omega (arith, ap length keep-split, length-append (keep p (take i l)) (get_or l i d ∷ keep p (drop (suc i) l)))

  -- these places rise
  pub kept-rises : (l : List A) (i j : ℕ) (d : A) → i < length l → p (get_or l i d) ≡ true → i < j → length (keep p (take i l)) < length (keep p (take j l))
  kept-rises l i j d h e k =
      rw (take-take i j l (omega arith)) at (kept-below (take j l) i d (omega (arith, length-take j l)) (rw (get_or-take j l i d k) e))

  -- and each place among the kept is that of a member
  pub record KeptFrom (l : List A) (d : A) (k : ℕ) : Type 0 where
    pub from : ℕ
    pub below : from < length l
    pub passes : p (get_or l from d) ≡ true
    pub place : length (keep p (take from l)) ≡ k

  kept-after : (x : A) (l : List A) (d : A) (k : ℕ) → KeptFrom l d k → KeptFrom (x ∷ l) d (cond (p x) (suc k) k)
  kept-after x l d k r = record { from = suc r.from; below = omega (arith, r.below); passes = r.passes; place = length-cond (p x) x (keep p (take r.from l)) r.place }

  pub kept_from : (l : List A) (d : A) (k : ℕ) → k < length (keep p l) → KeptFrom l d k
  kept_from [] d k h = absurd (not-suc-le-zero h)
  kept_from (x ∷ l) d zero h =
      ⊎_elim
      (λ e. record { from = 0; below = omega arith; passes = e; place = refl })
      (λ e. rw e at (kept-after x l d 0 (kept_from l d 0 (rw e at h))))
      (decide (p x))
  kept_from (x ∷ l) d (suc k) h =
      ⊎_elim
      (λ e. rw e at (kept-after x l d k (kept_from l d k (le_of_suc-le-suc (rw e at h)))))
      (λ e. rw e at (kept-after x l d (suc k) (kept_from l d (suc k) (rw e at h))))
      (decide (p x))

-- ---- a loop that tests one member after the other

-- Of the first i members the test holds: it holds of every member exactly if it holds of every one from i on.
pub record Passed {A : Type 0} (p : A → Bool) (l : List A) (i : ℕ) : Type 0 where
  pub below : i ≤ length l
  pub left : every p l ≡ every p (drop i l)

module _ {A : Type 0} (p : A → Bool) (l : List A) where
  -- none is passed; one more passes, or does not; all have passed
  pub passed_none : Passed p l 0
  passed_none = record { below = omega arith; left = refl }

  module _ (i : ℕ) (h : Passed p l i) where
    pub passed-more : (d : A) → i < length l → p (get_or l i d) ≡ true → Passed p l (i + 1)
    passed-more d m e = record { below = omega arith; left = h.left ∙ rw (drop-one l i d m, e) }

    pub passed-not : (d : A) → i < length l → p (get_or l i d) ≡ false → false ≡ every p l
    passed-not d m e = sym (h.left ∙ rw (drop-one l i d m, e))

    pub passed-all : length l ≤ i → true ≡ every p l
    passed-all m = sym (h.left ∙ rw (drop_of_length-le l m))

-- ---- counting by a test

-- what holds of more members keeps more of them
module _ {A : Type 0} (p q : A → Bool) (more : (x : A) → p x ≡ true → q x ≡ true) where
  keep-le : (l : List A) → length (keep p l) ≤ length (keep q l)
  keep-le [] = omega arith
  keep-le (x ∷ l) = go (p x) (q x) refl refl (keep-le l)
    where
      go : (a b : Bool) → p x ≡ a → q x ≡ b → length (keep p l) ≤ length (keep q l) → length (cond a (x ∷ keep p l) (keep p l)) ≤ length (cond b (x ∷ keep q l) (keep q l))
      go true true e f h = omega arith
      go true false e f h = clash (more x e) f
      go false true e f h = omega arith
      go false false e f h = h

  keep-fewer : {y : A} (l : List A) → Memᴰ y l → p y ≡ false → q y ≡ true → length (keep p l) < length (keep q l)
  keep-fewer {y = y} [] m n h = elim m [ ]
  keep-fewer (x ∷ l) (mathlib.Core.List.Memᴰ.head e) n h = rw (ap p (sym e) ∙ n, ap q (sym e) ∙ h) (omega (arith, keep-le l))
  keep-fewer (x ∷ l) (mathlib.Core.List.Memᴰ.tail m) n h = go (p x) (q x) refl refl (keep-fewer l m n h)
    where
      go : (a b : Bool) → p x ≡ a → q x ≡ b → length (keep p l) < length (keep q l) → length (cond a (x ∷ keep p l) (keep p l)) < length (cond b (x ∷ keep q l) (keep q l))
      go true true e f h = omega arith
      go true false e f h = clash (more x e) f
      go false true e f h = omega arith
      go false false e f h = h

-- if f gives each number up to k to some member, there are more members than k
module _ {A : Type 0} (f : A → ℕ) (l : List A) where
  ltb-more : (d : ℕ) (x : A) → ltb (f x) d ≡ true → ltb (f x) (suc d) ≡ true
  ltb-more d x e = lt-ltb (f x) (suc d) (omega (arith, ltb-true (f x) d e))

  many_below : (d : ℕ) → ((j : ℕ) → j < d → (x : A) × Memᴰ x l × (f x ≡ j)) → d ≤ length (keep (λ x. ltb (f x) d) l)
  many_below zero h = omega arith
  many_below (suc d) h =
      let y = h d (omega arith) in
      omega (arith, many_below d (λ j b. h j (omega arith)), keep-fewer (λ x. ltb (f x) d) (λ x. ltb (f x) (suc d)) (ltb-more d) l y.1 (le-ltb (f y.0) d (omega (arith, y.2))) (lt-ltb (f y.0) (suc d) (omega (arith, y.2))))

  pub attained-below : (k : ℕ) → ((j : ℕ) → j ≤ k → (x : A) × Memᴰ x l × (f x ≡ j)) → k < length l
  attained-below k h = omega (arith, many_below (suc k) (λ j b. h j (omega arith)), length-keep (λ x. ltb (f x) (suc k)) l)
