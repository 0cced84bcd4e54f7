-- The replies of first and next: equality of replies, which reply is given when, and demand 3 over the definition of next.
-- Assumes nothing.
use Prim.Native.Nat.{ℕ, zero, suc, ◌≤◌}
use native.Mathlib.Omega.{arith}
use mathlib.Core.Path.{◌≡◌, refl, sym, ap, subst⁻¹, ◌∙◌}
use mathlib.Core.Bool.{Bool, true, false, cond, true≢false}
use mathlib.Core.Logic.{◌↔◌}
use mathlib.Core.Option.{Option, none, some, some-ne-none}
use mathlib.Core.List.{List, []}
use lib.ListN.{length}
use mathlib.Mathlib.Data.Bool.Basic.{Bool-eq-false}
use lib.Dec.{eqb}
use borrow.Author.Tests.{le-leb, ne_eqb}
use Rattle.network.specs.declared.Refusal.{Refusal}
use Rattle.network.specs.declared.Refusal.TheVariants.{BasinCount, TooManyReaches, EndOutOfRange, Truncated, UnknownKind, TrailingBytes, ShortBuffer, BadSetting, LastPlan}
use Rattle.lists.specs.Lists.{range}
use Rattle.network.specs.Networks.{Network, Accepted, max_reaches}
use Rattle.network.specs.Settings.{is_setting, before, gate_count}
use Rattle.network.specs.Plans.{is_plan, passable, first_plan, next_plan}
use Rattle.network.specs.Bridges.{is_bridge, lowest_bridge}
use Rattle.network.specs.Replies.{Outcome, plan, shut_in, lone, refused, refusal_number, number, plan_in, reach_in, marks_in, count_in, SameReply, shut_in_side, bridge_side, shut_in_finding, lone_finding, chosen, or_lone, answer, first_answer, next_answer, first_of, unless, room_fault}
use Rattle.network.specs.Certificates.{Trichotomy, has-plan, not-passable, has-bridge}
use Rattle.lists.proofs.Bools.{clash}
use Rattle.lists.proofs.Searches.{find-some, find_none, find-is, find_first, find-lowest}
use Rattle.lists.proofs.Ranges.{range-has}
use Rattle.network.proofs.Order.{first-is-plan, first-none, next-none, next-is-plan, next-is-later, next-same}
use Rattle.network.proofs.Bridges.{bridge-below, bridge-blocks}
use Rattle.network.proofs.Theorem.{theorem, plan-passable}
use Rattle.network.specs.Marks.{mark_bytes, marks_of, mark_count}
use Rattle.network.proofs.Networks.{gates-fit}

-- A plan is replied only where nothing is refused.
pub unless-plan : (f : Option Refusal) (o : Outcome) {p : List ℕ} → unless f o ≡ plan p → (f ≡ none) × (o ≡ plan p)
unless-plan none o e = (refl, e)
unless-plan (some r) o e = (cc, cc)

-- Buffers of the largest lengths have room for the plans and the marks of every accepted network.
pub room-enough : (N : Network) → Accepted N → (plan_length marks_length : ℕ) → max_reaches ≤ plan_length → mark_bytes ≤ marks_length → room_fault N plan_length marks_length ≡ none
unfolding room_fault
room-enough N ok plan_length marks_length l m = rw (le-leb (gate_count N) plan_length (omega (arith, gates-fit N ok)), le-leb mark_bytes marks_length m)

-- ---- equality of replies

-- the reply with a number and what it holds
decode : ℕ → List ℕ → ℕ → List ℕ → ℕ → Outcome
decode zero p i m c = plan p
decode (suc zero) p i m c = refused BasinCount
decode (suc (suc zero)) p i m c = refused TooManyReaches
decode (suc (suc (suc zero))) p i m c = refused EndOutOfRange
decode (suc (suc (suc (suc zero)))) p i m c = refused Truncated
decode (suc (suc (suc (suc (suc zero))))) p i m c = refused UnknownKind
decode (suc (suc (suc (suc (suc (suc zero)))))) p i m c = refused TrailingBytes
decode (suc (suc (suc (suc (suc (suc (suc zero))))))) p i m c = refused ShortBuffer
decode (suc (suc (suc (suc (suc (suc (suc (suc zero)))))))) p i m c = refused BadSetting
decode (suc (suc (suc (suc (suc (suc (suc (suc (suc zero))))))))) p i m c = shut_in m c
decode (suc (suc (suc (suc (suc (suc (suc (suc (suc (suc zero)))))))))) p i m c = lone i m c
decode (suc (suc (suc (suc (suc (suc (suc (suc (suc (suc (suc n))))))))))) p i m c = refused LastPlan

decode-refusal : (r : Refusal) → decode (refusal_number r) [] 0 [] 0 ≡ refused r
unfolding decode
decode-refusal BasinCount = refl
decode-refusal TooManyReaches = refl
decode-refusal EndOutOfRange = refl
decode-refusal Truncated = refl
decode-refusal UnknownKind = refl
decode-refusal TrailingBytes = refl
decode-refusal ShortBuffer = refl
decode-refusal BadSetting = refl
decode-refusal LastPlan = refl

-- No refusal has the number of a plan.
pub refusal-number : (r : Refusal) → eqb (refusal_number r) 0 ≡ false
unfolding decode
refusal-number r = ne_eqb (refusal_number r) 0 (λ z. let e : plan [] ≡ refused r = ap (λ n. decode n [] 0 [] 0) (sym z) ∙ decode-refusal r in true≢false (cc))

decode-back : (o : Outcome) → decode (number o) (plan_in o) (reach_in o) (marks_in o) (count_in o) ≡ o
unfolding decode
decode-back (plan s) = refl
decode-back (shut_in m c) = refl
decode-back (lone i m c) = refl
decode-back (refused r) = decode-refusal r

-- "Two replies are equal if ..": exactly if they are one and the same.
pub same-reply : (r s : Outcome) → SameReply r s ↔ (r ≡ s)
same-reply r s = (
  λ e.
      sym (decode-back r) ∙ rw (e.same_number, e.same-plan, e.same-reach, e.same-marks, e.same_count) (decode-back s),
  λ e. record { same_number = ap number e; same-plan = ap plan_in e; same-reach = ap reach_in e; same-marks = ap marks_in e; same_count = ap count_in e },
)

-- ---- which reply is given

plan-inj : {s t : List ℕ} → plan s ≡ plan t → s ≡ t
plan-inj e = cc

-- two plans asked for give equal replies exactly if they are the same
chosen-inj : (p q : Option (List ℕ)) → chosen p ≡ chosen q → p ≡ q
chosen-inj (some s) (some t) e = ap some (plan-inj e)
chosen-inj (some s) none e = cc
chosen-inj none (some t) e = cc
chosen-inj none none e = refl

-- a lowest lone reach is lone, and if there is none no reach is
pub lowest-is-bridge : (N : Network) {i : ℕ} → lowest_bridge N ≡ some i → is_bridge N i ≡ true
unfolding lowest_bridge
lowest-is-bridge N e = (find-some (is_bridge N) (range 0 (length N.reaches)) e).1

pub no-lowest : (N : Network) → lowest_bridge N ≡ none → (i : ℕ) → is_bridge N i ≡ false
unfolding lowest_bridge
no-lowest N e i = Bool-eq-false {b = is_bridge N i} (λ y. clash y (find_none (is_bridge N) e (range-has 0 (length N.reaches) (omega arith) (omega (arith, bridge-below N i y)))))

-- networks with the same lone reaches have the same lowest
pub same-lowest : (N M : Network) → ((i : ℕ) → is_bridge N i ≡ is_bridge M i) → lowest_bridge N ≡ lowest_bridge M
unfolding lowest_bridge
same-lowest N M f = go (lowest_bridge M) refl
  where
    go : (o : Option ℕ) → lowest_bridge M ≡ o → lowest_bridge N ≡ o
    go none e = find-is (is_bridge N) (range 0 (length N.reaches)) (λ i m. f i ∙ no-lowest M e i)
    go (some i) e =
        let lone = f i ∙ lowest-is-bridge M e in
        find-lowest (is_bridge N) 0 (length N.reaches) i (omega arith) (omega (arith, bridge-below N i lone)) lone
        (λ j z less. f j ∙ find_first (is_bridge M) 0 (length M.reaches) e j (omega arith) less)

-- those that are passable alike and have the same findings get the same replies
pub same-answers : (N M : Network) → passable N ≡ passable M → ((i : ℕ) → is_bridge N i ≡ is_bridge M i) → shut_in_finding N ≡ shut_in_finding M →
    ((i : ℕ) → is_bridge M i ≡ true → lone_finding N i ≡ lone_finding M i) → (p : Option (List ℕ)) → answer N p ≡ answer M p
unfolding answer
same-answers N M e f shut alone p = rw (e, same-lowest N M f) (go (passable M) (lowest_bridge M) refl)
  where
    go : (b : Bool) (o : Option ℕ) → lowest_bridge M ≡ o → cond b (or_lone N o p) (shut_in_finding N) ≡ cond b (or_lone M o p) (shut_in_finding M)
    go false o g = shut
    go true none g = refl
    go true (some i) g = alone i (lowest-is-bridge M g)

-- Which of the three an accepted network gets.
pub trichotomy : (N : Network) → Accepted N → Trichotomy N
unfolding answer
trichotomy N ok = go (passable N) refl (lowest_bridge N) refl
  where
    at : (b : Bool) (o : Option ℕ) → passable N ≡ b → lowest_bridge N ≡ o → (p : Option (List ℕ)) → answer N p ≡ cond b (or_lone N o p) (shut_in_finding N)
    at b o e f p = ap (λ (x : Bool). cond x (or_lone N (lowest_bridge N) p) (shut_in_finding N)) e ∙ ap (λ (x : Option ℕ). cond b (or_lone N x p) (shut_in_finding N)) f

    go : (b : Bool) → passable N ≡ b → (o : Option ℕ) → lowest_bridge N ≡ o → Trichotomy N
    go false n o f = not-passable n (λ s e. clash (plan-passable N s e) n) (at false o n f)
    go true y (some i) f = has-bridge i f y (λ s e. bridge-blocks N i (lowest-is-bridge N f) s e) (at true (some i) y f)
    go true y none f = let p = (theorem N ok).1 (y, no-lowest N f) in has-plan p.0 p.1 (at true none y f)

-- a finding is no plan and no last plan
finding-not-chosen : (N : Network) (p : Option (List ℕ)) → shut_in_finding N ≡ chosen p → ⊥
unfolding shut_in_finding
finding-not-chosen N (some s) e = let z : ◌≡◌ {A = ℕ} 0 1 = cc in omega arith
finding-not-chosen N none e = let z : ◌≡◌ {A = ℕ} 0 1 = cc in omega arith

bridge-not-chosen : (N : Network) (i : ℕ) (p : Option (List ℕ)) → lone_finding N i ≡ chosen p → ⊥
unfolding lone_finding
bridge-not-chosen N i (some s) e = let z : ◌≡◌ {A = ℕ} 0 1 = cc in omega arith
bridge-not-chosen N i none e = let z : ◌≡◌ {A = ℕ} 0 1 = cc in omega arith

-- What an accepted network with a plan is given; and what is given, plan or last plan, only such a network gets.
pub given-iff : (N : Network) → Accepted N → (p q : Option (List ℕ)) → (answer N p ≡ chosen q) ↔ (((s : List ℕ) × (is_plan N s ≡ true)) × (p ≡ q))
given-iff N ok p q = go (trichotomy N ok)
  where
    go : Trichotomy N → (answer N p ≡ chosen q) ↔ (((s : List ℕ) × (is_plan N s ≡ true)) × (p ≡ q))
    go (has-plan s e f) = (λ a. ((s, e), chosen-inj p q (sym (f p) ∙ a)), λ k. f p ∙ ap chosen k.1)
    go (not-passable n none_is f) = (λ a. absurd (finding-not-chosen N q (sym (f p) ∙ a)), λ k. absurd (none_is k.0.0 k.0.1))
    go (has-bridge i e y none_is f) = (λ a. absurd (bridge-not-chosen N i q (sym (f p) ∙ a)), λ k. absurd (none_is k.0.0 k.0.1))

-- what first gives, by what it is given for
pub data First (N : Network) : Outcome → Type 0 where
  is-plan : (s : List ℕ) → first_plan N ≡ some s → First N (plan s)
  is-shut : passable N ≡ false → First N (shut_in (marks_of (shut_in_side N)) (mark_count (marks_of (shut_in_side N))))
  is-bridge : (i : ℕ) → passable N ≡ true → lowest_bridge N ≡ some i → First N (lone i (marks_of (bridge_side N i)) (mark_count (marks_of (bridge_side N i))))

module _ (N : Network) (ok : Accepted N) where
  -- First gives a plan exactly if it is the first plan, and gives one wherever there is one. It never says last plan.
  pub first-given : (s : List ℕ) → (first_answer N ≡ plan s) ↔ (first_plan N ≡ some s)
  unfolding first_answer
  first-given s = (
    λ a. ((given-iff N ok (first_plan N) (some s)).0 a).1,
    λ e. (given-iff N ok (first_plan N) (some s)).1 ((s, first-is-plan N e), e),
  )

  pub given-if-plan : ((q : List ℕ) × (first_answer N ≡ plan q)) ↔ ((q : List ℕ) × (is_plan N q ≡ true))
  given-if-plan = (λ a. (a.0, first-is-plan N ((first-given a.0).0 a.1)), λ q. go (first_plan N) refl q.0 q.1)
    where
      go : (o : Option (List ℕ)) → first_plan N ≡ o → (q : List ℕ) → is_plan N q ≡ true → (s : List ℕ) × (first_answer N ≡ plan s)
      go none e q y = absurd (first-none N e q y)
      go (some s) e q y = (s, (first-given s).1 e)

  pub first-not-last : first_answer N ≡ refused LastPlan → ⊥
  unfolding first_answer
  first-not-last a = let k = (given-iff N ok (first_plan N) none).0 a in first-none N k.1 k.0.0 k.0.1

  -- a plan or one of two findings, with what each is given for
  pub first-cases : First N (first_answer N)
  unfolding first_answer shut_in_finding lone_finding
  first-cases = go (trichotomy N ok)
    where
      pick : (s : List ℕ) → is_plan N s ≡ true → (o : Option (List ℕ)) → first_plan N ≡ o → First N (chosen o)
      pick s p none e = absurd (first-none N e s p)
      pick s p (some t) e = is-plan t e

      go : Trichotomy N → First N (answer N (first_plan N))
      go (has-plan s p f) = subst⁻¹ (First N) (f (first_plan N)) (pick s p (first_plan N) refl)
      go (not-passable n k f) = subst⁻¹ (First N) (f (first_plan N)) (is-shut n)
      go (has-bridge i e y k f) = subst⁻¹ (First N) (f (first_plan N)) (is-bridge i y e)

  module _ (s : List ℕ) where
    -- Next gives a plan exactly if it is the next plan of the setting.
    pub next-given : (p : List ℕ) → (next_answer N s ≡ plan p) ↔ (next_plan N s ≡ some p)
    unfolding next_answer
    next-given p = (
      λ a. ((given-iff N ok (next_plan N s) (some p)).0 a).1,
      λ e. (given-iff N ok (next_plan N s) (some p)).1 ((p, next-is-plan N s e), e),
    )

    -- "Last plan" is said exactly where a plan exists and none is later.
    pub last-plan : (next_answer N s ≡ refused LastPlan) ↔ (((p : List ℕ) × (is_plan N p ≡ true)) × ((q : List ℕ) → is_plan N q ≡ true → before s q ≡ true → ⊥))
    unfolding next_answer
    last-plan = (
      λ a. let k = (given-iff N ok (next_plan N s) none).0 a in (k.0, next-none N s k.1),
      λ k. (given-iff N ok (next_plan N s) none).1 (k.0, none-later (next_plan N s) refl k.1),
    )
      where
        none-later : (o : Option (List ℕ)) → next_plan N s ≡ o → ((q : List ℕ) → is_plan N q ≡ true → before s q ≡ true → ⊥) → next_plan N s ≡ none
        none-later none e f = e
        none-later (some q) e f = absurd (f q (next-is-plan N s e) (next-is-later N s e))

    -- A plan is given wherever one is later.
    pub given-if-later : (q : List ℕ) → is_plan N q ≡ true → before s q ≡ true → (p : List ℕ) × (next_answer N s ≡ plan p)
    given-if-later q e l = go (next_plan N s) refl
      where
        go : (o : Option (List ℕ)) → next_plan N s ≡ o → (p : List ℕ) × (next_answer N s ≡ plan p)
        go none n = absurd (next-none N s n q e l)
        go (some p) y = (p, (next-given p).1 y)

  -- Demand 3: of two settings, the first not after the second, next gives equal replies exactly when no plan comes after the first up to and
  -- including the second.
  pub demand-3 : (s t : List ℕ) → is_setting N s ≡ true → is_setting N t ≡ true → before t s ≡ false →
      (next_answer N s ≡ next_answer N t) ↔ ((p : List ℕ) → is_plan N p ≡ true → before s p ≡ true → before t p ≡ false → ⊥)
  unfolding next_answer
  demand-3 s t hs ht order = go (trichotomy N ok)
    where
      same : (next_plan N s ≡ next_plan N t) ↔ ((p : List ℕ) → is_plan N p ≡ true → before s p ≡ true → before t p ≡ false → ⊥)
      same = next-same N s t hs ht order

      go : Trichotomy N → (answer N (next_plan N s) ≡ answer N (next_plan N t)) ↔ ((p : List ℕ) → is_plan N p ≡ true → before s p ≡ true → before t p ≡ false → ⊥)
      go (has-plan q e f) = (λ a. same.0 (chosen-inj _ _ (sym (f (next_plan N s)) ∙ a ∙ f (next_plan N t))), λ h. ap (answer N) (same.1 h))
      go (not-passable n none_is f) = (λ a p e l m. none_is p e, λ h. f (next_plan N s) ∙ sym (f (next_plan N t)))
      go (has-bridge i e y none_is f) = (λ a p e' l m. none_is p e', λ h. f (next_plan N s) ∙ sym (f (next_plan N t)))

-- ---- the first of two refusals

pub first-assoc : (o p q : Option Refusal) → first_of o (first_of p q) ≡ first_of (first_of o p) q
first-assoc none p q = refl
first-assoc (some r) p q = refl

pub first-of-none : (o p : Option Refusal) → first_of o p ≡ none → (o ≡ none) × (p ≡ none)
first-of-none none p h = (refl, h)
first-of-none (some r) p h = absurd (some-ne-none r h)
