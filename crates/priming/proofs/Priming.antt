-- Working memory that is prepared for the plans after a plan.
-- Assumes nothing.
use Rattle.network.specs.declared.Refusal.{Refusal}
use Rattle.std.specs.Prelude.{Result, Bool}
use Prim.Native.Nat.{ℕ}
use native.Mathlib.Omega.{arith}
use mathlib.Core.Path.{◌≡◌, sym, ap, ◌∙◌}
use mathlib.Core.Bool.{true, false, true≢false}
use mathlib.Core.List.{List}
use lib.ListN.{length}
use borrow.Author.Tests.{eq-eqb, ne_eqb}
use Rattle.network.proofs.Networks.{accepted}
use Rattle.tables.specs.Rows.{net_of}
use Rattle.tables.proofs.Laws.{row-length}
use Rattle.half_edges.specs.Chains.{Index, Indexable}
use Rattle.replies.specs.Answers.{check_of, says_yes}
use Rattle.seeking.specs.Levels.{Level}
use Rattle.seeking.specs.Seeks.{AtPlan}
use Rattle.finder.specs.Rooms.{Room}
use Rattle.finder.proofs.Rooms.{room-index}
use Rattle.priming.specs.Priming.{Spare, primes, Primed}

-- ---- the answer

-- rows of one length: the check decides
checked : (n : ℕ) (ks xs ys s : List ℕ) → length xs ≡ length ks → length ys ≡ length ks → primes n ks xs ys s ≡ says_yes (check_of (net_of n ks xs ys) s)
checked n ks xs ys s e f = rw (eq-eqb (length xs) (length ks) e, eq-eqb (length ys) (length ks) f)

module _ {n : ℕ} {ks xs ys s ws head next : List ℕ} where
  free : primes n ks xs ys s ≡ false → Primed n ks xs ys s ws head next false
  free e = record { answer = sym e; at-plan = λ t. absurd (true≢false (sym t)); indexed = λ t. absurd (true≢false (sym t)) }

  -- a row is not as long as the kinds
  pub a-unlike : (length xs ≡ length ks → ⊥) → Primed n ks xs ys s ws head next false
  a-unlike h = free (rw (ne_eqb (length xs) (length ks) h))

  pub b-unlike : length xs ≡ length ks → (length ys ≡ length ks → ⊥) → Primed n ks xs ys s ws head next false
  b-unlike e h = free (rw (eq-eqb (length xs) (length ks) e, ne_eqb (length ys) (length ks) h))

  -- both are, and the check says no or yes
  module _ {r : Result Bool Refusal} (e : length xs ≡ length ks) (f : length ys ≡ length ks) (c : r ≡ check_of (net_of n ks xs ys) s) where
    pub said-no : says_yes r ≡ false → Primed n ks xs ys s ws head next false
    said-no z = free (checked n ks xs ys s e f ∙ sym (ap says_yes c) ∙ z)

    pub said-yes : says_yes r ≡ true → AtPlan n ks xs ys s ws → Index n xs ys head next → Primed n ks xs ys s ws head next true
    said-yes y p ix = record { answer = sym (checked n ks xs ys s e f ∙ sym (ap says_yes c) ∙ y); at-plan = λ t. p; indexed = λ t. ix }

-- ---- a row of ways, and working memory, for an accepted table whose rows are of one length
module _ {n : ℕ} {ks xs ys ws head next : List ℕ} (v : Level n ks xs ys) (z : Spare ks ws head next) where
  pub spare-ways : length ws ≡ length ks
  spare-ways = omega (arith, z.ways-spare, (accepted (net_of n ks xs ys) v.accepted).few-reaches, row-length ks xs ys v.ends-a v.ends-b)

  room : Room n ks xs ys ws head next
  room =
      record {
        accepted = v.accepted;
        ends-a = v.ends-a;
        ends-b = v.ends-b;
        ways-room = spare-ways;
        head-room = omega (arith, z.head-spare, (accepted (net_of n ks xs ys) v.accepted).few-basins);
        next-room = omega (arith, z.next-spare, (accepted (net_of n ks xs ys) v.accepted).few-reaches, row-length ks xs ys v.ends-a v.ends-b, v.ends-a);
      }

  pub spare-index : {head' next' : List ℕ} → length head' ≡ length head → length next' ≡ length next → Indexable n xs ys head' next'
  spare-index e f = room-index room e f
