-- What first and next reply to the contracted network: the plan that they give the first, or the same number.
-- Assumes nothing.
use Prim.Native.Nat.{ℕ}
use mathlib.Core.Path.{◌≡◌, refl, sym, ap, ◌∙◌}
use mathlib.Core.Bool.{true}
use mathlib.Core.List.{List}
use mathlib.Core.Option.{Option, none, some}
use Rattle.lists.proofs.Bools.{clash}
use Rattle.network.specs.declared.Refusal.{Refusal}
use Rattle.network.specs.Networks.{Network, Accepted}
use Rattle.network.specs.Settings.{setting_fault}
use Rattle.network.specs.Plans.{is_plan, first_plan, next_plan}
use Rattle.network.specs.Replies.{Outcome, number, plan_in, unless, answer, shut_in_finding, lone_finding, first_answer, next_answer, room_fault, first_reply, next_reply}
use Rattle.network.specs.Certificates.{Trichotomy, has-plan, not-passable, has-bridge}
use Rattle.network.proofs.Replies.{trichotomy}
use Rattle.components.specs.Contracted.{contracted, SameChoice}
use Rattle.components.proofs.Contracted.{contracted-accepted, contracted-gates, contracted-setting, contracted-plan, contracted-passable, contracted-first, contracted-next}

-- the same reply is the same choice, two findings of one kind are too, and so is the same refusal before either
same-made : {o o' : Outcome} → o ≡ o' → SameChoice o o'
same-made e = record { same_number = ap number e; same-plan = ap plan_in e }

-- the choice goes by what the replies are equal to
same_by : {o o' p p' : Outcome} → o ≡ p → o' ≡ p' → SameChoice p p' → SameChoice o o'
same_by e f s = record { same_number = ap number e ∙ s.same_number ∙ sym (ap number f); same-plan = ap plan_in e ∙ s.same-plan ∙ sym (ap plan_in f) }

shut-in-same : (N M : Network) → SameChoice (shut_in_finding M) (shut_in_finding N)
unfolding shut_in_finding
shut-in-same N M = record { same_number = refl; same-plan = refl }

lone_same : (N M : Network) (i j : ℕ) → SameChoice (lone_finding M j) (lone_finding N i)
unfolding lone_finding
lone_same N M i j = record { same_number = refl; same-plan = refl }

pub unless-same : (f : Option Refusal) {o o' : Outcome} → SameChoice o o' → SameChoice (unless f o) (unless f o')
unless-same (some r) s = record { same_number = refl; same-plan = refl }
unless-same none s = s

module _ (N : Network) (ok : Accepted N) where
  abbrev M : Network
  M = contracted N

  same_answer : (p : Option (List ℕ)) → SameChoice (answer M p) (answer N p)
  same_answer p = go (trichotomy N ok) (trichotomy M (contracted-accepted N ok))
    where
      none_of : ((s : List ℕ) → is_plan N s ≡ true → ⊥) → (s : List ℕ) → is_plan M s ≡ true → ⊥
      none_of f s e = f s (sym (contracted-plan N ok s) ∙ e)

      go : Trichotomy N → Trichotomy M → SameChoice (answer M p) (answer N p)
      go (has-plan s e f) (has-plan t d g) = same-made (g p ∙ sym (f p))
      go (has-plan s e f) (not-passable n none_is g) = absurd (none_is s (contracted-plan N ok s ∙ e))
      go (has-plan s e f) (has-bridge j d y none_is g) = absurd (none_is s (contracted-plan N ok s ∙ e))
      go (not-passable n none_is f) (has-plan t d g) = absurd (none_of none_is t d)
      go (not-passable n none_is f) (not-passable m none-was g) = same_by (g p) (f p) (shut-in-same N M)
      go (not-passable n none_is f) (has-bridge j d y none-was g) = clash y (contracted-passable N ok ∙ n)
      go (has-bridge i e y none_is f) (has-plan t d g) = absurd (none_of none_is t d)
      go (has-bridge i e y none_is f) (not-passable m none-was g) = clash y (sym (contracted-passable N ok) ∙ m)
      go (has-bridge i e y none_is f) (has-bridge j d z none-was g) = same_by (g p) (f p) (lone_same N M i j)

  same-room : (plan_length marks_length : ℕ) → room_fault M plan_length marks_length ≡ room_fault N plan_length marks_length
  unfolding room_fault
  same-room plan_length marks_length = rw (contracted-gates N)

  same-fault : (s : List ℕ) → setting_fault M s ≡ setting_fault N s
  unfolding setting_fault
  same-fault s = rw (contracted-setting N ok s)

  pub contracted-first-reply : (plan_length marks_length : ℕ) → SameChoice (first_reply M plan_length marks_length) (first_reply N plan_length marks_length)
  unfolding first_reply first_answer
  contracted-first-reply plan_length marks_length =
      rw (contracted-accepted N ok, ok, same-room plan_length marks_length, contracted-first N ok) (unless-same (room_fault N plan_length marks_length) (same_answer (first_plan N)))

  pub contracted-next-reply : (s : List ℕ) (plan_length marks_length : ℕ) → SameChoice (next_reply M s plan_length marks_length) (next_reply N s plan_length marks_length)
  unfolding next_reply next_answer
  contracted-next-reply s plan_length marks_length =
      rw (contracted-accepted N ok, ok, same-fault s, same-room plan_length marks_length, contracted-next N ok s)
      (unless-same (setting_fault N s) (unless-same (room_fault N plan_length marks_length) (same_answer (next_plan N s))))
