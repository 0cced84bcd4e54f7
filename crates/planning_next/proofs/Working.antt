-- From what was found for the next plan to the reply.
-- Assumes nothing.
use Rattle.std.specs.Prelude.{Ok}
use Prim.Native.Nat.{ℕ, ◌<◌}
use mathlib.Core.Path.{◌≡◌, subst, subst⁻¹}
use mathlib.Core.List.{List}
use lib.ListN.{length}
use Rattle.std.specs.Prelude.{Option, None, Some}
use Rattle.network.specs.declared.Refusal.TheVariants.{LastPlan}
use Rattle.network.specs.Networks.{Network}
use Rattle.network.specs.Replies.{Outcome, refused, next_answer}
use Rattle.tables.specs.Rows.{net_of}
use Rattle.seeking.specs.declared.Found.{Found}
use Rattle.seeking.specs.Levels.{Level}
use Rattle.seeking.specs.Found.{outcome_of, reach_found, SideNoted, NextFound, no-later, next-is}
use Rattle.replies.specs.declared.Reply.{Reply}
use Rattle.replies.specs.Answers.{Replied}
use Rattle.replies.specs.Reports.{Reported}
use Rattle.replies.proofs.Reported.{reported-reply}

-- what the search for it found, if that is to be written down
pub record NextAt (N : Network) (s ws seen : List ℕ) (f : Found) : Type 0 where
  pub replies : next_answer N s ≡ outcome_of N ws f
  pub noted : SideNoted N seen f
  pub fits : reach_found f < 65536

at-found : {N : Network} {s ws seen : List ℕ} {f : Found} → NextFound N s ws seen (Some f) → NextAt N s ws seen f
at-found (next-is e k b) = record { replies = e; noted = k; fits = b }

pub next-at : {N : Network} {s ws seen : List ℕ} {q : Option Found} {f : Found} → q ≡ Some f → NextFound N s ws seen q → NextAt N s ws seen f
next-at {N} {s} {ws} {seen} e n = at-found (subst (NextFound N s ws seen) e n)

last_found : {N : Network} {s ws seen : List ℕ} → NextFound N s ws seen None → next_answer N s ≡ refused LastPlan
last_found (no-later e) = e

pub next_last : {N : Network} {s ws seen : List ℕ} {q : Option Found} → q ≡ None → NextFound N s ws seen q → next_answer N s ≡ refused LastPlan
next_last {N} {s} {ws} {seen} e n = last_found (subst (NextFound N s ws seen) e n)

pub next-written : {n : ℕ} {ks xs ys : List ℕ} → Level n ks xs ys → {s ws seen : List ℕ} {f : Found} {plan marks plan' marks' : List ℕ} {r : Reply} → length ws ≡ length ks → NextAt (net_of n ks xs ys) s ws seen f
    → Reported n ks ws seen f plan marks plan' marks' r → Replied (next_answer (net_of n ks xs ys) s) plan marks plan' marks' (Ok r)
next-written {n} {ks} {xs} {ys} l {plan} {marks} {plan'} {marks'} {r} full at done =
    subst⁻¹ (λ (o : Outcome). Replied o plan marks plan' marks' (Ok r)) at.replies (reported-reply n ks xs ys l.ends-a l.ends-b full at.noted done)
