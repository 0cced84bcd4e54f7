-- From what was found for the first plan to the reply.
-- Assumes nothing.
use Rattle.std.specs.Prelude.{Ok}
use Prim.Native.Nat.{ℕ, ◌<◌}
use native.Mathlib.Omega.{arith}
use mathlib.Core.Path.{◌≡◌, subst⁻¹}
use mathlib.Core.List.{List}
use lib.ListN.{length}
use Rattle.network.specs.Networks.{Network, Accepted}
use Rattle.network.specs.Replies.{Outcome, first_answer}
use Rattle.network.proofs.Networks.{accepted}
use Rattle.tables.specs.Rows.{net_of}
use Rattle.seeking.specs.declared.Found.{Found}
use Rattle.seeking.specs.Levels.{Level}
use Rattle.seeking.specs.Found.{reach_found, SideNoted, FirstFound, found-closed, found-bridge, found-plan}
use Rattle.seeking.proofs.Firsts.{first-outcome}
use Rattle.replies.specs.declared.Reply.{Reply}
use Rattle.replies.specs.Answers.{Replied}
use Rattle.replies.specs.Reports.{Reported}
use Rattle.replies.proofs.Reported.{reported-reply}

-- what the search for the first plan noted
pub first-noted : {N : Network} {ws seen : List ℕ} {f : Found} → FirstFound N ws seen f → SideNoted N seen f
first-noted (found-closed n k) = k
first-noted (found-bridge p e l k) = k
first-noted (found-plan p e m) = tt

pub first_fits : (N : Network) → Accepted N → {ws seen : List ℕ} {f : Found} → FirstFound N ws seen f → reach_found f < 65536
first_fits N ok (found-closed n k) = omega arith
first_fits N ok (found-bridge p e l k) = omega (arith, (accepted N ok).few-reaches)
first_fits N ok (found-plan p e m) = omega arith

pub first-written : {n : ℕ} {ks xs ys : List ℕ} → Level n ks xs ys → {ws seen : List ℕ} {f : Found} {plan marks plan' marks' : List ℕ} {r : Reply} → length ws ≡ length ks → FirstFound (net_of n ks xs ys) ws seen f
    → Reported n ks ws seen f plan marks plan' marks' r → Replied (first_answer (net_of n ks xs ys)) plan marks plan' marks' (Ok r)
first-written {n} {ks} {xs} {ys} l {plan} {marks} {plan'} {marks'} {r} full found done =
    subst⁻¹ (λ (o : Outcome). Replied o plan marks plan' marks' (Ok r)) (first-outcome (net_of n ks xs ys) found) (reported-reply n ks xs ys l.ends-a l.ends-b full (first-noted found) done)
