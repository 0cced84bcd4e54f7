-- What writing down a finding or a plan leaves.
-- Assumes nothing.
use Rattle.std.specs.Prelude.{Ok}
use Prim.Native.Nat.{ℕ}
use mathlib.Core.Path.{◌≡◌, refl, sym, ap, ap₂, subst⁻¹, ◌∙◌}
use mathlib.Core.List.{List, ◌++◌}
use lib.ListN.{length, take, drop}
use lib.Seq.{take_at}
use Rattle.network.specs.Tables.{table_of}
use Rattle.network.specs.Replies.{shut_in_side, bridge_side, shut_in_finding, lone_finding}
use Rattle.network.specs.Marks.{mark_bytes, marks_of, mark_count}
use Rattle.network.proofs.Marks.{length-marks}
use Rattle.tables.specs.Rows.{net_of, gates_in, bytes_row}
use Rattle.tables.proofs.Laws.{row-length, row-bytes, row-gates}
use Rattle.marks.specs.Sets.{marked_set}
use Rattle.orientations.proofs.Least.{bytes-length}
use Rattle.replies.specs.declared.Verdict.TheVariants.{Plan, ShutIn, Lone}
use Rattle.replies.specs.declared.Reply.{Reply}
use Rattle.seeking.specs.declared.Found.{Found}
use Rattle.seeking.specs.declared.Found.TheVariants.{Closed, Bridge, Oriented}
use Rattle.seeking.specs.Found.{outcome_of, SideNoted}
use Rattle.replies.specs.Answers.{given, Replied}
use Rattle.replies.specs.Reports.{MarksWritten, Reported, wrote-shut, wrote-lone, wrote-plan}
use Rattle.replies.proofs.Answers.{replied}

-- the count of what was written
pub marks-written : (S : List ℕ) {marks marks' : List ℕ} {r : ℕ} → marks' ≡ marks_of S ++ drop mark_bytes marks → r ≡ mark_count (take mark_bytes marks') → MarksWritten S marks marks' r
marks-written S {marks} e f = record { bytes = e; count = f ∙ ap (λ (v : List ℕ). mark_count (take mark_bytes v)) e ∙ ap mark_count (take_at (marks_of S) (drop mark_bytes marks) mark_bytes (length-marks S)) }

-- what was found, by cases
module _ {n : ℕ} {ks ws seen plan marks : List ℕ} {f : Found} where
  pub reported-shut : {marks' : List ℕ} {c : ℕ} → f ≡ Closed → MarksWritten (marked_set n seen) marks marks' c → Reported n ks ws seen f plan marks plan marks' (record { verdict = ShutIn (record { reach = 0; count = c }) })
  reported-shut {marks'} {c} e m = subst⁻¹ (λ (g : Found). Reported n ks ws seen g plan marks plan marks' (record { verdict = ShutIn (record { reach = 0; count = c }) })) e (wrote-shut m)

  pub reported-lone : {marks' : List ℕ} {r c i d : ℕ} → f ≡ Bridge r → MarksWritten (marked_set n seen) marks marks' c → i ≡ r → d ≡ c
      → Reported n ks ws seen f plan marks plan marks' (record { verdict = Lone (record { reach = i; count = d }) })
  reported-lone {marks'} {r} {c} {i = i} {d = d} e m p q =
      subst⁻¹ (λ (j : ℕ). Reported n ks ws seen f plan marks plan marks' (record { verdict = Lone (record { reach = j; count = d }) })) p
      (subst⁻¹ (λ (j : ℕ). Reported n ks ws seen f plan marks plan marks' (record { verdict = Lone (record { reach = r; count = j }) })) q
      (subst⁻¹ (λ (g : Found). Reported n ks ws seen g plan marks plan marks' (record { verdict = Lone (record { reach = r; count = c }) })) e
      (wrote-lone m)))

  pub reported-plan : {plan' : List ℕ} → f ≡ Oriented → plan' ≡ bytes_row ks ws ++ drop (gates_in ks) plan → Reported n ks ws seen f plan marks plan' marks (record { verdict = Plan })
  reported-plan {plan'} e m = subst⁻¹ (λ (g : Found). Reported n ks ws seen g plan marks plan' marks (record { verdict = Plan })) e (wrote-plan m)

-- what was written down, with what was noted, is the reply
module _ (n : ℕ) (ks xs ys : List ℕ) (ea : length xs ≡ length ks) (eb : length ys ≡ length ks) where
  pub reported-reply : {ws seen : List ℕ} {f : Found} {plan marks plan' marks' : List ℕ} {r : Reply} → length ws ≡ length ks → SideNoted (net_of n ks xs ys) seen f → Reported n ks ws seen f plan marks plan' marks' r
      → Replied (outcome_of (net_of n ks xs ys) ws f) plan marks plan' marks' (Ok r)
  unfolding shut_in_finding lone_finding
  reported-reply {seen} {marks} full noted (wrote-shut m) =
      replied
      (ap (λ (c : ℕ). given (ShutIn (record { reach = 0; count = c }))) (m.count ∙ ap mark_count noted))
      refl
      (m.bytes ∙ ap₂ (λ (x : List ℕ) (k : ℕ). x ++ drop k marks) noted (sym (length-marks (shut_in_side (net_of n ks xs ys)))))
  reported-reply {seen} {marks} full noted (wrote-lone {r = i} m) =
      replied
      (ap (λ (c : ℕ). given (Lone (record { reach = i; count = c }))) (m.count ∙ ap mark_count noted))
      refl
      (m.bytes ∙ ap₂ (λ (x : List ℕ) (k : ℕ). x ++ drop k marks) noted (sym (length-marks (bridge_side (net_of n ks xs ys) i))))
  reported-reply {ws} {plan} full noted (wrote-plan e) =
      replied
      refl
      (e ∙ ap₂ (λ (x : List ℕ) (k : ℕ). x ++ drop k plan) (sym (row-bytes ks xs ys ea eb ws)) (sym (bytes-length 0 (table_of ks xs ys) ws (full ∙ sym (row-length ks xs ys ea eb)) ∙ row-gates ks xs ys ea eb 0)))
      refl
