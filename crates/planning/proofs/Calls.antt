-- The calls over rows: rows cut to one length, and what the reply is where nothing is refused.
-- Assumes nothing.
use Rattle.replies.specs.declared.Reply.{Reply}
use Rattle.network.specs.declared.Refusal.{Refusal}
use Rattle.std.specs.Prelude.{Result, Ok}
use Prim.Native.Nat.{ℕ}
use native.Mathlib.Omega.{arith}
use mathlib.Core.Path.{◌≡◌, ap, subst, subst⁻¹, ◌∙◌}
use mathlib.Core.Bool.{Bool, true}
use mathlib.Core.Option.{none}
use mathlib.Core.List.{List}
use lib.ListN.{length, take}
use Rattle.network.specs.Networks.{Network, table_fault, Accepted}
use Rattle.network.specs.Tables.{table_of}
use Rattle.network.specs.Settings.{is_setting}
use Rattle.network.specs.Plans.{strongly_connected_under}
use Rattle.network.specs.Replies.{Outcome, first_of, check_fault, first_answer, next_answer, room_fault, first_reply, next_reply}
use Rattle.tables.specs.Rows.{net_of}
use Rattle.tables.proofs.Cuts.{cut-net, cut-gates}
use Rattle.refusals.proofs.Dues.{room-left, unrefused-fits}
use Rattle.seeking.proofs.Levels.{cut_level}
use Rattle.replies.specs.Answers.{Replied, CheckCall}
use Rattle.replies.proofs.Refusals.{check-fitting, first_by, next-by}
use Rattle.replies.specs.Reports.{Lent}

-- ---- rows cut to the length of the table

module _ (n : ℕ) (ks xs ys : List ℕ) (m : ℕ) (e : m ≡ length (table_of ks xs ys)) where
  pub cut-lent : (plan marks : List ℕ) → Accepted (net_of n ks xs ys) → room_fault (net_of n ks xs ys) (length plan) (length marks) ≡ none → Lent n (take m ks) (take m xs) (take m ys) plan marks
  cut-lent plan marks ok room =
      let left = room-left (net_of n ks xs ys) (length plan) (length marks) room in
      record { level = cut_level n ks xs ys m e ok; plan-room = omega (arith, left.0, cut-gates ks xs ys m e n); marks-room = left.1 }

  pub cut-is-setting : (s : List ℕ) → is_setting (net_of n ks xs ys) s ≡ true → is_setting (net_of n (take m ks) (take m xs) (take m ys)) s ≡ true
  cut-is-setting s fit = ap (λ (N : Network). is_setting N s) (cut-net ks xs ys m e n) ∙ fit

-- ---- the reply of the cut rows is the reply of the network

module _ {N N' : Network} (same : N' ≡ N) where
  pub first-replied : {plan marks plan' marks' : List ℕ} {r : Result Reply Refusal} (p q : ℕ) → first_of (table_fault N) (room_fault N p q) ≡ none
      → Replied (first_answer N') plan marks plan' marks' r → Replied (first_reply N p q) plan marks plan' marks' r
  first-replied {plan} {marks} {plan'} {marks'} {r} p q ok w =
      subst⁻¹ (λ (o : Outcome). Replied o plan marks plan' marks' r) (first_by N p q ok)
      (subst (λ (M : Network). Replied (first_answer M) plan marks plan' marks' r) same w)

  pub next-replied : {plan marks plan' marks' : List ℕ} {r : Result Reply Refusal} (s : List ℕ) (p q : ℕ) → first_of (check_fault N s) (room_fault N p q) ≡ none
      → Replied (next_answer N' s) plan marks plan' marks' r → Replied (next_reply N s p q) plan marks plan' marks' r
  next-replied {plan} {marks} {plan'} {marks'} {r} s p q ok w =
      subst⁻¹ (λ (o : Outcome). Replied o plan marks plan' marks' r) (next-by N s p q ok)
      (subst (λ (M : Network). Replied (next_answer M s) plan marks plan' marks' r) same w)

  pub check-given : (s : List ℕ) {b : Bool} → check_fault N s ≡ none → b ≡ strongly_connected_under N' s → CheckCall N s (Ok b)
  check-given s {b} ok e = check-fitting N s b ok (unrefused-fits N s ok).1 (e ∙ ap (λ (M : Network). strongly_connected_under M s) same)
