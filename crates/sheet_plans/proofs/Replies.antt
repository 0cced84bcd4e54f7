-- What the network gets, as the planner's first plan says it, and its sheet.
-- Assumes nothing.
use Rattle.replies.specs.declared.Reply.{Reply}
use Rattle.std.specs.Prelude.{Err, Ok, Result}
use Prim.Native.Nat.{ℕ}
use native.Mathlib.Omega.{arith}
use mathlib.Core.Path.{◌≡◌, refl, sym, ap, subst, ◌∙◌}
use mathlib.Core.Bool.{true≢false}
use mathlib.Core.List.{List, ◌++◌, append-nil}
use mathlib.Core.Option.{Option, none, some}
use lib.ListN.{length, take, drop, drop_of_length-le}
use lib.Seq.{take_at}
use Rattle.network.specs.declared.Refusal.{Refusal}
use Rattle.network.specs.Networks.{Network, table_fault, Accepted, max_reaches}
use Rattle.network.specs.Settings.{gate_count}
use Rattle.network.specs.Marks.{mark_bytes}
use Rattle.network.specs.Replies.{Outcome, plan, shut_in, lone, refused, shut_in_side, bridge_side, first_answer, unless, first_reply, first_of}
use Rattle.network.proofs.Networks.{accepted, gates-below}
use Rattle.network.proofs.Marks.{length-marks}
use Rattle.network.proofs.Order.{first-is-plan}
use Rattle.network.proofs.Replies.{room-enough, First, is-plan, is-shut, is-bridge, first-cases}
use Rattle.file_records.specs.Puts.{Wrote, room_for, WroteWhole}
use Rattle.replies.specs.declared.Verdict.{Verdict}
use Rattle.replies.specs.declared.Verdict.TheVariants.{Plan, ShutIn, Lone}
use Rattle.replies.specs.Answers.{given, answer_of, Replied}
use Rattle.sheet_format.specs.Sheets.{sheet_of, shut_in_sheet, lone_sheet, outcome_sheet, reply_sheet}
use Rattle.sheet_format.specs.Rows.{Roomy, first_bytes_sheet}
use Rattle.sheet_format.specs.Answers.{ReplyWritten}
use Rattle.sheet_format.proofs.Sheets.{plan-long}
use Rattle.file_records.proofs.Puts.{put_refused}

-- what first gives an accepted network is no refusal
never : {N : Network} {o : Outcome} → First N o → (r : Refusal) → answer_of o ≡ Err r → ⊥
never (is-plan s e) r h = true≢false (cc)
never (is-shut e) r h = true≢false (cc)
never (is-bridge i e f) r h = true≢false (cc)

-- the sheet of a verdict, from the buffers that its plan and its marks stand in
abbrev pub verdict_sheet : Network → Verdict → List ℕ → List ℕ → List ℕ
verdict_sheet N Plan p m = first_bytes_sheet N.reaches p
verdict_sheet N (ShutIn f) p m = shut_in_sheet m
verdict_sheet N (Lone f) p m = lone_sheet f.reach m

verdict_of : Result Reply Refusal → Verdict
verdict_of (Err r) = Plan
verdict_of (Ok g) = g.verdict

given-inj : {u v : Verdict} → given u ≡ given v → u ≡ v
unfolding verdict_of
given-inj e = ap verdict_of e

refused-inj : {r s : Refusal} → ◌≡◌ {A = Result Reply Refusal} (Err r) (Err s) → r ≡ s
refused-inj e = cc

-- ---- what the call of first plan leaves, with buffers of the largest lengths

module _ (N : Network) (p m : List ℕ) (lp : length p ≡ max_reaches) (lm : length m ≡ mark_bytes) where
  -- a refusal, or the network's reply
  replied : (o : Option Refusal) → table_fault N ≡ o → first_reply N (length p) (length m) ≡ unless o (first_answer N)
  unfolding first_reply
  replied none t = rw (t, room-enough N t (length p) (length m) (omega arith) (omega arith))
  replied (some r) t = rw t

  module _ (p' m' : List ℕ) (a : Result Reply Refusal) (w : Replied (first_reply N (length p) (length m)) p m p' m' a) where
    answered : (o : Option Refusal) → table_fault N ≡ o → a ≡ answer_of (unless o (first_answer N))
    answered o t = w.reply ∙ ap answer_of (replied o t)

    -- the refusal is the table's
    pub reply-refused : (out : List ℕ) (r : Refusal) → a ≡ Err r → ReplyWritten N out (Err r) out
    reply-refused out r e = go (table_fault N) refl
      where
        go : (o : Option Refusal) → table_fault N ≡ o → ReplyWritten N out (Err r) out
        go none t = absurd (never (first-cases N t) r (sym (answered none t) ∙ e))
        go (some x) t = put_refused (reply_sheet N) out r (ap (λ o. first_of o (room_for (reply_sheet N) (length out))) (t ∙ ap some (refused-inj (sym (answered (some x) t) ∙ e))))

    module _ (v : Verdict) (e : a ≡ given v) where
      pub reply-accepted : Accepted N
      reply-accepted = go (table_fault N) refl
        where
          go : (o : Option Refusal) → table_fault N ≡ o → table_fault N ≡ none
          go none t = t
          go (some x) t = absurd (true≢false (cc (answered (some x) t, e)))

      -- the marks fill their buffer
      marks-whole : (k : List ℕ) → length k ≡ mark_bytes → m' ≡ k ++ drop (length k) m → k ≡ m'
      marks-whole k l q = sym (q ∙ rw (drop_of_length-le m {i = length k} (omega arith), append-nil))

      says : (o : Outcome) → First N o → Replied o p m p' m' a → outcome_sheet N o ≡ verdict_sheet N v p' m'
      says (plan s) (is-plan _ f) x =
          ap (sheet_of N) (sym (ap (take (gate_count N)) x.plan-left ∙ take_at s (drop (length s) p) (gate_count N) (plan-long N s (first-is-plan N f))))
          ∙ ap (λ u. verdict_sheet N u p' m') (given-inj (sym x.reply ∙ e))
      says (shut_in k c) (is-shut f) x =
          ap shut_in_sheet (marks-whole k (length-marks (shut_in_side N)) x.marks-left) ∙ ap (λ u. verdict_sheet N u p' m') (given-inj (sym x.reply ∙ e))
      says (lone i k c) (is-bridge _ f g) x =
          ap (lone_sheet i) (marks-whole k (length-marks (bridge_side N i)) x.marks-left) ∙ ap (λ u. verdict_sheet N u p' m') (given-inj (sym x.reply ∙ e))
      says (refused r) f x = elim f [ ]

      -- the sheet of what was given is the network's
      pub reply-put :
          (out : List ℕ) (r : Result ℕ Refusal) (out' : List ℕ)
          → WroteWhole (verdict_sheet N v p' m') out r out' → ReplyWritten N out r out'
      unfolding reply_sheet
      reply-put out r out' x =
          subst (λ f. Wrote (first_of (table_fault N) (room_for f (length out))) f out r out')
          (sym (says (first_answer N) (first-cases N reply-accepted) (subst (λ o. Replied o p m p' m' a) (replied none reply-accepted) w)))
          (subst (λ o. Wrote (first_of o (room_for (verdict_sheet N v p' m') (length out))) (verdict_sheet N v p' m') out r out') (sym reply-accepted) x)

      pub reply-roomy : length p' ≡ length p → Roomy N.reaches p'
      reply-roomy l =
          let few = (accepted N reply-accepted).few-reaches in
          record { few = few; room = omega (arith, gates-below 0 N.reaches) }
