-- The state that a reply of first or next leads to: what is to be printed in it are the reply's lines.
-- Assumes nothing.
use Rattle.replies.specs.declared.Reply.{Reply}
use Rattle.network.specs.declared.Refusal.{Refusal}
use Rattle.std.specs.Prelude.{Result}
use Prim.Native.Nat.{ℕ, zero, suc}
use native.Mathlib.Omega.{arith}
use mathlib.Core.Path.{◌≡◌, refl, ap, ◌∙◌}
use mathlib.Core.Bool.{Bool, true, false, cond}
use mathlib.Core.List.{List, [], ◌++◌, append-nil}
use mathlib.Core.Option.{Option, none, some}
use lib.ListN.{length, take, drop}
use lib.Seq.{take_at}
use lib.Dec.{eqb}
use Rattle.network.specs.Networks.{Network, max_reaches, table_fault, Accepted}
use Rattle.network.specs.Settings.{setting_fault}
use Rattle.network.specs.Plans.{is_plan, next_plan}
use Rattle.network.specs.Marks.{mark_bytes}
use Rattle.network.specs.Replies.{Outcome, plan, shut_in, lone, refused, refusal_number, chosen, first_answer, next_answer, room_fault, first_reply, next_reply, plan_after}
use Rattle.network.proofs.Networks.{gates-fit}
use Rattle.network.proofs.Order.{setting-length, plan-setting, first-is-plan, next-is-plan}
use Rattle.network.proofs.Replies.{given-iff, first-given, next-given, unless-plan, room-enough}
use Rattle.tables.specs.Rows.{net_of, gates_held}
use Rattle.replies.specs.Answers.{answer_of, Replied}
use Rattle.lines.specs.declared.Due.{Due}
use Rattle.lines.specs.declared.Due.TheVariants as D
use Rattle.lines.specs.Listings.{max_plans, line, plan_text, end_text, refused_text, plans_from, refusal_line, reply_lines}
use Rattle.lines.specs.Dues.{refusal_due, due_of}
use Rattle.listing_state.specs.declared.Lister.{Lister}
use Rattle.listing_state.specs.Pending.{line_of, lines_after, rest_of, pending_of, state_net}
use Rattle.listing_state.specs.Parts.{FirstLine, LineAfter, RefusalLine}

-- ---- a plan that is replied is a plan of an accepted table

pub record GivenPlan (N : Network) (p : List ℕ) : Type 0 where
  pub table : Accepted N
  pub is-plan : is_plan N p ≡ true

module _ (N : Network) (k m : ℕ) where
  pub first_gives : (p : List ℕ) → first_reply N k m ≡ plan p → GivenPlan N p
  unfolding first_reply
  first_gives p e =
      let table = unless-plan (table_fault N) _ e in
      let room = unless-plan (room_fault N k m) _ table.1 in
      record { table = table.0; is-plan = first-is-plan N ((first-given N table.0 p).0 room.1) }

  pub next-gives : (s p : List ℕ) → next_reply N s k m ≡ plan p → GivenPlan N p
  unfolding next_reply
  next-gives s p e =
      let table = unless-plan (table_fault N) _ e in
      let fits = unless-plan (setting_fault N s) _ table.1 in
      let room = unless-plan (room_fault N k m) _ fits.1 in
      record { table = table.0; is-plan = next-is-plan N s ((next-given N table.0 s p).0 room.1) }

-- ---- the lines after a plan

-- there is room for its gates and for marks
pub roomy : (N : Network) → Accepted N → room_fault N max_reaches mark_bytes ≡ none
roomy N ok = room-enough N ok max_reaches mark_bytes (omega arith) (omega arith)

pub first-roomy : (N : Network) → Accepted N → first_reply N max_reaches mark_bytes ≡ first_answer N
unfolding first_reply
first-roomy N ok = rw (ok, roomy N ok)

module _ (N : Network) (p : List ℕ) (g : GivenPlan N p) where
  next-replies : next_reply N p max_reaches mark_bytes ≡ chosen (next_plan N p)
  unfolding next_reply setting_fault next_answer
  next-replies =
      rw (g.table, plan-setting N p g.is-plan, roomy N g.table)
      ((given-iff N g.table (next_plan N p) (next_plan N p)).1 ((p, g.is-plan), refl))

  chosen-lines : (n : ℕ) (o : Option (List ℕ)) → reply_lines N n (chosen o) ≡ plans_from N n o
  unfolding plans_from
  chosen-lines zero none = refl
  chosen-lines (suc n) none = refl
  chosen-lines n (some q) = refl

  pub next-lines : (n : ℕ) → reply_lines N n (next_reply N p max_reaches mark_bytes) ≡ plans_from N n (next_plan N p)
  next-lines n = ap (reply_lines N n) next-replies ∙ chosen-lines n (next_plan N p)

  -- a state whose first bytes are the plan has it in hand
  pub plan-held : (rest : List ℕ) → take (gates_held N) (p ++ rest) ≡ p
  plan-held rest = take_at p rest (gates_held N) (omega (arith, setting-length N p (plan-setting N p g.is-plan), gates-fit N g.table))

-- ---- the state that a reply leads to

module _ (N : Network) (w : List ℕ) where
  -- the line and the lines after it, by the bytes that the reply leaves
  abbrev all_lines : Due → List ℕ → List ℕ
  all_lines d bytes = line_of d (take (gates_held N) bytes) ++ lines_after N d (take (gates_held N) bytes)

  refusal-lines : (k : ℕ) (bytes : List ℕ) → all_lines (refusal_due k) bytes ≡ refusal_line k
  refusal-lines k bytes = go (eqb k 11)
    where
      go : (b : Bool) → all_lines (cond b D.End (D.Refused k)) bytes ≡ cond b (line end_text) (line (refused_text k))
      go true = refl
      go false = append-nil _

  reply-lines : (o : Outcome) → ((p : List ℕ) → o ≡ plan p → GivenPlan N p) → (left : ℕ) → all_lines (due_of (answer_of o) left) (plan_after o w) ≡ reply_lines N left o
  unfolding plans_from
  reply-lines (plan p) given zero = refl
  reply-lines (plan p) given (suc left) =
      let g = given p refl in
      rw (plan-held N p g (drop (length p) w))
      (ap (λ (t : List ℕ). line (plan_text p) ++ t) (next-lines N p g left))
  reply-lines (shut_in m c) given left = refl
  reply-lines (lone i m c) given left = refl
  reply-lines (refused r) given left = refusal-lines (refusal_number r) w

  pub reply-pending : (o : Outcome) → ((p : List ℕ) → o ≡ plan p → GivenPlan N p) → (left : ℕ) (l : Lister) → l.due ≡ due_of (answer_of o) left → l.at ≡ 0 → l.setting ≡ plan_after o w → pending_of N l ≡ reply_lines N left o
  unfolding pending_of rest_of
  reply-pending o given left l d z s = rw (d, z, s) (reply-lines o given left)

-- the state of a refusal's line
pub refusal-pending : (N : Network) (k : ℕ) (l : Lister) → RefusalLine k l → pending_of N l ≡ refusal_line k
unfolding pending_of rest_of
refusal-pending N k l state = rw (state.its-line, state.begun) (refusal-lines N [] k l.setting)

-- ---- the two calls of the planner

module _ (N : Network) (w marks : List ℕ) {bytes marks' : List ℕ} {r : Result Reply Refusal} {d : Due} (left : ℕ) (size : length w ≡ max_reaches) (room : length marks ≡ mark_bytes) (due : d ≡ due_of r left) where
  -- the state that a reply leads to
  replied : (reply : ℕ → ℕ → Outcome) → ((p : List ℕ) → reply max_reaches mark_bytes ≡ plan p → GivenPlan N p) → Replied (reply (length w) (length marks)) w marks bytes marks' r
      → (n : ℕ) → pending_of N (record { basins = n; due = d; at = 0; setting = bytes }) ≡ reply_lines N left (reply max_reaches mark_bytes)
  replied reply given written n =
      let at-limits : Replied (reply max_reaches mark_bytes) w marks bytes marks' r = rw (size, room) at written in
      reply-pending N w (reply max_reaches mark_bytes) given left (record { basins = n; due = d; at = 0; setting = bytes }) (due ∙ ap (λ (x : Result Reply Refusal). due_of x left) at-limits.reply) refl at-limits.plan-left

pub first-state : (n : ℕ) (ks xs ys w marks : List ℕ) {bytes marks' : List ℕ} {r : Result Reply Refusal} {d : Due} → length w ≡ max_reaches → length marks ≡ mark_bytes → d ≡ due_of r max_plans
    → Replied (first_reply (net_of n ks xs ys) (length w) (length marks)) w marks bytes marks' r → FirstLine n ks xs ys (record { basins = n; due = d; at = 0; setting = bytes })
first-state n ks xs ys w marks size room due written =
    let N = net_of n ks xs ys in
    record { basins-kept = refl; lines = replied N w marks max_plans size room due (first_reply N) (first_gives N max_reaches mark_bytes) written n }

pub next-state : (l : Lister) (ks xs ys marks : List ℕ) (left : ℕ) {g : ℕ} {old bytes marks' : List ℕ} {r : Result Reply Refusal} {d : Due} → length l.setting ≡ max_reaches → length marks ≡ mark_bytes → d ≡ due_of r left
    → g ≡ gates_held (state_net l ks xs ys) → old ≡ l.setting → Replied (next_reply (state_net l ks xs ys) (take g old) (length l.setting) (length marks)) l.setting marks bytes marks' r
    → LineAfter (state_net l ks xs ys) l left (record { basins = l.basins; due = d; at = 0; setting = bytes })
next-state l ks xs ys marks left {g} {old} size room due held same written =
    let N = state_net l ks xs ys in
    record {
      basins-kept = refl;
      begun = refl;
      lines =
          replied N l.setting marks left size room due (next_reply N (take g old)) (next-gives N max_reaches mark_bytes (take g old)) written l.basins
          ∙ ap (λ (s : List ℕ). reply_lines N left (next_reply N (take g s) max_reaches mark_bytes)) same
          ∙ ap (λ (k : ℕ). reply_lines N left (next_reply N (take k l.setting) max_reaches mark_bytes)) held;
    }
