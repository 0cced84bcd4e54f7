-- The step: the next plan from the bytes that a table uses, and the walker after it.
-- Assumes nothing.
use Rattle.std.specs.Prelude.{Ok, Result}
use Prim.Native.Nat.{ℕ, ◌≤◌, ◌<◌}
use native.Mathlib.Omega.{arith}
use mathlib.Core.Path.{◌≡◌, refl, sym, ap, subst, ◌∙◌}
use mathlib.Core.Option.{Option, none, some}
use mathlib.Core.List.{List, ◌++◌}
use lib.ListN.{length, take, drop, length-append}
use lib.Seq.{length-take-le, take_at, drop_at}
use lib.Dec.{leb}
use borrow.Author.Tests.{le-leb, lt-leb, eq-eqb}
use Rattle.network.specs.declared.Refusal.{Refusal}
use Rattle.lists.specs.Lists.{every}
use Rattle.network.specs.Networks.{Network, max_reaches, table_fault, Accepted}
use Rattle.network.specs.Settings.{gate_count, is_setting, setting_fault}
use Rattle.network.specs.Replies.{Outcome, plan, shut_in, lone, refused, plan_after, unless, room_fault, next_answer, next_reply}
use Rattle.network.proofs.Order.{setting-length, plan-setting, next-is-plan}
use Rattle.network.proofs.Replies.{next-given, unless-plan}
use Rattle.replies.specs.declared.Verdict.TheVariants.{Plan}
use Rattle.replies.specs.declared.Reply.{Reply}
use Rattle.replies.specs.Answers.{Replied}
use Rattle.replies.proofs.Refusals.{next-faulty}
use Rattle.packing.proofs.Packings.{ByTable}
use Rattle.walker.specs.declared.Walker.{Walker}
use Rattle.walker.specs.declared.Stepped.{Stepped}
use Rattle.walker.specs.Walkers.{setting_in, step_reply, advanced_by, Stepping}
use Rattle.tables.specs.Rows.{gates_held}
use Rattle.network.proofs.Networks.{gates-fit}

-- ---- the walker after an answer

module _ (g : ℕ) (buffer w : List ℕ) {r : Result Reply Refusal} {y : Reply} (e : r ≡ Ok y) (v : y.verdict ≡ Plan) where
  -- a plan given moves the walker
  pub advanced-moved : {w' : List ℕ} → g ≤ length buffer → w' ≡ take g buffer ++ drop g w → w' ≡ advanced_by r g buffer w
  advanced-moved l m = rw (e, v, le-leb g (length buffer) l) m

  -- a buffer too short for it does not
  pub advanced-short : length buffer < g → w ≡ advanced_by r g buffer w
  advanced-short l = rw (e, v, lt-leb g (length buffer) l)

-- a reply whose plans have g bytes, once written down, moves the walker to its plan
walk-on : (o : Outcome) (w : List ℕ) {g : ℕ} {buffer marks buffer' marks' : List ℕ} {r : Result Reply Refusal} → ((p : List ℕ) → o ≡ plan p → length p ≡ g) → Replied o buffer marks buffer' marks' r → advanced_by r g buffer' w ≡ plan_after o w
walk-on (plan p) w {g} {buffer} {buffer'} sized e =
    let n = sized p refl in
    let there : take g buffer' ≡ p = ap (take g) e.plan-left ∙ take_at p (drop (length p) buffer) g n in
    let long : g ≤ length buffer' = omega (arith, ap length e.plan-left, length-append p (drop (length p) buffer)) in
    sym (advanced-moved g buffer' w e.reply refl long (rw (there, n)))
walk-on (shut_in m c) w {g} {buffer'} sized e = ap (λ (x : Result Reply Refusal). advanced_by x g buffer' w) e.reply
walk-on (lone i m c) w {g} {buffer'} sized e = ap (λ (x : Result Reply Refusal). advanced_by x g buffer' w) e.reply
walk-on (refused x) w {g} {buffer'} sized e = ap (λ (x : Result Reply Refusal). advanced_by x g buffer' w) e.reply

-- ---- the reply

module _ (N : Network) where
  -- of an accepted table the walker holds all gates
  all_held : Accepted N → gates_held N ≡ gate_count N
  all_held ok = omega (arith, gates-fit N ok)

  -- the reply to the bytes held is the reply to the walker's setting
  pub step_same : (w : List ℕ) (plan_length marks_length : ℕ) → next_reply N (take (gates_held N) w) plan_length marks_length ≡ step_reply N w plan_length marks_length
  unfolding next_reply step_reply
  step_same w plan_length marks_length = go (table_fault N) refl
    where
      go : (f : Option Refusal) → table_fault N ≡ f → next_reply N (take (gates_held N) w) plan_length marks_length ≡ next_reply N (setting_in N w) plan_length marks_length
      go (some r) e = rw e
      go none e = rw (all_held e)

  -- a plan is replied only to an accepted table, and has a byte for each gate
  step_given : (w : List ℕ) (plan_length marks_length : ℕ) {p : List ℕ} → step_reply N w plan_length marks_length ≡ plan p → Accepted N × (length p ≡ gate_count N)
  unfolding next_reply step_reply
  step_given w plan_length marks_length {p} e =
      let s = setting_in N w in
      let room = unless (room_fault N plan_length marks_length) (next_answer N s) in
      let table = unless-plan (table_fault N) (unless (setting_fault N s) room) e in
      let fits = unless-plan (setting_fault N s) room table.1 in
      let given = unless-plan (room_fault N plan_length marks_length) (next_answer N s) fits.1 in
      (table.0, setting-length N p (plan-setting N p (next-is-plan N s ((next-given N table.0 s p).0 given.1))))

  module _ (w : List ℕ) {buffer marks buffer' marks' : List ℕ} {r : Result Reply Refusal} where
    -- the walker advanced by the answer has what the reply leaves
    pub step-walk : Replied (step_reply N w (length buffer) (length marks)) buffer marks buffer' marks' r → advanced_by r (gates_held N) buffer' w ≡ plan_after (step_reply N w (length buffer) (length marks)) w
    step-walk = walk-on (step_reply N w (length buffer) (length marks)) w (λ p e. let given = step_given w (length buffer) (length marks) e in given.1 ∙ sym (all_held given.0))

    -- a call of next with the bytes held, and the walker advanced by its answer, are a step
    pub step-made : {g : ℕ} {v : Walker} → g ≡ gates_held N → Replied (next_reply N (take g w) (length buffer) (length marks)) buffer marks buffer' marks' r → v.setting ≡ advanced_by r g buffer' w → Stepping N w buffer marks buffer' marks' (record { answer = r; walker = v })
    step-made {g} {v} held next walked = record { replied = replied; walked = walked ∙ ap (λ (k : ℕ). advanced_by r k buffer' w) held ∙ step-walk replied }
      where
        replied : Replied (step_reply N w (length buffer) (length marks)) buffer marks buffer' marks' r
        replied =
            subst
            (λ (o : Outcome). Replied o buffer marks buffer' marks' r)
            (ap (λ (k : ℕ). next_reply N (take k w) (length buffer) (length marks)) held ∙ step_same w (length buffer) (length marks))
            next

  -- ---- what document 01 says of a step

  module _ (w : List ℕ) where
    -- "8 only for a byte over 1"
    pub step_fits : Accepted N → length w ≡ max_reaches → is_setting N (setting_in N w) ≡ every (λ x. leb x 1) (setting_in N w)
    unfolding is_setting
    step_fits ok size = rw (eq-eqb (length (setting_in N w)) (gate_count N) (length-take-le (gate_count N) w (omega (arith, gates-fit N ok))))

    module _ (plan_length marks_length : ℕ) where
      -- "a given plan becomes the setting of the walker after it"
      pub step-setting : {p : List ℕ} → step_reply N w plan_length marks_length ≡ plan p → setting_in N (plan_after (plan p) w) ≡ p
      step-setting {p} e = take_at p (drop (length p) w) (gate_count N) (step_given w plan_length marks_length e).1

      -- "those past the gated reaches neither count nor change"
      pub step-rest : drop (gate_count N) (plan_after (step_reply N w plan_length marks_length) w) ≡ drop (gate_count N) w
      step-rest = go (step_reply N w plan_length marks_length) refl
        where
          go : (o : Outcome) → step_reply N w plan_length marks_length ≡ o → drop (gate_count N) (plan_after o w) ≡ drop (gate_count N) w
          go (plan p) e =
              let n = (step_given w plan_length marks_length e).1 in
              drop_at p (drop (length p) w) (gate_count N) n ∙ ap (λ (k : ℕ). drop k w) n
          go (shut_in m c) e = refl
          go (lone i m c) e = refl
          go (refused r) e = refl

-- of a refused table a step depends on the refusal only
pub step-alike : (w : List ℕ) {buffer marks buffer' marks' : List ℕ} {r : Stepped} → ByTable (λ N. Stepping N w buffer marks buffer' marks' r)
unfolding step_reply
step-alike w {buffer} {marks} {buffer'} {marks'} {r} N N' x e e' h =
    let p = length buffer in
    let q = length marks in
    let same : step_reply N w p q ≡ step_reply N' w p q = next-faulty N (setting_in N w) x p q e ∙ sym (next-faulty N' (setting_in N' w) x p q e') in
    record { replied = subst (λ (o : Outcome). Replied o buffer marks buffer' marks' r.answer) same h.replied; walked = h.walked ∙ ap (λ (o : Outcome). plan_after o w) same }
