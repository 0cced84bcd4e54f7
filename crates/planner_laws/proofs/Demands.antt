-- Demand 2 over the call of first, and demand 3 over the call of next and over a walker's step, from what the calls promise.
-- Assumes nothing.
use Rattle.replies.specs.declared.Reply.{Reply}
use Rattle.std.specs.Prelude.{Result}
use Prim.Native.Nat.{ℕ}
use mathlib.Core.Path.{◌≡◌, refl, sym, ap, subst, subst⁻¹, ◌∙◌}
use mathlib.Core.Bool.{true, false, true≢false}
use mathlib.Core.Option.{Option, none, some}
use mathlib.Core.List.{List}
use lib.ListN.{length, take, drop}
use lib.Seq.{take_at}
use borrow.Author.Tests.{le-leb}
use Rattle.network.specs.declared.Refusal.{Refusal}
use Rattle.network.specs.Networks.{Network, table_fault, Accepted}
use Rattle.network.specs.Settings.{gate_count, is_setting, setting_fault}
use Rattle.network.specs.Marks.{mark_bytes}
use Rattle.network.specs.Replies.{Outcome, plan, shut_in, lone, refused, shut_in_finding, lone_finding, chosen, answer, first_answer, next_answer, unless, room_fault, first_reply, next_reply, plan_after}
use Rattle.network.specs.Plans.{is_plan, passable, first_plan, next_plan}
use Rattle.network.specs.Bridges.{lowest_bridge}
use Rattle.network.proofs.Marks.{length-marks}
use Rattle.network.proofs.Order.{setting-length, plan-setting, first-is-plan, first-is-earliest, next-is-plan, next-is-later, next-is-earliest}
use Rattle.network.specs.Certificates.{ShutInShown, BridgeShown, Trichotomy, has-plan, not-passable, has-bridge}
use Rattle.lists.proofs.Bools.{clash}
use Rattle.network.proofs.Bridges.{bridge-blocks}
use Rattle.network.proofs.Theorem.{plan-passable}
use Rattle.network.proofs.Certificates.{shut-in-shown, bridge-shown}
use Rattle.network.proofs.Replies.{lowest-is-bridge, trichotomy, First, is-plan, is-shut, is-bridge, first-cases, first-given, given-if-plan, unless-plan, next-given, last-plan, given-if-later, demand-3}
use Rattle.replies.specs.Answers.{Replied, FirstCall, NextCall}
use Rattle.walker.specs.declared.Stepped.{Stepped}
use Rattle.walker.specs.Walkers.{setting_in, step_reply, Stepping}
use Rattle.walker.proofs.Steps.{step-setting, step-rest}
use Rattle.planner_laws.specs.Demands.{read_reply, EnoughRoom, OneOfThree, a-plan, a-shut-in, a-lone, FindingShown, FirstShown, FirstOver, FirstAsked, Asked, NextShown, DemandThree, DemandOver, NextOfTwo, Walked}

-- a reply whose plan and marks have the lengths that the network has
data Sized (N : Network) : Outcome → Type 0 where
  sized-plan : {s : List ℕ} → length s ≡ gate_count N → Sized N (plan s)
  sized-shut : {m : List ℕ} {c : ℕ} → length m ≡ mark_bytes → Sized N (shut_in m c)
  sized-lone : {i : ℕ} {m : List ℕ} {c : ℕ} → length m ≡ mark_bytes → Sized N (lone i m c)
  sized-refused : {r : _} → Sized N (refused r)

-- is read back from the buffers into which it was written
read_back : (N : Network) (o : Outcome) {planBuffer marksBuffer plan' marks' : List ℕ} {r : Result Reply Refusal} → Sized N o → Replied o planBuffer marksBuffer plan' marks' r → read_reply N r plan' marks' ≡ o
read_back N (plan s) {planBuffer} {plan'} {marks'} (sized-plan e) w =
    ap (λ (x : Result Reply Refusal). read_reply N x plan' marks') w.reply
    ∙ ap (λ (l : List ℕ). plan (take (gate_count N) l)) w.plan-left
    ∙ ap plan (take_at s (drop (length s) planBuffer) (gate_count N) e)
read_back N (shut_in m c) {marksBuffer} {plan'} {marks'} (sized-shut e) w =
    ap (λ (x : Result Reply Refusal). read_reply N x plan' marks') w.reply
    ∙ ap (λ (l : List ℕ). shut_in (take mark_bytes l) c) w.marks-left
    ∙ ap (λ (l : List ℕ). shut_in l c) (take_at m (drop (length m) marksBuffer) mark_bytes e)
read_back N (lone i m c) {marksBuffer} {plan'} {marks'} (sized-lone e) w =
    ap (λ (x : Result Reply Refusal). read_reply N x plan' marks') w.reply
    ∙ ap (λ (l : List ℕ). lone i (take mark_bytes l) c) w.marks-left
    ∙ ap (λ (l : List ℕ). lone i l c) (take_at m (drop (length m) marksBuffer) mark_bytes e)
read_back N (refused x) {plan'} {marks'} sized-refused w = ap (λ (y : Result Reply Refusal). read_reply N y plan' marks') w.reply

-- what first and next reply has these lengths
answer-sized : (N : Network) → Accepted N → (o : Option (List ℕ)) → ((p : List ℕ) → o ≡ some p → is_plan N p ≡ true) → Sized N (answer N o)
unfolding shut_in_finding lone_finding
answer-sized N ok o h = go (trichotomy N ok)
  where
    pick : (x : Option (List ℕ)) → o ≡ x → Sized N (chosen x)
    pick none e = sized-refused
    pick (some p) e = sized-plan (setting-length N p (plan-setting N p (h p e)))

    go : Trichotomy N → Sized N (answer N o)
    go (has-plan q e f) = subst⁻¹ (Sized N) (f o) (pick o refl)
    go (not-passable n k f) = subst⁻¹ (Sized N) (f o) (sized-shut (length-marks _))
    go (has-bridge i e y k f) = subst⁻¹ (Sized N) (f o) (sized-lone (length-marks _))

first-sized : (N : Network) → Accepted N → Sized N (first_answer N)
unfolding first_answer
first-sized N ok = answer-sized N ok (first_plan N) (λ p e. first-is-plan N e)

next-sized : (N : Network) → Accepted N → (s : List ℕ) → Sized N (next_answer N s)
unfolding next_answer
next-sized N ok s = answer-sized N ok (next_plan N s) (λ p e. next-is-plan N s e)

unless-sized : (N : Network) (f : Option Refusal) {o : Outcome} → (f ≡ none → Sized N o) → Sized N (unless f o)
unless-sized N none h = h refl
unless-sized N (some r) h = sized-refused

reply-sized : (N : Network) (s : List ℕ) (plan_length marks_length : ℕ) → Sized N (next_reply N s plan_length marks_length)
unfolding next_reply
reply-sized N s plan_length marks_length =
    unless-sized N (table_fault N) (λ ok. unless-sized N (setting_fault N s) (λ fits. unless-sized N (room_fault N plan_length marks_length) (λ room. next-sized N ok s)))

first-reply-sized : (N : Network) (plan_length marks_length : ℕ) → Sized N (first_reply N plan_length marks_length)
unfolding first_reply
first-reply-sized N plan_length marks_length = unless-sized N (table_fault N) (λ ok. unless-sized N (room_fault N plan_length marks_length) (λ room. first-sized N ok))

-- what a caller of first reads is the reply of the definition, whatever the input
pub first_read :
    (N : Network) {planBuffer marksBuffer plan' marks' : List ℕ} {r : Result Reply Refusal} → FirstCall N planBuffer marksBuffer r plan' marks' → read_reply N r plan' marks' ≡ first_reply N (length planBuffer) (length marksBuffer)
first_read N {planBuffer} {marksBuffer} = read_back N (first_reply N (length planBuffer) (length marksBuffer)) (first-reply-sized N (length planBuffer) (length marksBuffer))

-- ---- demand 2

-- where nothing is refused by number before the search
room-none : (N : Network) {planBuffer marksBuffer : List ℕ} → EnoughRoom N planBuffer marksBuffer → room_fault N (length planBuffer) (length marksBuffer) ≡ none
unfolding room_fault
room-none N {planBuffer} {marksBuffer} a = rw (le-leb (gate_count N) (length planBuffer) a.plan-room, le-leb mark_bytes (length marksBuffer) a.marks-room)

first-roomy : (N : Network) {planBuffer marksBuffer : List ℕ} → EnoughRoom N planBuffer marksBuffer → first_reply N (length planBuffer) (length marksBuffer) ≡ first_answer N
unfolding first_reply
first-roomy N a = rw (a.accepted, room-none N a)

-- one finding has one certificate
shut-same : {N : Network} {m m' : List ℕ} {c c' : ℕ} → shut_in m c ≡ shut_in m' c' → ShutInShown N m c → ShutInShown N m' c'
shut-same {N} {m} {m'} {c} {c'} e f =
    let e₁ : m ≡ m' = cc in
    let e₂ : c ≡ c' = cc in
    subst (λ (x : List ℕ). ShutInShown N x c') e₁ (subst (λ (x : ℕ). ShutInShown N m x) e₂ f)

lone_same : {N : Network} {i i' : ℕ} {m m' : List ℕ} {c c' : ℕ} → lone i m c ≡ lone i' m' c' → BridgeShown N i m c → BridgeShown N i' m' c'
lone_same {N} {i} {i'} {m} {m'} {c} {c'} e f =
    let e₀ : i ≡ i' = cc in
    let e₁ : m ≡ m' = cc in
    let e₂ : c ≡ c' = cc in
    subst (λ (x : ℕ). BridgeShown N x m' c') e₀ (subst (λ (x : List ℕ). BridgeShown N i x c') e₁ (subst (λ (x : ℕ). BridgeShown N i m x) e₂ f))

module _ (N : Network) (ok : Accepted N) where
  -- a plan, or that none is later, is no finding, and only a network with a plan gets it
  plan-shown : (s : List ℕ) → is_plan N s ≡ true → {o : Outcome} → ((m : List ℕ) (c : ℕ) → o ≡ shut_in m c → ⊥) → ((i : ℕ) (m : List ℕ) (c : ℕ) → o ≡ lone i m c → ⊥) → FindingShown N o
  plan-shown s p not-shut not-lone =
      record {
        is-shut-in = (λ a. absurd (not-shut a.0 a.1 a.2), λ n. clash (plan-passable N s p) n);
        is-lone = (λ a. absurd (not-lone a.0 a.1 a.2 a.3), λ b. absurd (bridge-blocks N b.1 b.2 s p));
        shut-in = λ m c h. absurd (not-shut m c h);
        lone-reach = λ i m c h. absurd (not-lone i m c h);
      }

  chosen-shown : (s : List ℕ) → is_plan N s ≡ true → (p : Option (List ℕ)) → FindingShown N (chosen p)
  chosen-shown s e (some t) = plan-shown s e (λ m c h. true≢false (cc)) (λ i m c h. true≢false (cc))
  chosen-shown s e none = plan-shown s e (λ m c h. true≢false (cc)) (λ i m c h. true≢false (cc))

  -- the two findings
  shut-shown : passable N ≡ false → FindingShown N (shut_in_finding N)
  shut-shown n =
      let shown = shut-in-shown N ok n in
      subst⁻¹ (FindingShown N) shown.2
      (record {
        is-shut-in = (λ a. n, λ x. (shown.0, shown.1, refl));
        is-lone = (λ a. absurd (no-lone a.3), λ b. clash b.0 n);
        shut-in = λ m c h. shut-same h shown.3;
        lone-reach = λ i m c h. absurd (no-lone h);
      })
    where
      no-lone : {i : ℕ} {m m' : List ℕ} {c c' : ℕ} → shut_in m c ≡ lone i m' c' → ⊥
      no-lone e = true≢false (cc)

  bridge-found : (i : ℕ) → lowest_bridge N ≡ some i → passable N ≡ true → FindingShown N (lone_finding N i)
  bridge-found i l y =
      let shown = bridge-shown N ok y i l in
      subst⁻¹ (FindingShown N) shown.2
      (record {
        is-shut-in = (λ a. absurd (no-shut a.2), λ n. clash y n);
        is-lone = (λ a. (y, i, lowest-is-bridge N l), λ b. (i, shown.0, shown.1, refl));
        shut-in = λ m c h. absurd (no-shut h);
        lone-reach = λ j m c h. lone_same h shown.3;
      })
    where
      no-shut : {i : ℕ} {m m' : List ℕ} {c c' : ℕ} → lone i m' c' ≡ shut_in m c → ⊥
      no-shut e = true≢false (cc)

  -- whatever plan is asked for
  finding-shown : (p : Option (List ℕ)) → FindingShown N (answer N p)
  finding-shown p = go (trichotomy N ok)
    where
      go : Trichotomy N → FindingShown N (answer N p)
      go (has-plan s e f) = subst⁻¹ (FindingShown N) (f p) (chosen-shown s e p)
      go (not-passable n k f) = subst⁻¹ (FindingShown N) (f p) (shut-shown n)
      go (has-bridge i e y k f) = subst⁻¹ (FindingShown N) (f p) (bridge-found i e y)

  one_of : {o : Outcome} → First N o → OneOfThree o
  one_of (is-plan s e) = a-plan s
  one_of (is-shut n) = a-shut-in _ _
  one_of (is-bridge i y e) = a-lone i _ _

  pub first-shown : FirstShown N (first_answer N)
  unfolding first_answer
  first-shown =
      record {
        one_of_three = one_of (first-cases N ok);
        is-first = first-given N ok;
        is-plan = λ p h. first-is-plan N ((first-given N ok p).0 h);
        is-earliest = λ p q h. first-is-earliest N ((first-given N ok p).0 h) q;
        is-given = given-if-plan N ok;
        finding = finding-shown (first_plan N);
      }

-- a call of first, on rows (`planner_rows::first_plan`) or on records (`planner::first_plan`): both promise `FirstCall` of the lent table's network, and that is all
-- that is asked here
module _ (N : Network) {planBuffer marksBuffer plan' marks' : List ℕ} {r : Result Reply Refusal} where
  pub first-demand : FirstCall N planBuffer marksBuffer r plan' marks' → FirstOver N planBuffer marksBuffer plan' marks' r
  first-demand c a = subst⁻¹ (FirstShown N) (first_read N c ∙ first-roomy N a) (first-shown N a.accepted)

  pub first-asked : FirstCall N planBuffer marksBuffer r plan' marks' → FirstAsked N planBuffer marksBuffer plan' marks' r
  first-asked c = record { call = c; demand = first-demand c }

-- ---- demand 3

module _ (N : Network) (s : List ℕ) {planBuffer marksBuffer : List ℕ} where
  -- what a caller of next reads is the reply of the definition, whatever the input
  pub next-read : {plan' marks' : List ℕ} {r : Result Reply Refusal} → NextCall N s planBuffer marksBuffer r plan' marks' → read_reply N r plan' marks' ≡ next_reply N s (length planBuffer) (length marksBuffer)
  next-read = read_back N (next_reply N s (length planBuffer) (length marksBuffer)) (reply-sized N s (length planBuffer) (length marksBuffer))

  -- where nothing is refused by number before the search
  next-roomy : Asked N s planBuffer marksBuffer → next_reply N s (length planBuffer) (length marksBuffer) ≡ next_answer N s
  unfolding next_reply setting_fault
  next-roomy a =
      rw (a.enough.accepted, a.fits, room-none N a.enough)

next-shown : (N : Network) → Accepted N → (s : List ℕ) → NextShown N s (next_answer N s)
unfolding next_answer
next-shown N ok s =
    record {
      is-next = next-given N ok s;
      is-plan = λ p e. next-is-plan N s ((next-given N ok s p).0 e);
      is_later = λ p e. next-is-later N s ((next-given N ok s p).0 e);
      is-earliest = λ p q e. next-is-earliest N s ((next-given N ok s p).0 e) q;
      is-given = given-if-later N ok s;
      is_last = last-plan N ok s;
      finding = finding-shown N ok (next_plan N s);
    }

demand-three : (N : Network) (s t : List ℕ) → Accepted N → is_setting N s ≡ true → is_setting N t ≡ true → {o o' : Outcome} → o ≡ next_answer N s → o' ≡ next_answer N t → DemandThree N s t o o'
demand-three N s t ok hs ht {o} {o'} e f =
    subst⁻¹ (λ (x : Outcome). DemandThree N s t x o') e
    (subst⁻¹ (λ (y : Outcome). DemandThree N s t (next_answer N s) y) f
    (record { equal = demand-3 N ok s t hs ht; first-shown = next-shown N ok s; second-shown = next-shown N ok t }))

-- ---- two calls of next, on rows (`planner_rows::next_plan`) or on records (`planner::next_plan`): both promise `NextCall` of the lent table's network,
-- and that is all that is asked here

module _ (N : Network) (s t : List ℕ) {plan₁ marks₁ plan₂ marks₂ plan₁' marks₁' plan₂' marks₂' : List ℕ} {r₁ r₂ : Result Reply Refusal} where
  pub demand-over :
      NextCall N s plan₁ marks₁ r₁ plan₁' marks₁' → NextCall N t plan₂ marks₂ r₂ plan₂' marks₂' → DemandOver N s t plan₁ marks₁ plan₂ marks₂ plan₁' marks₁' plan₂' marks₂' r₁ r₂
  demand-over c d a b =
      demand-three N s t a.enough.accepted a.fits b.fits (next-read N s c ∙ next-roomy N s a) (next-read N t d ∙ next-roomy N t b)

  pub next-of-two :
      NextCall N s plan₁ marks₁ r₁ plan₁' marks₁' → NextCall N t plan₂ marks₂ r₂ plan₂' marks₂' → NextOfTwo N s t plan₁ marks₁ plan₂ marks₂ plan₁' marks₁' plan₂' marks₂' r₁ r₂
  next-of-two c d = record { first-call = c; second_call = d; demand = demand-over c d }

-- ---- a walker's steps, on rows (`Walker::step_rows`) or on records (`Walker::step`): both promise `Stepping` of the lent table's network

-- a plan replied to any input is the next plan
pub plan-replied : (N : Network) (s : List ℕ) (plan_length marks_length : ℕ) {p : List ℕ} → next_reply N s plan_length marks_length ≡ plan p → next_plan N s ≡ some p
unfolding next_reply
plan-replied N s plan_length marks_length {p} e =
    let room = unless (room_fault N plan_length marks_length) (next_answer N s) in
    let table = unless-plan (table_fault N) (unless (setting_fault N s) room) e in
    let fits = unless-plan (setting_fault N s) room table.1 in
    (next-given N table.0 s p).0 (unless-plan (room_fault N plan_length marks_length) (next_answer N s) fits.1).1

-- a reply without a plan leaves the walker
none-walked : (o : Outcome) (w : List ℕ) → ((p : List ℕ) → o ≡ plan p → ⊥) → plan_after o w ≡ w
none-walked (plan p) w h = absurd (h p refl)
none-walked (shut_in m c) w h = refl
none-walked (lone i m c) w h = refl
none-walked (refused r) w h = refl

-- demand 3 of the settings in two walkers
pub step-demand :
    (N : Network) (w v : List ℕ) {plan₁ marks₁ plan₂ marks₂ plan₁' marks₁' plan₂' marks₂' : List ℕ} {r₁ r₂ : Stepped}
    → Stepping N w plan₁ marks₁ plan₁' marks₁' r₁ → Stepping N v plan₂ marks₂ plan₂' marks₂' r₂
    → DemandOver N (setting_in N w) (setting_in N v) plan₁ marks₁ plan₂ marks₂ plan₁' marks₁' plan₂' marks₂' r₁.answer r₂.answer
unfolding step_reply
step-demand N w v c d = demand-over N (setting_in N w) (setting_in N v) c.replied d.replied

-- what a step does to its walker
pub step-walked :
    (N : Network) (w : List ℕ) {buffer marks buffer' marks' : List ℕ} {r : Stepped} → Stepping N w buffer marks buffer' marks' r
    → Walked N w (read_reply N r.answer buffer' marks') r.walker.setting
unfolding step_reply
step-walked N w {buffer} {marks} {buffer'} {marks'} {r} c =
    record {
      is-setting = λ p e. ap (setting_in N) (c.walked ∙ ap (λ (o : Outcome). plan_after o w) (replied p e)) ∙ step-setting N w (length buffer) (length marks) (replied p e);
      is-next = λ p e. plan-replied N (setting_in N w) (length buffer) (length marks) (replied p e);
      rest = ap (drop (gate_count N)) c.walked ∙ step-rest N w (length buffer) (length marks);
      is_same = λ h. c.walked ∙ none-walked (step_reply N w (length buffer) (length marks)) w (λ p e. h p (same ∙ e));
    }
  where
    same : read_reply N r.answer buffer' marks' ≡ step_reply N w (length buffer) (length marks)
    same = next-read N (setting_in N w) c.replied

    replied : (p : List ℕ) → read_reply N r.answer buffer' marks' ≡ plan p → step_reply N w (length buffer) (length marks) ≡ plan p
    replied p e = sym same ∙ e
