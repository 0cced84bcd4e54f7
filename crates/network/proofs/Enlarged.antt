-- Document 02, item 3: basins that no reach has an end at change no reply, wherever the numbering ends; and "if all are dry the empty setting is a plan".
-- Assumes nothing.
use Prim.Native.Nat.{ℕ, ◌+◌, ◌-◌, ◌≤◌, ◌<◌}
use native.Mathlib.Omega.{arith}
use native.Mathlib.Decide.{dec_lt}
use mathlib.Core.Path.{◌≡◌, refl, sym, ap, ◌∙◌}
use mathlib.Core.Bool.{true, false, not, ◌&&◌, false≢true}
use mathlib.Core.Logic.{⊎_elim}
use mathlib.Core.Option
use mathlib.Core.Option.{Option}
use mathlib.Core.List.{List, [], ◌++◌, append-nil}
use lib.ListN.{get_or}
use lib.Dec.{ltb}
use borrow.Author.Tests.{le-leb, ltb-true, lt-ltb, eq-eqb}
use mathlib.Mathlib.Data.Bool.Basic.{and_elim_left, and_elim_right, and_intro, Bool-eq-false}
use Rattle.network.specs.declared.Refusal.TheVariants.{LastPlan}
use Rattle.lists.specs.Lists.{range, some?, find, keep, elem}
use Rattle.lists.proofs.Bools.{clash}
use Rattle.lists.proofs.Searches.{every-make, every-at, find-yes, keep_same, keep_append, keep-none}
use Rattle.lists.proofs.Ranges.{range-add, range-in}
use Rattle.network.specs.Networks.{Network, max_basins, is_wet, basins_of, good_count, good_ends, Accepted}
use Rattle.network.specs.Settings.{is_gated, gate_count, is_setting, setting_fault}
use Rattle.network.specs.Orientations.{arcs_under, unoriented}
use Rattle.network.specs.Plans.{strongly_connected, strongly_connected_under, is_plan, passable, first_plan, next_plan}
use Rattle.network.specs.Bridges.{sides, is_cut, reach_at, crosses_alone, is_bridge}
use Rattle.network.specs.Marks.{marks_of, mark_count}
use Rattle.network.specs.Replies.{plan, lone, refused, shut_in_basin, shut_in_side, bridge_side, shut_in_finding, lone_finding, answer, first_answer, next_answer, room_fault, first_reply, next_reply}
use Rattle.network.specs.Choices.{plans, bound_bytes}
use Rattle.network.specs.Enlarged.{enlarged}
use Rattle.network.proofs.Ways.{gate-at, gated-in-service}
use Rattle.network.proofs.Networks.{ends_below, fault-none, tests-passed, accepted, wet-by, basin-below, basin-wet, end-a-in}
use Rattle.network.proofs.Order.{same_first, same_next}
use Rattle.network.proofs.Replies.{same-answers, first-given, last-plan}
use Rattle.network.proofs.Choices.{same-plans, same-bound}

-- ---- more basins, and no reach at them

-- those past the basin count are dry
dry-past : (N : Network) → Accepted N → (b : ℕ) → N.basins ≤ b → is_wet N b ≡ false
dry-past N ok b l = Bool-eq-false {b = is_wet N b} wet
  where
    wet : is_wet N b ≡ true → ⊥
    wet e =
        let w = wet-by N b e in
        ⊎_elim (λ f. omega (arith, f, (accepted N ok).end-a w.reach w.below)) (λ f. omega (arith, f, (accepted N ok).end-b w.reach w.below)) w.ends

module _ (N : Network) (ok : Accepted N) (m : ℕ) (more : N.basins ≤ m) where
  none-past : (i k : ℕ) → N.basins ≤ i → keep (is_wet N) (range i k) ≡ []
  none-past i k l = keep_same (is_wet N) (λ b. false) (range i k) (λ b mem. dry-past N ok b (omega (arith, (range-in i k mem).0))) ∙ keep-none (range i k)

  pub enlarged-accepted : m ≤ max_basins → Accepted (enlarged N m)
  enlarged-accepted few =
      let good = tests-passed N ok in
      let count : good_count (enlarged N m) ≡ true = and_intro (le-leb 1 m (omega (arith, (accepted N ok).some-basin))) (le-leb m max_basins few) in
      let ends : good_ends (enlarged N m) ≡ true =
      every-make (ends_below m) N.reaches
      (λ r mem.
      let low = every-at (ends_below N.basins) good.2 mem in
      and_intro
      (lt-ltb r.a m (omega (arith, ltb-true r.a N.basins (and_elim_left (ltb r.a N.basins) _ low))))
      (lt-ltb r.b m (omega (arith, ltb-true r.b N.basins (and_elim_right (ltb r.a N.basins) _ low))))) in
      fault-none (enlarged N m) count good.1 ends

  -- "Such a basin doesn't count": those that count are the same
  pub enlarged-basins : basins_of (enlarged N m) ≡ basins_of N
  unfolding basins_of is_wet
  enlarged-basins =
      let n = N.basins in
      let split : m ≡ n + (m - n) = omega (arith, more) in
      ap (λ (k : ℕ). keep (is_wet N) (range 0 k)) split
      ∙ ap (keep (is_wet N)) (range-add 0 n (m - n))
      ∙ keep_append (is_wet N) (range 0 n) (range (0 + n) (m - n))
      ∙ ap (λ (l : List ℕ). keep (is_wet N) (range 0 n) ++ l) (none-past (0 + n) (m - n) (omega arith))
      ∙ append-nil (keep (is_wet N) (range 0 n))

  pub enlarged-plan : (s : List ℕ) → is_plan (enlarged N m) s ≡ is_plan N s
  unfolding is_plan is_setting strongly_connected_under
  enlarged-plan s = ap (λ (bs : List ℕ). is_setting N s && strongly_connected bs (arcs_under N s)) enlarged-basins

  pub enlarged-passable : passable (enlarged N m) ≡ passable N
  unfolding passable strongly_connected_under
  enlarged-passable = ap (λ (bs : List ℕ). strongly_connected bs (arcs_under N (unoriented N))) enlarged-basins

  pub enlarged-first : first_plan (enlarged N m) ≡ first_plan N
  enlarged-first = same_first (enlarged N m) N refl enlarged-plan

  pub enlarged-next : (s : List ℕ) → next_plan (enlarged N m) s ≡ next_plan N s
  enlarged-next = same_next (enlarged N m) N refl enlarged-plan

  -- the same plans, and so the same bound gates
  pub enlarged-plans : plans (enlarged N m) ≡ plans N
  enlarged-plans = same-plans (enlarged N m) N refl enlarged-plan

  pub enlarged-bound : bound_bytes (enlarged N m) ≡ bound_bytes N
  enlarged-bound = same-bound (enlarged N m) N refl enlarged-plans

  -- the same findings, with the same marks
  pub enlarged-shut-in : shut_in_finding (enlarged N m) ≡ shut_in_finding N
  unfolding shut_in_finding shut_in_side shut_in_basin
  enlarged-shut-in = rw enlarged-basins

  pub enlarged-bridge : (i : ℕ) → is_bridge (enlarged N m) i ≡ is_bridge N i
  unfolding is_bridge crosses_alone
  enlarged-bridge i = ap (λ (bs : List ℕ). is_gated (reach_at N i).state && some? (λ S. is_cut bs S && crosses_alone N S i) (sides bs)) enlarged-basins

  pub enlarged-lone : (i : ℕ) → lone_finding (enlarged N m) i ≡ lone_finding N i
  unfolding lone_finding bridge_side crosses_alone
  enlarged-lone i =
      ap (λ (bs : List ℕ). let marks = marks_of (Option.get_or (find (λ S. not (elem (get_or bs 0 0) S) && (is_cut bs S && crosses_alone N S i)) (sides bs)) []) in lone i marks (mark_count marks))
      enlarged-basins

  pub enlarged-answer : (p : Option (List ℕ)) → answer (enlarged N m) p ≡ answer N p
  enlarged-answer = same-answers (enlarged N m) N enlarged-passable enlarged-bridge enlarged-shut-in (λ i e. enlarged-lone i)

  -- what first and next reply to any input with an accepted table
  module _ (few : m ≤ max_basins) where
    pub enlarged-first-reply : (plan_length marks_length : ℕ) → first_reply (enlarged N m) plan_length marks_length ≡ first_reply N plan_length marks_length
    unfolding first_reply first_answer room_fault
    enlarged-first-reply plan_length marks_length = rw (enlarged-accepted few, ok, enlarged-first, enlarged-answer)

    pub enlarged-next-reply : (s : List ℕ) (plan_length marks_length : ℕ) → next_reply (enlarged N m) s plan_length marks_length ≡ next_reply N s plan_length marks_length
    unfolding next_reply next_answer room_fault setting_fault is_setting
    enlarged-next-reply s plan_length marks_length = rw (enlarged-accepted few, ok, enlarged-next s, enlarged-answer)

-- ---- all basins dry

module _ (N : Network) (ok : Accepted N) (dry : (b : ℕ) → b < N.basins → is_wet N b ≡ false) where
  -- none is left
  all-dry : basins_of N ≡ []
  unfolding basins_of
  all-dry = keep_same (is_wet N) (λ b. false) (range 0 N.basins) (λ b m. dry b (omega (arith, (range-in 0 N.basins m).1))) ∙ keep-none (range 0 N.basins)

  -- no reach is in service, and so there is no gate
  dry-gates : gate_count N ≡ 0
  dry-gates = go (dec_lt 0 (gate_count N))
    where
      go : Dec (0 < gate_count N) → gate_count N ≡ 0
      go (yes l) =
          let g = gate-at 0 N.reaches [] 0 l in
          let end = end-a-in N ok g.reach g.below (gated-in-service (reach_at N g.reach).state g.gated) in
          clash (basin-wet N _ end) (dry _ (basin-below N _ end))
      go (no n) = omega arith

  pub dry-plan : is_plan N [] ≡ true
  unfolding is_plan is_setting strongly_connected_under
  dry-plan = and_intro (and_intro (eq-eqb 0 (gate_count N) (sym dry-gates)) refl) (ap (λ (bs : List ℕ). strongly_connected bs (arcs_under N [])) all-dry)

  -- so first gives it, and next says that it is the last
  pub dry-first : first_answer N ≡ plan []
  unfolding first_plan
  dry-first = (first-given N ok []).1 (rw dry-gates (find-yes (is_plan N) [] dry-plan))

  pub dry-next : next_answer N [] ≡ refused LastPlan
  dry-next = (last-plan N ok []).1 (([], dry-plan), λ q e later. false≢true later)
