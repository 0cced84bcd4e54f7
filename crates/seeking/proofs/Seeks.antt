-- The next plan of a setting, from where the setting was followed to and where it was left.
-- Assumes nothing.
use Prim.Native.Nat.{ℕ, suc, ◌+◌, ◌≤◌, ◌<◌}
use native.Mathlib.Omega.{arith}
use native.Mathlib.Numerals.{add-one}
use mathlib.Core.Path.{◌≡◌, sym, ap, subst, subst⁻¹, ◌∙◌}
use mathlib.Core.Bool.{true}
use mathlib.Core.Option.{none}
use mathlib.Core.List.{List, []}
use lib.ListN.{length, get_or, set}
use mathlib.Mathlib.Data.Bool.Basic.{Bool-eq-false}
use Rattle.std.specs.Prelude.{Option, None, Some, option_map}
use Rattle.network.specs.Networks.{Network, Accepted}
use Rattle.network.specs.Settings.{is_setting}
use Rattle.network.specs.Orientations.{ways}
use Rattle.network.specs.Plans.{strongly_connected_under, next_plan}
use Rattle.network.specs.Bridges.{is_bridge}
use Rattle.network.specs.declared.Refusal.TheVariants.{LastPlan}
use Rattle.network.specs.Replies.{plan, refused, next_answer}
use Rattle.network.proofs.Ways.{length-ways}
use Rattle.network.proofs.Order.{plan-setting}
use Rattle.network.proofs.Bridges.{bridge-blocks}
use Rattle.network.proofs.Theorem.{plan-reaches}
use Rattle.network.proofs.Replies.{given-iff, next-given}
use Rattle.tables.specs.Rows.{net_of, ways_row}
use Rattle.tables.specs.Bytes.{bytes_of}
use Rattle.orientations.specs.Least.{LeastPlan, NoneFrom}
use Rattle.orientations.specs.Partials.{StronglyConnected, Tries, Begun, Bridgeless, Under, Binds, up_to}
use Rattle.orientations.proofs.Nexts.{none-from-end, least-next, none-next}
use Rattle.orientations.proofs.Parts.{up-all, connected-lower, none-back, open_at}
use Rattle.completing.specs.Greedy.{Completable, Completed}
use Rattle.branching.specs.Follows.{Following, TurnedBack, turned-at, nowhere}
use Rattle.seeking.specs.declared.Found.{Found}
use Rattle.seeking.specs.declared.Found.TheVariants.{Oriented}
use Rattle.seeking.specs.Found.{NextFound, no-later, next-is}
use Rattle.seeking.specs.Seeks.{SomePlan, Partable, StepTaken, stepped-at, no_step, AtPlan, NextFrom}
use Rattle.seeking.proofs.Levels.{level-length, under-row, row_under, kinds-bind}

-- a setting is left nowhere
pub step-none : {N : Network} {fs us ws ws' : List ℕ} {to : ℕ} → TurnedBack N fs us to ws None → StepTaken N fs us to ws' None
step-none (nowhere f) = no_step f

module _ (N : Network) where
  -- ---- leaving the setting

  -- no reach is a bridge, since there is a plan
  pub bridgeless : SomePlan N → Bridgeless N
  bridgeless p j = Bool-eq-false {b = is_bridge N j} (λ y. bridge-blocks N j y p.plan p.is-plan)

  module _ (ok : Accepted N) {fs us : List ℕ} {to : ℕ} (b : to ≤ length N.reaches) where
    -- it is left at r: the gates after r can be decided
    part-begun : {ws : List ℕ} {r : ℕ} → Under N us → Tries N fs → TurnedBack N fs us to ws (Some r) → Begun N fs ws (suc r)
    part-begun {ws} {r} u t (turned-at l g z e str f) =
        subst⁻¹ (λ (v : List ℕ). Begun N fs v (suc r)) e
        (open_at N u.setting us u.is fs t u.fits ok r (omega arith) g (subst (λ (v : List ℕ). StronglyConnected N v) e str))

    part_step : {ws ws' : List ℕ} {r : ℕ} → Tries N fs → TurnedBack N fs us to ws (Some r) → Completed N ws ws' → StepTaken N fs us to ws' (Some r)
    part_step {ws} {ws'} {r} t (turned-at l g z e str f) m = stepped-at l (t.only-gates r (omega arith) g) z f (subst (λ (v : List ℕ). Completed N v ws') e m)

    -- it is left nowhere: no plan is later
    part-last : Binds N fs us → SomePlan N → {ws : List ℕ} (seen : List ℕ) → StepTaken N fs us to ws None → NextFrom N us to ws seen None
    unfolding next_answer
    part-last t p seen (no_step f) =
        record {
          found = λ s fit is more.
              no-later ((given-iff N ok (next_plan N s) none).1 ((p.plan, p.is-plan), none-next N s fit (none-back N s us is fs t fit 0 to (omega arith) b (λ j k l. f j l) more)));
        }

    -- or at r, and the gates after it decided make the next plan
    part-next : {ws seen : List ℕ} {r : ℕ} → Binds N fs us → StepTaken N fs us to ws (Some r) → NextFrom N us to ws seen (Some Oriented)
    part-next {ws} {seen} {r} t (stepped-at l g z f m) = record { found = found }
      where
        found : (s : List ℕ) → is_setting N s ≡ true → us ≡ ways N.reaches s → NoneFrom N s to → NextFound N s ws seen (Some Oriented)
        found s fit is more =
            let least : LeastPlan N (set (up_to fs (ways N.reaches s) r) r 1) (bytes_of N.reaches ws) =
            subst (λ (v : List ℕ). LeastPlan N (set (up_to fs v r) r 1) (bytes_of N.reaches ws)) is m.least in
            next-is {f = Oriented}
            ((next-given N ok s (bytes_of N.reaches ws)).1
            (least-next N s fit fs (subst (λ (v : List ℕ). Binds N fs v) is t) r (omega arith) (none-back N s us is fs t fit (suc r) to l b f more) g (ap (λ (v : List ℕ). get_or v r 3) (sym is) ∙ z) (bytes_of N.reaches ws) least))
            tt (omega arith)

-- ---- said of rows

module _ (n : ℕ) (ks xs ys : List ℕ) where
  abbrev N : Network
  N = net_of n ks xs ys

  module _ {fs us ws : List ℕ} {to : ℕ} (p : Partable n ks fs xs ys us ws to) where
    bound : to ≤ length N.reaches
    bound = omega (arith, p.bound, level-length p.seeking.level)

    -- the rows are as long as a step requires
    pub part-rows : (length fs ≡ length xs) × ((length us ≡ length xs) × (to ≤ length xs))
    part-rows =
        let same = level-length p.seeking.level in
        (p.binds.tries.row-full ∙ same, (ap length p.seeking.under.is ∙ length-ways N.reaches p.seeking.under.setting ∙ same, p.bound))

    pub part-following : Following n ks fs xs ys us ws to
    part-following = record { kinds-full = sym p.seeking.level.ends-a; accepted = p.seeking.level.accepted; tries = p.binds.tries; under = p.seeking.under; bound = p.bound; begun = p.begun }

    -- after turning back
    module _ {ws₁ : List ℕ} {r : ℕ} (d : TurnedBack N fs us to ws₁ (Some r)) where
      pub step-below : r < length xs
      step-below = go d
        where
          go : TurnedBack N fs us to ws₁ (Some r) → r < length xs
          go (turned-at l g z e str f) = omega (arith, p.bound)

      pub step-completable : Completable n ks fs xs ys ws₁ (r + 1)
      step-completable =
          record {
            kinds-full = sym p.seeking.level.ends-a;
            accepted = p.seeking.level.accepted;
            bound = omega (arith, step-below);
            begun = rw add-one (part-begun N p.seeking.level.accepted bound p.seeking.under p.binds.tries d);
          }

      pub step-completed : {ws' : List ℕ} → Completed N ws₁ ws' → StepTaken N fs us to ws' (Some r)
      step-completed m = part_step N p.seeking.level.accepted bound p.binds.tries d m

    -- after the step
    module _ {ws' : List ℕ} where
      row_last : (seen : List ℕ) → StepTaken N fs us to ws' None → NextFrom N us to ws' seen None
      row_last seen d = part-last N p.seeking.level.accepted bound p.binds p.some-plan seen d

      row_next : {seen : List ℕ} {r : ℕ} → StepTaken N fs us to ws' (Some r) → NextFrom N us to ws' seen (Some Oriented)
      row_next d = part-next N p.seeking.level.accepted bound p.binds d

      -- what it came to
      pub row_found : {seen : List ℕ} {r : Option ℕ} {q : Option Found} → StepTaken N fs us to ws' r → q ≡ option_map (λ x. Oriented) r → NextFrom N us to ws' seen q
      row_found {seen} {r = None} d e = rw e (row_last seen d)
      row_found {r = Some x} d e = rw e (row_next d)

  -- at a plan the row of kinds tries all gates
  pub plan-binds : {s us : List ℕ} → AtPlan n ks xs ys s us → Binds N ks us
  plan-binds {s} p = kinds-bind p.level (row_under p.level s (plan-setting N s p.is-plan) p.oriented)

  -- at a plan: it is all oriented, and no plan is later and alike to the end
  module _ {s us ws : List ℕ} (p : AtPlan n ks xs ys s us) (e : ws ≡ ways_row ks s) {fs : List ℕ} (t : Binds N fs us) where
    is : us ≡ ways N.reaches s
    is = under-row p.level s p.oriented

    all : up_to fs us (length N.reaches) ≡ us
    all = up-all N s us is fs t.tries

    connected : StronglyConnected N (up_to fs us (length N.reaches))
    unfolding strongly_connected_under
    connected = subst⁻¹ (λ (v : List ℕ). StronglyConnected N v) (all ∙ is) (plan-reaches N s p.is-plan)

    pub plan-partable : Partable n ks fs xs ys us ws (length xs)
    plan-partable =
        subst (λ (m : ℕ). Partable n ks fs xs ys us ws m) (level-length p.level)
        record {
          seeking = record { level = p.level; under = row_under p.level s (plan-setting N s p.is-plan) p.oriented };
          binds = t;
          some-plan = record { plan = s; is-plan = p.is-plan };
          bound = omega (arith, level-length p.level);
          begun = e ∙ sym p.oriented ∙ sym all;
          connected-below = λ j l. connected-lower N s us is fs t.tries (length N.reaches) j connected (omega arith) (omega arith);
        }

    pub plan-found : {ws' seen : List ℕ} {r : Option Found} → NextFrom N us (length xs) ws' seen r → NextFound N s ws' seen r
    plan-found f =
        let fit = plan-setting N s p.is-plan in
        f.found s fit is (subst (λ (m : ℕ). NoneFrom N s m) (level-length p.level) (none-from-end N s fit))

    -- it is left at r, or nowhere
    pub plan-next : {ws' : List ℕ} {r : ℕ} → StepTaken N fs us (length xs) ws' (Some r) → next_answer N s ≡ plan (bytes_of N.reaches ws')
    plan-next {ws'} d = go (plan-found (row_next plan-partable d))
      where
        go : NextFound N s ws' [] (Some Oriented) → next_answer N s ≡ plan (bytes_of N.reaches ws')
        go (next-is e k q) = e

    pub plan-last : {ws' : List ℕ} → StepTaken N fs us (length xs) ws' None → next_answer N s ≡ refused LastPlan
    plan-last {ws'} d = go (plan-found (row_last plan-partable [] d))
      where
        go : NextFound N s ws' [] None → next_answer N s ≡ refused LastPlan
        go (no-later e) = e
