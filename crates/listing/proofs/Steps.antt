-- The state after the line of a plan, from a step in working memory that stands at it.
-- Assumes nothing.
use Prim.Native.Nat.{ℕ, zero, suc, ◌≤◌}
use native.Mathlib.Omega.{arith}
use mathlib.Core.Path.{◌≡◌, refl, sym, ap, subst, subst⁻¹, ◌∙◌}
use mathlib.Core.Logic.{⊎_elim}
use mathlib.Core.Bool.{Bool, true, true≢false}
use mathlib.Core.List.{List, ◌++◌}
use lib.ListN.{length, get_or, take, drop}
use lib.Seq.{take-take, take_all}
use Rattle.std.specs.Prelude.{Option, IfSome}
use Rattle.network.specs.declared.Refusal.TheVariants.{LastPlan}
use Rattle.network.specs.Networks.{Network, max_reaches}
use Rattle.network.specs.Settings.{setting_fault}
use Rattle.network.specs.Plans.{is_plan}
use Rattle.network.specs.Marks.{mark_bytes}
use Rattle.network.specs.Replies.{Outcome, plan, refused, next_answer, next_reply}
use Rattle.lists.proofs.Bools.{decide, clash}
use Rattle.network.proofs.Networks.{gates-fit}
use Rattle.network.proofs.Order.{setting-length, plan-setting}
use Rattle.tables.specs.Rows.{net_of, gates_in, ways_row, bytes_row, gates_held}
use Rattle.tables.proofs.Laws.{row-gates}
use Rattle.orientations.specs.Partials.{Binds}
use Rattle.seeking.specs.Seeks.{AtPlan}
use Rattle.seeking.proofs.Levels.{under-row}
use Rattle.seeking.proofs.Seeks.{plan-binds}
use Rattle.skipping.specs.Skips.{BindsStill}
use Rattle.stepping.specs.Advances.{gates_before, PartsAt, Advanced, moved, at_last}
use Rattle.priming.specs.Priming.{Spare, Primed}
use Rattle.stepping.proofs.Rewrites.{gates-split}
use Rattle.priming.proofs.Priming.{spare-ways, spare-index}
use Rattle.series_channels.specs.Channels.{FindableIf}
use Rattle.lines.specs.declared.Due.{Due}
use Rattle.lines.specs.declared.Due.TheVariants as D
use Rattle.listing_state.specs.declared.Lister.{Lister}
use Rattle.lines.specs.Listings.{reply_lines}
use Rattle.lines.specs.Dues.{plan_due}
use Rattle.listing_state.specs.Pending.{pending_of, state_net}
use Rattle.listing_state.specs.Parts.{LineAfter}
use Rattle.listing.specs.Keeping.{Indexed, Placed, Standing, Kept, unknown, kept}
use Rattle.line_steps.specs.Steps.{after_step, FrontStands}
use Rattle.listing_state.proofs.States.{GivenPlan, roomy, plan-held, reply-pending}

module _ (l : Lister) (ks xs ys ws : List ℕ) (left g : ℕ) (held : g ≡ gates_held (state_net l ks xs ys)) (p : AtPlan l.basins ks xs ys (take g l.setting) ws) where
  abbrev N : Network
  N = state_net l ks xs ys

  abbrev s : List ℕ
  s = take g l.setting

  -- the gates are as many as the kinds say, and the state holds a byte for each
  gates-are : (q : List ℕ) → is_plan N q ≡ true → length q ≡ gates_in ks
  gates-are q e = setting-length N q (plan-setting N q e) ∙ row-gates ks xs ys p.level.ends-a p.level.ends-b 0

  pub gates-held : g ≡ gates_in ks
  gates-held = omega (arith, held, gates-fit N p.level.accepted, row-gates ks xs ys p.level.ends-a p.level.ends-b 0)

  pub gates-room : g ≤ max_reaches
  gates-room = omega (arith, held)

  -- the bytes before the gate at which the next plan parts stand in the state
  front-stands : {q : List ℕ} {r : ℕ} → PartsAt ks s q r → take (gates_before ks r) l.setting ≡ take (gates_before ks r) q
  front-stands {q} {r} d = sym (d.same ∙ take-take (gates_before ks r) g l.setting (omega (arith, gates-held, gates-split ks r)))

  -- the reply of next, with room enough
  replies : next_reply N s max_reaches mark_bytes ≡ next_answer N s
  unfolding next_reply setting_fault
  replies = rw (p.level.accepted, plan-setting N s p.is-plan, roomy N p.level.accepted)

  -- its lines are those after the plan's
  lines_after-is : {o : Outcome} (r : Lister) → next_answer N s ≡ o → r.basins ≡ l.basins → r.at ≡ 0 → pending_of N r ≡ reply_lines N left o → LineAfter N l left r
  lines_after-is {o} r e same begun lines =
      record {
        basins-kept = same;
        begun = begun;
        lines = lines ∙ ap (reply_lines N left) (sym (replies ∙ e)) ∙ ap (λ (k : ℕ). reply_lines N left (next_reply N (take k l.setting) max_reaches mark_bytes)) held;
      }

  abbrev ended : Lister
  ended = record { basins = l.basins; due = D.End; at = 0; setting = l.setting }

  step-last : next_answer N s ≡ refused LastPlan → LineAfter N l left ended
  step-last e = lines_after-is ended e refl refl (reply-pending N l.setting (refused LastPlan) (λ q f. absurd (true≢false cc)) left ended refl refl refl)

  module _ {ws' bytes : List ℕ} {d : Due} (due : d ≡ plan_due left) (e : next_answer N s ≡ plan (bytes_row ks ws')) (is : is_plan N (bytes_row ks ws') ≡ true) (oriented : ws' ≡ ways_row ks (bytes_row ks ws'))
      (put : bytes ≡ bytes_row ks ws' ++ drop g l.setting) where
    abbrev q : List ℕ
    q = bytes_row ks ws'

    given : GivenPlan N q
    given = record { table = p.level.accepted; is-plan = is }

    abbrev after : Lister
    after = record { basins = l.basins; due = d; at = 0; setting = bytes }

    step-next : LineAfter N l left after
    step-next =
        lines_after-is after e refl refl
        (reply-pending N l.setting (plan q) (λ t f. record { table = p.level.accepted; is-plan = subst (λ (v : List ℕ). is_plan N v ≡ true) (plan-one f) is }) left after due refl
        (put ∙ ap (λ (k : ℕ). q ++ drop k l.setting) (gates-held ∙ sym (gates-are q is))))
      where
        plan-one : {v t : List ℕ} → plan v ≡ plan t → v ≡ t
        plan-one f = cc

    in-hand : take g bytes ≡ q
    in-hand = ap (take g) put ∙ ap (λ (k : ℕ). take k (q ++ drop g l.setting)) held ∙ plan-held N q given (drop g l.setting)

    at_next : AtPlan l.basins ks xs ys q ws'
    at_next = record { level = p.level; is-plan = is; oriented = oriented }

    next-stands : {fs fs' : List ℕ} → Binds N fs ws → BindsStill l.basins ks xs ys ws' fs fs' → Standing l.basins ks fs' xs ys d (take g bytes) ws'
    next-stands {fs} {fs'} h b = subst⁻¹ (λ (x : Due). Standing l.basins ks fs' xs ys x (take g bytes) ws') due (stands left)
      where
        -- what is not tried has its way in the next plan too
        moved_on : Binds N fs ws'
        moved_on =
            record {
              tries = h.tries;
              bound = λ j jl n o e. h.bound j jl n o e ∙ sym (ap (λ (v : List ℕ). get_or v j 3) (under-row p.level q oriented) ∙ h.bound j jl n q is);
            }

        stands : (k : ℕ) → Standing l.basins ks fs' xs ys (plan_due k) (take g bytes) ws'
        stands zero = tt
        stands (suc k) = record { at-plan = subst⁻¹ (λ (v : List ℕ). AtPlan l.basins ks xs ys v ws') in-hand at_next; binds = b.still q at_next moved_on }

  -- a step that was taken: the bytes before the next plan's gate stand, and the state after it
  module _ {ws' : List ℕ} {r : Option ℕ} (a : Advanced N ks s ws' r) where
    pub step-front : IfSome r (FrontStands ks ws' l.setting)
    step-front = go a
      where
        go : {r' : Option ℕ} → Advanced N ks s ws' r' → IfSome r' (FrontStands ks ws' l.setting)
        go (moved d e is oriented) = record { below = d.below; stands = front-stands d }
        go (at_last e) = tt

    module _ {o : Lister} (is : o ≡ after_step ks ws' r l left g) where
      pub step_line : LineAfter N l left o
      step_line = subst⁻¹ (LineAfter N l left) is (go a)
        where
          go : {r' : Option ℕ} → Advanced N ks s ws' r' → LineAfter N l left (after_step ks ws' r' l left g)
          go (moved d e p' oriented) = step-next refl e p' oriented refl
          go (at_last e) = step-last e

      pub step-stands : {fs fs' : List ℕ} → Binds N fs ws → BindsStill l.basins ks xs ys ws' fs fs' → Standing l.basins ks fs' xs ys o.due (take g o.setting) ws'
      step-stands {fs} {fs'} h b = subst⁻¹ at is (go a)
        where
          at : Lister → Type 0
          at x = Standing l.basins ks fs' xs ys x.due (take g x.setting) ws'

          go : {r' : Option ℕ} → Advanced N ks s ws' r' → at (after_step ks ws' r' l left g)
          go (moved d e p' oriented) = next-stands refl e p' oriented refl h b
          go (at_last e) = tt

-- ---- working memory that is kept

pub record Known (n : ℕ) (ks fs xs ys : List ℕ) (d : Due) (s us ws head next : List ℕ) : Type 0 where
  pub indexed : Indexed n ks xs ys ws head next
  pub tried-row : length fs ≡ length xs
  pub spare : length us ≡ length ws
  pub stands : Standing n ks fs xs ys d s ws

pub kept-known : {n : ℕ} {ks fs xs ys : List ℕ} {d : Due} {s us ws head next : List ℕ} {r : Bool} → Kept n ks fs xs ys d s us ws head next r → r ≡ true
    → Known n ks fs xs ys d s us ws head next
kept-known (unknown y) t = clash t y
kept-known (kept y indexed full spare stands) t = record { indexed = indexed; tried-row = full; spare = spare; stands = stands }

-- working memory that was prepared, with all gates tried
pub primed-kept : {n : ℕ} {ks fs xs ys s us ws ws₀ head head₀ next next₀ : List ℕ} {r : Bool} (d : Due) → Spare ks ws₀ head₀ next₀ → length ws ≡ length ws₀ → length us ≡ length ws
    → fs ≡ take (length ws₀) ks → Primed n ks xs ys s ws head next r → Kept n ks fs xs ys d s us ws head next r
primed-kept {n} {ks} {fs} {xs} {ys} {s} {us} {ws} {ws₀} {head} {head₀} {next} {next₀} {r} d z e f all p = ⊎_elim stood unknown (decide r)
  where
    stands : (c : Due) → Placed n ks fs xs ys s ws → Standing n ks fs xs ys c s ws
    stands (D.Plan left) h = h
    stands D.More h = tt
    stands D.End h = tt
    stands (D.Refused k) h = tt

    stood : r ≡ true → Kept n ks fs xs ys d s us ws head next r
    stood y =
        let v = (p.at-plan y).level in
        let whole : fs ≡ ks = all ∙ ap (λ (k : ℕ). take k ks) (spare-ways v z) ∙ take_all (length ks) ks (omega arith) in
        kept y (record { level = v; ways-full = e ∙ spare-ways v z ∙ sym v.ends-a; index = p.indexed y })
        (ap length whole ∙ sym v.ends-a) f
        (stands d (record { at-plan = p.at-plan y; binds = subst⁻¹ (λ (w : List ℕ). Binds (net_of n ks xs ys) w ws) whole (plan-binds n ks xs ys (p.at-plan y)) }))

-- and with it the table is indexed, so that channels can be looked for
pub primed-findable : {n : ℕ} {ks xs ys s ws ws₀ head head₀ next next₀ guide : List ℕ} {r : Bool} → Spare ks ws₀ head₀ next₀ → length ws₀ ≤ length guide → Primed n ks xs ys s ws head next r
    → FindableIf n ks xs ys head next guide r
primed-findable {n} {ks} {xs} {ys} {head₀ = head₀} {next₀ = next₀} z e p =
    record {
      tabled = λ y. record { table = (spare-index (p.at-plan y).level z {head' = head₀} {next' = next₀} refl refl).table; kinds-full = sym (p.at-plan y).level.ends-a; index = p.indexed y };
      row_room = λ y. omega (arith, e, spare-ways (p.at-plan y).level z, (p.at-plan y).level.ends-a);
    }
