-- Document 02, item 1: "Plans and findings are those of the reaches in service", and a shut reach put back in service is the reach that it was.
-- Assumes nothing.
use Prim.Native.Nat.{ℕ, suc, ◌<◌}
use native.Mathlib.Nat.{eq-or-lt_of_le}
use native.Mathlib.Omega.{arith}
use native.Mathlib.Decide.{dec_lt}
use mathlib.Core.Path.{◌≡◌, refl, sym, ap, ap₂, ◌∙◌, fun_ext}
use mathlib.Core.Bool.{Bool, true, false, cond, not, ◌&&◌, false≢true}
use mathlib.Core.Logic.{⊎_elim, ◌≢◌}
use mathlib.Core.Option
use mathlib.Core.Option.{Option, none, some, map}
use mathlib.Core.List.{List, [], ◌∷◌, ◌++◌}
use lib.ListN.{length, get_or, replicate}
use lib.Seq.{set-get_or, set-set, get_or-set_same}
use borrow.Author.Tests.{leb-true, le-leb}
use Rattle.network.specs.declared.State.{State}
use Rattle.network.specs.declared.State.TheVariants.{InService, Shut}
use Rattle.network.specs.declared.Reach.{Reach}
use Rattle.network.specs.declared.Refusal.{Refusal}
use Rattle.lists.specs.Lists.{range, some?, find, elem}
use Rattle.network.specs.Networks.{Network, in_service, kind_in, max_reaches, ends_at, is_wet, basins_of, good_length, good_ends, Accepted}
use Rattle.network.specs.Settings.{is_gated, gates_from, gate_count, is_setting, setting_fault}
use Rattle.network.specs.Orientations.{Arc, way, after, ways, passing, arcs, arcs_under, unoriented}
use Rattle.network.specs.Plans.{strongly_connected, strongly_connected_under, is_plan, passable, first_plan, next_plan}
use Rattle.network.specs.Bridges.{sides, is_cut, crosses_by, no_reach, reach_at, crosses_alone, is_bridge, lowest_bridge}
use Rattle.network.specs.Replies.{Outcome, shut_in_basin, shut_in_side, bridge_side, shut_in_finding, lone_finding, chosen, or_lone, answer, first_answer, next_answer, unless, room_fault, first_reply, next_reply}
use Rattle.network.specs.Choices.{plans, bound_bytes}
use Rattle.network.specs.Services.{shut_reach, back_reach, shut_at, back_at, service_reaches, service_net, service_number, renumbered}
use Rattle.lists.proofs.Bools.{decide, clash, same_test}
use Rattle.lists.proofs.Lists.{length-cond}
use Rattle.lists.proofs.Searches.{some-keep, every-make, every-at, find-is, find_first, find-lowest, keep-in, length-keep, KeptFrom, kept_at, kept-below, kept-rises, kept_from}
use Rattle.lists.proofs.Ranges.{range-in}
use Rattle.network.proofs.Ways.{plain_here, plain-after, shut-way, shut-plain, gated-in-service}
use Rattle.network.proofs.Networks.{ends_below, fault-none, tests-passed, same-basins}
use Rattle.network.specs.Certificates.{Alone}
use Rattle.network.proofs.Bridges.{uncrossed, alone-facts, alone-test, bridge-below, bridge-gated}
use Rattle.network.proofs.Order.{same_first, same_next}
use Rattle.network.proofs.Replies.{lowest-is-bridge, no-lowest}
use Rattle.network.proofs.Choices.{same-plans, same-bound}

-- ---- a reach put back in service is the reach that it was

back-state : (d : State) → in_service d ≡ true → InService (kind_in d) ≡ d
back-state (InService k) e = refl
back-state (Shut k) e = absurd (false≢true e)

pub back-again : (r : Reach) → in_service r.state ≡ true → back_reach (shut_reach r) ≡ r
back-again r e = rw (back-state r.state e)

pub back-at-again : (N : Network) (i : ℕ) → i < length N.reaches → in_service (reach_at N i).state ≡ true → back_at (shut_at N i) i ≡ N
back-at-again N i l e = rw (get_or-set_same N.reaches i (shut_reach (reach_at N i)) no_reach l, set-set, back-again (reach_at N i) e, set-get_or)

-- ---- gates, arcs and plans

-- a shut reach is no gate
gates-service : (o o' : ℕ) (t : List Reach) → length (gates_from o (service_reaches t)) ≡ length (gates_from o' t)
gates-service o o' [] = refl
gates-service o o' (r ∷ t) =
    ⊎_elim
    (λ e. rw e (length-cond (is_gated r.state) o _ (gates-service (suc o) (suc o') t) ∙ sym (length-cond (is_gated r.state) o' (gates_from (suc o') t) refl)))
    (λ e. rw (shut-plain r.state e, e) (gates-service o (suc o') t))
    (decide (in_service r.state))

-- a shut reach passes nothing, and takes no byte
arcs-service : (t : List Reach) (h : List ℕ) → arcs (service_reaches t) (ways (service_reaches t) h) ≡ arcs t (ways t h)
arcs-service [] h = refl
arcs-service (r ∷ t) h =
    ⊎_elim
    (λ e. rw e (ap (λ (A : List Arc). passing (way r.state h) r.a r.b ++ A) (arcs-service t (after r.state h))))
    (λ e. let plain = shut-plain r.state e in rw (e, plain_here r.state h plain, shut-way r.state e, plain-after r.state h plain) (arcs-service t h))
    (decide (in_service r.state))

-- a shut reach keeps no basin wet
shut-dry : (b : ℕ) (r : Reach) → in_service r.state ≡ false → ends_at b r ≡ false
shut-dry b r e = rw e

wet-service : (N : Network) (b : ℕ) → is_wet (service_net N) b ≡ is_wet N b
unfolding is_wet
wet-service N b = some-keep (λ r. in_service r.state) (ends_at b) N.reaches (shut-dry b)

module _ (N : Network) where
  pub service-basins : basins_of (service_net N) ≡ basins_of N
  service-basins = same-basins (service_net N) N refl (wet-service N)

  pub service-gates : gate_count (service_net N) ≡ gate_count N
  service-gates = gates-service 0 0 N.reaches

  pub service-setting : (s : List ℕ) → is_setting (service_net N) s ≡ is_setting N s
  unfolding is_setting
  service-setting s = rw service-gates

  service-room : (plan_length marks_length : ℕ) → room_fault (service_net N) plan_length marks_length ≡ room_fault N plan_length marks_length
  unfolding room_fault
  service-room plan_length marks_length = rw service-gates

  pub service-arcs : (h : List ℕ) → arcs_under (service_net N) h ≡ arcs_under N h
  service-arcs h = arcs-service N.reaches h

  -- the same with every gate usable either way
  service-unoriented : arcs_under (service_net N) (unoriented (service_net N)) ≡ arcs_under N (unoriented N)
  service-unoriented = ap (λ (g : ℕ). arcs_under (service_net N) (replicate g 2)) service-gates ∙ service-arcs (unoriented N)

  pub service-plan : (s : List ℕ) → is_plan (service_net N) s ≡ is_plan N s
  unfolding is_plan strongly_connected_under
  service-plan s = rw (service-setting s, service-arcs s, service-basins)

  pub service-passable : passable (service_net N) ≡ passable N
  unfolding passable strongly_connected_under
  service-passable = ap₂ strongly_connected service-basins service-unoriented

  pub service-first : first_plan (service_net N) ≡ first_plan N
  service-first = same_first (service_net N) N service-gates service-plan

  pub service-next : (s : List ℕ) → next_plan (service_net N) s ≡ next_plan N s
  service-next = same_next (service_net N) N service-gates service-plan

  -- the same plans, and so the same bound gates
  pub service-plans : plans (service_net N) ≡ plans N
  service-plans = same-plans (service_net N) N service-gates service-plan

  pub service-bound : bound_bytes (service_net N) ≡ bound_bytes N
  service-bound = same-bound (service_net N) N service-gates service-plans

  pub service-shut-in : shut_in_finding (service_net N) ≡ shut_in_finding N
  unfolding shut_in_finding shut_in_side shut_in_basin
  service-shut-in = rw (service-unoriented, service-basins)

-- ---- new numbers

-- the reach is in service
abbrev serving : Reach → Bool
serving r = in_service r.state

module _ (N : Network) (i : ℕ) (l : i < length N.reaches) (serves : in_service (reach_at N i).state ≡ true) where
  -- the reach stands at its new number
  pub service-number : reach_at (service_net N) (service_number N i) ≡ reach_at N i
  service-number = kept_at serving N.reaches i no_reach l serves

  number-below : service_number N i < length (service_net N).reaches
  number-below = kept-below serving N.reaches i no_reach l serves

  -- the new numbers are in the order of the old
  number-rises : (j : ℕ) → i < j → service_number N i < service_number N j
  number-rises j = kept-rises serving N.reaches i j no_reach l serves

  number-order : (j : ℕ) → service_number N j < service_number N i → j < i
  number-order j less =
      elim (dec_lt j i) [
        | yes lower ↦ lower
        | no n ↦ absurd (⊎_elim (λ same. omega (arith, ap (service_number N) same)) (λ more. omega (arith, number-rises j more)) (eq-or-lt_of_le {n = i} {m = j} (omega arith)))
      ]

-- two reaches in service have two new numbers
number-apart : (N : Network) (i j : ℕ) → i < length N.reaches → in_service (reach_at N i).state ≡ true → j < length N.reaches → in_service (reach_at N j).state ≡ true → i ≢ j → service_number N i ≢ service_number N j
number-apart N i j il ei jl ej n same =
    elim (dec_lt i j) [
      | yes less ↦ omega (arith, number-rises N i il ei j less)
      | no more ↦ omega (arith, number-rises N j jl ej i (omega arith))
    ]

-- every new number is that of a reach in service
old-number : (N : Network) (k : ℕ) → k < length (service_net N).reaches → KeptFrom serving N.reaches no_reach k
old-number N k l = kept_from serving N.reaches no_reach k l

-- ---- lone reaches

module _ (N : Network) (i : ℕ) (l : i < length N.reaches) (serves : in_service (reach_at N i).state ≡ true) where
  -- the only reach of all that crosses a side is the only one of those in service, and the other way round: a shut reach crosses none
  alone-new : (S : ℕ → Bool) → Alone N S i → Alone (service_net N) S (service_number N i)
  alone-new S f = record { crossing = rw (service-number N i l serves) f.crossing; others = others }
    where
      others : (k : ℕ) → k < length (service_net N).reaches → k ≢ service_number N i → crosses_by S (reach_at (service_net N) k) ≡ false
      others k kl n =
          let o = old-number N k kl in
          rw (← o.place, service-number N o.from o.below o.passes)
          (f.others o.from o.below (λ same. n (sym o.place ∙ ap (service_number N) same)))

  alone-old : (S : ℕ → Bool) → Alone (service_net N) S (service_number N i) → Alone N S i
  alone-old S f = record { crossing = rw (← service-number N i l serves) f.crossing; others = others }
    where
      others : (j : ℕ) → j < length N.reaches → j ≢ i → crosses_by S (reach_at N j) ≡ false
      others j jl n =
          ⊎_elim
          (λ e. rw (← service-number N j jl e) (f.others (service_number N j) (number-below N j jl e) (number-apart N j i jl e l serves n)))
          (λ e. uncrossed S (reach_at N j) (λ y. clash y e))
          (decide (in_service (reach_at N j).state))

  service-alone : (S : List ℕ) → crosses_alone (service_net N) S (service_number N i) ≡ crosses_alone N S i
  service-alone S =
      same_test (crosses_alone (service_net N) S (service_number N i)) (crosses_alone N S i)
      (λ e. alone-test N S i (alone-old (λ b. elem b S) (alone-facts (service_net N) S (service_number N i) (number-below N i l serves) e)))
      (λ e. alone-test (service_net N) S (service_number N i) (alone-new (λ b. elem b S) (alone-facts N S i l e)))

  pub service-bridge : is_bridge (service_net N) (service_number N i) ≡ is_bridge N i
  unfolding is_bridge
  service-bridge =
      ap₂ (λ (r : Reach) (alone : List ℕ → Bool). is_gated r.state && some? (λ S. is_cut (basins_of (service_net N)) S && alone S) (sides (basins_of (service_net N))))
      (service-number N i l serves) (fun_ext service-alone)
      ∙ ap (λ (bs : List ℕ). is_gated (reach_at N i).state && some? (λ S. is_cut bs S && crosses_alone N S i) (sides bs)) (service-basins N)

  pub service-side : bridge_side (service_net N) (service_number N i) ≡ bridge_side N i
  unfolding bridge_side
  service-side =
      ap₂ (λ (bs : List ℕ) (alone : List ℕ → Bool). Option.get_or (find (λ S. not (elem (get_or bs 0 0) S) && (is_cut bs S && alone S)) (sides bs)) [])
      (service-basins N) (fun_ext service-alone)

-- a lone reach is in service
bridge-in-service : (N : Network) (i : ℕ) → is_bridge N i ≡ true → in_service (reach_at N i).state ≡ true
bridge-in-service N i e = gated-in-service (reach_at N i).state (bridge-gated N i e)

-- the lowest lone reach is the same reach, at its new number
pub service-lowest : (N : Network) → lowest_bridge (service_net N) ≡ map (service_number N) (lowest_bridge N)
unfolding lowest_bridge
service-lowest N = go (lowest_bridge N) refl
  where
    count : ℕ
    count = length (service_net N).reaches

    old : (k : ℕ) (o : KeptFrom serving N.reaches no_reach k) → is_bridge (service_net N) k ≡ is_bridge N o.from
    old k o = rw (← o.place) (service-bridge N o.from o.below o.passes)

    go : (o : Option ℕ) → lowest_bridge N ≡ o → lowest_bridge (service_net N) ≡ map (service_number N) o
    go none e =
        find-is (is_bridge (service_net N)) (range 0 count)
        (λ k m. let o = old-number N k (omega (arith, (range-in 0 count m).1)) in old k o ∙ no-lowest N e o.from)
    go (some i) e =
        let lone = lowest-is-bridge N e in
        let l = bridge-below N i lone in
        let serves = bridge-in-service N i lone in
        let below = number-below N i l serves in
        find-lowest (is_bridge (service_net N)) 0 count (service_number N i) (omega arith) (omega arith) (service-bridge N i l serves ∙ lone)
        (λ k z less.
        let o = old-number N k (omega arith) in
        old k o ∙ find_first (is_bridge N) 0 (length N.reaches) e o.from (omega arith) (number-order N i l serves o.from (rw o.place less)))

-- ---- replies

-- not the other way round: the limit on reaches and the test of ends ask shut reaches too
pub service-accepted : (N : Network) → Accepted N → Accepted (service_net N)
service-accepted N ok =
    let good = tests-passed N ok in
    let few : good_length (service_net N) ≡ true =
    le-leb (length (service_reaches N.reaches)) max_reaches (omega (arith, leb-true (length N.reaches) max_reaches good.1, length-keep serving N.reaches)) in
    let ends : good_ends (service_net N) ≡ true =
    every-make (ends_below N.basins) (service_reaches N.reaches) (λ r m. every-at (ends_below N.basins) good.2 (keep-in serving N.reaches m).0) in
    fault-none (service_net N) good.0 few ends

-- only a lone reach is renumbered
chosen-kept : (N : Network) (p : Option (List ℕ)) → chosen p ≡ renumbered N (chosen p)
chosen-kept N (some s) = refl
chosen-kept N none = refl

shut-in-kept : (N : Network) → shut_in_finding N ≡ renumbered N (shut_in_finding N)
unfolding shut_in_finding
shut-in-kept N = refl

unless-kept : (N : Network) (f : Option Refusal) (o : Outcome) → unless f (renumbered N o) ≡ renumbered N (unless f o)
unless-kept N (some r) o = refl
unless-kept N none o = refl

service-lone : (N : Network) (i : ℕ) → is_bridge N i ≡ true → lone_finding (service_net N) (service_number N i) ≡ renumbered N (lone_finding N i)
unfolding lone_finding
service-lone N i e = rw (service-side N i (bridge-below N i e) (bridge-in-service N i e))

pub service-answer : (N : Network) (p : Option (List ℕ)) → answer (service_net N) p ≡ renumbered N (answer N p)
unfolding answer
service-answer N p = rw (service-passable N, service-lowest N) (go (passable N) (lowest_bridge N) refl)
  where
    go : (b : Bool) (o : Option ℕ) → lowest_bridge N ≡ o → cond b (or_lone (service_net N) (map (service_number N) o) p) (shut_in_finding (service_net N)) ≡ renumbered N (cond b (or_lone N o p) (shut_in_finding N))
    go false o e = service-shut-in N ∙ shut-in-kept N
    go true none e = chosen-kept N p
    go true (some i) e = service-lone N i (lowest-is-bridge N e)

module _ (N : Network) (ok : Accepted N) where
  pub service-first-reply : (plan_length marks_length : ℕ) → first_reply (service_net N) plan_length marks_length ≡ renumbered N (first_reply N plan_length marks_length)
  unfolding first_reply first_answer
  service-first-reply plan_length marks_length =
      rw (service-accepted N ok, ok, service-room N plan_length marks_length, service-first N, service-answer N) (unless-kept N (room_fault N plan_length marks_length) _)

  pub service-next-reply : (s : List ℕ) (plan_length marks_length : ℕ) → next_reply (service_net N) s plan_length marks_length ≡ renumbered N (next_reply N s plan_length marks_length)
  unfolding next_reply next_answer setting_fault
  service-next-reply s plan_length marks_length =
      rw (service-accepted N ok, ok, service-setting N s, service-room N plan_length marks_length, service-next N s, service-answer N, unless-kept N) (unless-kept N (setting_fault N s) _)
