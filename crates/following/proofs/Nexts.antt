-- The next plan of a setting, from where the setting was followed to.
-- Assumes nothing.
use Prim.Native.Nat.{ℕ, suc, ◌+◌, ◌<◌}
use native.Mathlib.Omega.{arith}
use native.Mathlib.Numerals.{add-one}
use mathlib.Core.Path.{◌≡◌, refl, sym, ap, subst, subst⁻¹, ◌∙◌}
use mathlib.Core.List.{List, []}
use Rattle.std.proofs.Common.{Option, true, false, not, is_some, is_none}
use lib.ListN.{length, get_or, set}
use mathlib.Mathlib.Data.Bool.Basic.{and_intro}
use Rattle.std.proofs.Common.{rules}
use Rattle.std.specs.Prelude.{Option, Some, IsSome}
use Rattle.network.specs.Networks.{Network, Accepted}
use Rattle.network.specs.Orientations.{ways}
use Rattle.network.specs.Plans.{strongly_connected_under, is_plan}
use Rattle.network.specs.Replies.{answer, next_answer}
use Rattle.lists.proofs.Bools.{clash}
use Rattle.network.proofs.Networks.{accepted}
use Rattle.network.proofs.Theorem.{plan-passable}
use Rattle.half_edges.specs.Ends.{arcs_of}
use Rattle.tables.specs.Rows.{net_of, ways_row}
use Rattle.tables.specs.Bytes.{bytes_of}
use Rattle.orientations.specs.Partials.{StronglyConnected, NotStronglyConnected, Binds, up_to}
use Rattle.orientations.proofs.Nexts.{oriented-none, none-stopped}
use Rattle.orientations.proofs.Parts.{all-tried, up_more, connected-lower}
use Rattle.orienting.specs.Ready.{ShutInBasin}
use Rattle.branching.specs.Follows.{Following, Followed, through, stopped}
use Rattle.branching.proofs.Follows.{under-length}
use Rattle.lists.proofs.Lists.{get_d_any}
use Rattle.seeking.specs.declared.Found.{Found}
use Rattle.seeking.specs.declared.Found.TheVariants.{Closed, Bridge, Oriented}
use Rattle.seeking.specs.Found.{FirstFound, found-closed, found-bridge, found-plan, NextFound, next-is}
use Rattle.seeking.specs.Seeks.{SomePlan, Partable, AtPlan, NextFrom}
use Rattle.following.specs.Nexts.{OtherThanPlan, Followable, AtSetting, NextAfter}
use Rattle.seeking.proofs.Levels.{passable-open, level-length, under-row, row_under, kinds-full, kinds-tried, kinds-bind}
use Rattle.seeking.proofs.Firsts.{under-basin}

-- Following the setting stopped at r: r cannot be oriented so.
record Stop (N : Network) (fs us ws : List ℕ) (r : ℕ) : Type 0 where
  pub below : r < length N.reaches
  pub is : ws ≡ up_to fs us r
  pub connected : StronglyConnected N (up_to fs us r)
  pub lost : NotStronglyConnected N (up_to fs us (suc r))

module _ (N : Network) where
  -- ---- a finding is one whatever is asked for

  pub finding-next : Accepted N → {ws seen us : List ℕ} {f : Found} (ws' : List ℕ) → (f ≡ Oriented → ⊥) → FirstFound N ws seen f → NextAfter N us ws' seen (Some f)
  unfolding next_answer answer
  finding-next ok ws' differ (found-closed n k) = record { found = λ s fit is. next-is {ws = ws'} {f = Closed} (rw n) k (omega arith) }
  finding-next ok ws' differ (found-bridge {r = r} p e l k) = record { found = λ s fit is. next-is {ws = ws'} {f = Bridge r} (rw (p, e)) k (omega (arith, (accepted N ok).few-reaches)) }
  finding-next ok ws' differ (found-plan p e m) = absurd (differ refl)

  pub plan-some : {ws seen : List ℕ} {f : Found} → f ≡ Oriented → FirstFound N ws seen f → SomePlan N
  plan-some {ws} {seen} {f} same d = go (subst (λ (x : Found). FirstFound N ws seen x) same d)
    where
      go : FirstFound N ws seen Oriented → SomePlan N
      go (found-plan p e m) = record { plan = bytes_of N.reaches ws; is-plan = m.is-plan }

  -- ---- following the setting

  -- with no gate oriented everything reaches everything, since there is a plan
  open-connected : SomePlan N → StronglyConnected N (ways N.reaches [])
  open-connected p = sym (passable-open N) ∙ plan-passable N p.plan p.is-plan

  -- it stops at a reach if it is no plan
  stops : {fs us ws : List ℕ} {r : ℕ} → Followed N fs us ws (Some r) → Stop N fs us ws r
  stops (stopped l e w q) = record { below = l; is = e; connected = subst (λ (v : List ℕ). StronglyConnected N v) e w; lost = q }

-- ---- said of rows

module _ (n : ℕ) (ks xs ys : List ℕ) where
  abbrev N : Network
  N = net_of n ks xs ys

  -- at another setting: with no gate oriented yet, it is followed up to where it stops
  module _ {us ws : List ℕ} (p : Followable n ks xs ys us ws) {ws₀ : List ℕ} (o : ws₀ ≡ ways_row ks []) where
    opened : ws₀ ≡ ways N.reaches []
    opened = under-row p.other.seeking.level [] o

    pub follow-start : Following n ks ks xs ys us ws₀ 0
    follow-start =
        let k = p.other.seeking in
        record {
          kinds-full = sym k.level.ends-a;
          accepted = k.level.accepted;
          tries = all-tried N ks (kinds-full k.level) (kinds-tried k.level);
          under = k.under;
          bound = omega arith;
          begun = opened ∙ sym (subst⁻¹ (λ (v : List ℕ). up_to ks v 0 ≡ ways N.reaches []) k.under.is (oriented-none N k.under.setting ks (all-tried N ks (kinds-full k.level) (kinds-tried k.level)) (kinds-tried k.level)));
        }

    pub follow-connected : StronglyConnected N ws₀
    follow-connected = subst⁻¹ (λ (v : List ℕ). StronglyConnected N v) opened (open-connected N p.some-plan)

    pub follow-length : length us ≡ length xs
    follow-length = let v = p.other.seeking.level in under-length n ks xs ys v.ends-a v.ends-b us p.other.seeking.under ∙ sym v.ends-a

    -- since it is no plan, it stops
    pub follow-stops : {ws₁ : List ℕ} {r : Option ℕ} → Followed N ks us ws₁ r → IsSome r
    follow-stops (through e w) = clash w p.other.lost
    follow-stops {ws₁} (stopped {r = x} l e w q) = search rules

    module _ {ws₁ : List ℕ} {q : Option ℕ} {r : ℕ} (f : Followed N ks us ws₁ q) (e : q ≡ Some r) where
      stop : Stop N ks us ws₁ r
      stop = stops N (subst (λ (v : Option ℕ). Followed N ks us ws₁ v) e f)

      pub follow-below : r < length xs
      follow-below = omega (arith, stop.below, level-length p.other.seeking.level)

      -- with the way of the setting where it stopped
      pub follow-partable : Partable n ks ks xs ys us (set ws₁ r (get_or us r 0)) (r + 1)
      follow-partable =
          let u = p.other.seeking.under in
          rw add-one
          record {
            seeking = p.other.seeking;
            binds = kinds-bind p.other.seeking.level u;
            some-plan = p.some-plan;
            bound = follow-below;
            begun = ap (λ (v : List ℕ). set v r (get_or us r 0)) stop.is ∙ up_more N u.setting us u.is ks (kinds-bind p.other.seeking.level u).tries r (get_or us r 0) stop.below (get_d_any us r 3 0 (omega (arith, follow-length, follow-below)));
            connected-below = λ j l. connected-lower N u.setting us u.is ks (kinds-bind p.other.seeking.level u).tries r j stop.connected (omega arith) (omega (arith, stop.below));
          }

      pub follow-found : {ws' seen : List ℕ} {p' : Option Found} → NextFrom N us (r + 1) ws' seen p' → NextAfter N us ws' seen p'
      follow-found d =
          record {
            found = λ s fit is.
                d.found s fit is
                (rw add-one (none-stopped N s fit ks (subst (λ (v : List ℕ). Binds N ks v) is (kinds-bind p.other.seeking.level p.other.seeking.under)) r stop.below (subst (λ (v : List ℕ). NotStronglyConnected N (up_to ks v (suc r))) is stop.lost)));
          }

  -- a first plan was found
  pub other-followable : {us ws ws₁ ws' seen' : List ℕ} {f : Found} → OtherThanPlan n ks xs ys us ws → length ws' ≡ length ws → f ≡ Oriented → FirstFound N ws₁ seen' f → Followable n ks xs ys us ws'
  other-followable p e same d = record { other = record { seeking = p.seeking; ways-room = e ∙ p.ways-room; lost = p.lost }; some-plan = plan-some N same d }

  pub setting-room : {s us ws : List ℕ} → AtSetting n ks xs ys s us ws → length us ≡ length ws
  setting-room {s} {us} p =
      let v = p.level in
      under-length n ks xs ys v.ends-a v.ends-b us (row_under v s p.fits p.oriented) ∙ sym p.ways-room

  -- the setting is a plan if with its ways all wet basins reach all
  module _ {s us ws : List ℕ} {r : Option ℕ} (p : AtSetting n ks xs ys s us ws) (w : ShutInBasin N (arcs_of xs ys us) r) where
    strongly_connected : is_none r ≡ strongly_connected_under N s
    strongly_connected = under-basin p.level s p.oriented w

    pub seek-plan : is_some r ≡ false → AtPlan n ks xs ys s us
    unfolding is_plan
    seek-plan same = record { level = p.level; is-plan = and_intro p.fits (sym strongly_connected ∙ ap not same); oriented = p.oriented }

    pub seek-other : is_some r ≡ true → OtherThanPlan n ks xs ys us ws
    unfolding strongly_connected_under
    seek-other differ =
        record {
          seeking = record { level = p.level; under = row_under p.level s p.fits p.oriented };
          ways-room = p.ways-room;
          lost = subst⁻¹ (λ (v : List ℕ). NotStronglyConnected N v) (under-row p.level s p.oriented) (sym strongly_connected ∙ ap not differ);
        }

    pub seek_found : {ws' seen' : List ℕ} {q : Option Found} → NextAfter N us ws' seen' q → NextFound N s ws' seen' q
    seek_found d = d.found s p.fits (under-row p.level s p.oriented)
