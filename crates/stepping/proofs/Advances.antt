-- From what a step finds to the next plan of a plan.
-- Assumes nothing.
use Prim.Native.Nat.{ℕ, ◌≤◌, ◌<◌}
use native.Mathlib.Omega.{arith}
use mathlib.Core.Path.{◌≡◌, sym, ap, subst, subst⁻¹, ◌∙◌}
use mathlib.Core.Bool.{true}
use mathlib.Core.Logic.{⊎_elim}
use mathlib.Core.List.{List}
use lib.ListN.{length, get_or, set}
use lib.Seq.{get_or-set_other}
use Rattle.std.specs.Prelude.{Option, None, Some}
use Rattle.network.specs.Networks.{Network}
use Rattle.network.specs.Tables.{state_of}
use Rattle.network.specs.Settings.{is_gated, is_setting}
use Rattle.network.specs.Orientations.{ways}
use Rattle.network.specs.Plans.{is_plan}
use Rattle.network.specs.Bridges.{reach_at}
use Rattle.network.specs.Replies.{plan}
use Rattle.lists.proofs.Bools.{decide}
use Rattle.network.proofs.Order.{setting-length, plan-setting}
use Rattle.tables.specs.Rows.{net_of, gates_in, ways_row, bytes_row}
use Rattle.tables.specs.Bytes.{bytes_of}
use Rattle.tables.proofs.Laws.{row-length, row-bytes, row-ways, row-gates, row-state}
use Rattle.orientations.specs.Least.{Fits}
use Rattle.orientations.specs.Partials.{Tries, Binds, up_to}
use Rattle.orientations.proofs.Least.{same-plain, has-decided, fits-at}
use Rattle.orientations.proofs.Nexts.{gate-byte, oriented-length, oriented-below}
use Rattle.completing.specs.Greedy.{Completed}
use Rattle.seeking.specs.Levels.{Level}
use Rattle.seeking.specs.Seeks.{StepTaken, stepped-at, AtPlan}
use Rattle.seeking.proofs.Seeks.{plan-next, plan-last}
use Rattle.stepping.specs.Advances.{PartsAt, Advanced, moved, at_last}
use Rattle.stepping.proofs.Rewrites.{front_same, gate-row}

module _ (n : ℕ) (ks xs ys : List ℕ) (v : Level n ks xs ys) where
  abbrev N : Network
  N = net_of n ks xs ys

  -- the bytes of ways, over the network and over its row of kinds
  bytes : (ws : List ℕ) → bytes_of N.reaches ws ≡ bytes_row ks ws
  bytes = row-bytes ks xs ys v.ends-a v.ends-b

  -- the number of reaches, and the way of a reach under a setting
  many : length N.reaches ≡ length ks
  many = row-length ks xs ys v.ends-a v.ends-b

  way_at : (h : List ℕ) (j : ℕ) → get_or (ways N.reaches h) j 3 ≡ get_or (ways_row ks h) j 3
  way_at h j = ap (λ (ws : List ℕ). get_or ws j 3) (row-ways ks xs ys v.ends-a v.ends-b h)

  -- a setting that fits the ways of s before the gate r, and r turned, parts from s there
  module _ (s q : List ℕ) (r : ℕ) (fit : is_setting N s ≡ true) (fit' : is_setting N q ≡ true) (l : r < length N.reaches) (g : is_gated (reach_at N r).state ≡ true) (z : get_or (ways N.reaches s) r 3 ≡ 0)
      (fs : List ℕ) (tries : Tries N fs) (f : Fits N q (set (up_to fs (ways N.reaches s) r) r 1)) where
    abbrev held : List ℕ
    held = up_to fs (ways N.reaches s) r

    before-r : (j : ℕ) → j < r → get_or (set held r 1) j 3 ≡ get_or (ways N.reaches s) j 3
    before-r j k = get_or-set_other held r j 1 3 (omega arith) ∙ oriented-below N s fs tries r j (omega arith) k

    alike : (j : ℕ) → j < r → get_or (ways N.reaches q) j 3 ≡ get_or (ways N.reaches s) j 3
    alike j k =
        ⊎_elim
        (λ y. has-decided N q (set held r 1) j (omega arith) (subst⁻¹ (λ (x : ℕ). x ≤ 1) (before-r j k) (gate-byte N s fit j (omega arith) y)) f ∙ before-r j k)
        (λ y. same-plain N q s j (omega arith) y)
        (decide (is_gated (reach_at N j).state))

    turns : get_or (ways N.reaches q) r 3 ≡ 1
    turns = fits-at N q held r 1 (omega (arith, oriented-length N s fs tries r (omega arith))) l (omega arith) f

    in_row : r < length ks
    in_row = omega (arith, many)

    gated : is_gated (state_of (get_or ks r 0)) ≡ true
    gated = ap is_gated (sym (row-state ks xs ys v.ends-a v.ends-b r in_row)) ∙ g

    gates-are : (h : List ℕ) → is_setting N h ≡ true → length h ≡ gates_in ks
    gates-are h e = setting-length N h e ∙ row-gates ks xs ys v.ends-a v.ends-b 0

    parts : PartsAt ks s q r
    parts =
        record {
          below = in_row;
          gate = gated;
          same = front_same ks q s r (gates-are q fit') (gates-are s fit) (omega (arith, in_row)) (λ j k. sym (way_at q j) ∙ alike j k ∙ way_at s j);
          drawn = sym (gate-row ks s r in_row gated) ∙ sym (way_at s r) ∙ z;
          turned = sym (gate-row ks q r in_row gated) ∙ sym (way_at q r) ∙ turns;
        }

  -- so it is with the next plan
  parted : {s us ws fs : List ℕ} {r : ℕ} → AtPlan n ks xs ys s us → Tries N fs → r < length N.reaches → is_gated (reach_at N r).state ≡ true → get_or us r 3 ≡ 0 → Completed N (set (up_to fs us r) r 1) ws → PartsAt ks s (bytes_row ks ws) r
  parted {s} {us} {ws} {fs} {r} p t l g z c =
      let is : us ≡ ways N.reaches s = p.oriented ∙ sym (row-ways ks xs ys v.ends-a v.ends-b s) in
      let fits : Fits N (bytes_row ks ws) (set (up_to fs (ways N.reaches s) r) r 1) =
      subst (λ (h : List ℕ). Fits N h (set (up_to fs (ways N.reaches s) r) r 1)) (bytes ws)
      (subst (λ (u : List ℕ). Fits N (bytes_of N.reaches ws) (set (up_to fs u r) r 1)) is c.least.fits) in
      parts s (bytes_row ks ws) r (plan-setting N s p.is-plan) (subst (λ (h : List ℕ). is_setting N h ≡ true) (bytes ws) (plan-setting N (bytes_of N.reaches ws) c.least.is-plan))
      l g (ap (λ (u : List ℕ). get_or u r 3) (sym is) ∙ z) fs t fits

  -- what a step from a plan came to
  pub advanced : {s us ws₀ ws fs : List ℕ} {r : Option ℕ} → AtPlan n ks xs ys s us → ws₀ ≡ ways_row ks s → Binds N fs us → StepTaken N fs us (length xs) ws r → Advanced N ks s ws r
  advanced {s} {us} {ws} {fs} {r = None} p e t d = at_last (plan-last n ks xs ys p e t d)
  advanced {s} {us} {ws₀} {ws} {fs} {r = Some x} p e t d = go d
    where
      go : StepTaken N fs us (length xs) ws (Some x) → Advanced N ks s ws (Some x)
      go (stepped-at l g z f c) =
          let below : x < length N.reaches = omega (arith, many, v.ends-a) in
          moved (parted p t.tries below g z c) (plan-next n ks xs ys p e t d ∙ ap plan (bytes ws)) (subst (λ p. is_plan N p ≡ true) (bytes ws) c.least.is-plan)
          (c.oriented ∙ ap (ways N.reaches) (bytes ws) ∙ row-ways ks xs ys v.ends-a v.ends-b (bytes_row ks ws))
