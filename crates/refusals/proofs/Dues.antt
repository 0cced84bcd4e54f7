-- What is due by each test: 8 by the setting, 7 by the buffers, and the first of two.
-- Assumes nothing.
use Rattle.std.specs.Prelude.{Result, Ok, Err}
use Rattle.std.specs.Result.{result_and}
use Prim.Native.Nat.{ℕ, ◌≤◌, ◌<◌}
use mathlib.Core.Path.{◌≡◌, refl, ap, ◌∙◌}
use mathlib.Core.Bool.{Bool, true, false, cond, ◌&&◌}
use mathlib.Core.Option.{Option, none, some, some-ne-none}
use mathlib.Core.List.{List}
use lib.Dec.{leb}
use borrow.Author.Tests.{le-leb, lt-leb, leb-true}
use Rattle.network.specs.declared.Refusal.{Refusal}
use Rattle.network.specs.declared.Refusal.TheVariants.{ShortBuffer, BadSetting}
use Rattle.network.specs.Networks.{Network, table_fault, Accepted}
use Rattle.network.specs.Settings.{gate_count, is_setting, setting_fault}
use Rattle.network.specs.Marks.{mark_bytes}
use Rattle.network.specs.Replies.{first_of, check_fault, room_fault}
use Rattle.network.proofs.Replies.{first-of-none}
use Rattle.tables.specs.Rows.{net_of}
use Rattle.tables.specs.Answers.{table_answer}

-- ---- the first of two

pub refused-due : (f g : Option Refusal) {r : Refusal} {x : Result (Unit {0}) Refusal} → x ≡ table_answer f → x ≡ Err r → Err r ≡ table_answer (first_of f g)
refused-due none g p e = cc
refused-due (some q) g p e = cc

pub second-due : (f g : Option Refusal) {x y : Result (Unit {0}) Refusal} → x ≡ table_answer f → x ≡ Ok tt → y ≡ table_answer g → y ≡ table_answer (first_of f g)
second-due none g p e q = q
second-due (some r) g p e q = cc

and-first : (f g : Option Refusal) → result_and (table_answer f) (table_answer g) ≡ table_answer (first_of f g)
and-first none g = refl
and-first (some r) g = refl

pub first-due : (f g : Option Refusal) {x y z : Result (Unit {0}) Refusal} → x ≡ table_answer f → y ≡ table_answer g → z ≡ result_and x y → z ≡ table_answer (first_of f g)
first-due f g {y = y} p q e = e ∙ ap (λ (u : Result (Unit {0}) Refusal). result_and u y) p ∙ ap (λ (u : Result (Unit {0}) Refusal). result_and (table_answer f) u) q ∙ and-first f g

-- ---- 8, by the setting

pub setting-due : (N : Network) (s : List ℕ) (b : Bool) → is_setting N s ≡ b → setting_fault N s ≡ cond b none (some BadSetting)
unfolding setting_fault
setting-due N s b e = rw e

setting-fits : (N : Network) (s : List ℕ) → setting_fault N s ≡ none → is_setting N s ≡ true
unfolding setting_fault
setting-fits N s e = go (is_setting N s) refl e
  where
    go : (b : Bool) → is_setting N s ≡ b → cond b none (some BadSetting) ≡ none → is_setting N s ≡ true
    go true f e = f
    go false f e = absurd (some-ne-none BadSetting e)

-- what the check of a setting does not refuse is a setting of an accepted table
pub unrefused-fits : (N : Network) (s : List ℕ) → check_fault N s ≡ none → Accepted N × (is_setting N s ≡ true)
unfolding check_fault
unrefused-fits N s e = let d = first-of-none (table_fault N) (setting_fault N s) e in (d.0, setting-fits N s d.1)

-- the basin count does not enter
pub setting-any : (n : ℕ) (ks xs ys s : List ℕ) → setting_fault (net_of 0 ks xs ys) s ≡ setting_fault (net_of n ks xs ys) s
unfolding setting_fault is_setting
setting-any n ks xs ys s = refl

-- ---- 7, by the lengths of the buffers

module _ (N : Network) (plan_length marks_length : ℕ) where
  pub plan-short : plan_length < gate_count N → room_fault N plan_length marks_length ≡ some ShortBuffer
  unfolding room_fault
  plan-short l = rw (lt-leb (gate_count N) plan_length l)

  pub marks-short : gate_count N ≤ plan_length → marks_length < mark_bytes → room_fault N plan_length marks_length ≡ some ShortBuffer
  unfolding room_fault
  marks-short k l = rw (le-leb (gate_count N) plan_length k, lt-leb mark_bytes marks_length l)

  pub long-enough : gate_count N ≤ plan_length → mark_bytes ≤ marks_length → room_fault N plan_length marks_length ≡ none
  unfolding room_fault
  long-enough k l = rw (le-leb (gate_count N) plan_length k, le-leb mark_bytes marks_length l)

  pub room-left : room_fault N plan_length marks_length ≡ none → (gate_count N ≤ plan_length) × (mark_bytes ≤ marks_length)
  unfolding room_fault
  room-left e = go (leb (gate_count N) plan_length) refl (leb mark_bytes marks_length) refl e
    where
      go : (p : Bool) → leb (gate_count N) plan_length ≡ p → (q : Bool) → leb mark_bytes marks_length ≡ q → cond (p && q) none (some ShortBuffer) ≡ none → (gate_count N ≤ plan_length) × (mark_bytes ≤ marks_length)
      go true f true g e = (leb-true (gate_count N) plan_length f, leb-true mark_bytes marks_length g)
      go true f false g e = absurd (some-ne-none ShortBuffer e)
      go false f true g e = absurd (some-ne-none ShortBuffer e)
      go false f false g e = absurd (some-ne-none ShortBuffer e)

pub room-any : (n : ℕ) (ks xs ys : List ℕ) (p q : ℕ) → room_fault (net_of 0 ks xs ys) p q ≡ room_fault (net_of n ks xs ys) p q
unfolding room_fault
room-any n ks xs ys p q = refl
