-- From line to line: what is to be printed stays the same.
-- Assumes nothing.
use Prim.Native.Nat.{ℕ, ◌-◌, ◌≤◌, ◌<◌}
use native.Mathlib.Omega.{arith}
use mathlib.Core.Path.{◌≡◌, refl, sym, ap, ◌∙◌}
use mathlib.Core.List.{List, [], ◌∷◌, ◌++◌, append-nil}
use lib.ListN.{length, drop, length-append, length-drop, length-map}
use lib.Seq.{length-take-le}
use Rattle.lists.proofs.Lists.{nil-of-length}
use Rattle.network.specs.Networks.{Network, max_reaches}
use Rattle.lines.specs.declared.Due.{Due}
use Rattle.lines.specs.declared.Due.TheVariants as D
use Rattle.listing_state.specs.declared.Lister.{Lister}
use Rattle.lines.specs.Listings.{line, plan_text, refused_text, character}
use Rattle.listing_state.specs.Pending.{line_of, lines_after, plan_in_hand, rest_of, pending_of}
use Rattle.tables.specs.Rows.{gates_held}
use Rattle.listing_state.specs.Parts.{LineAfter, plan_length, Turned}

-- the length of a plan's line
plan-size : (s : List ℕ) → length (line (plan_text s)) ≡ plan_length (length s)
plan-size [] = refl
plan-size (x ∷ s) = omega (arith, length-append (plan_text (x ∷ s)) (10 ∷ []), length-map s character)

-- no line is empty
line-some : (text : List ℕ) → 0 < length (line text)
line-some text = omega (arith, length-append text (10 ∷ []))

due-some : (d : Due) (s : List ℕ) → 0 < length (line_of d s)
due-some (D.Plan left) s = line-some (plan_text s)
due-some D.More s = omega arith
due-some D.End s = omega arith
due-some (D.Refused n) s = line-some (refused_text n)

module _ (N : Network) (l : Lister) (size : length l.setting ≡ max_reaches) where
  -- the line of the plan in hand
  rest-size : (left : ℕ) → l.due ≡ D.Plan left → length (rest_of N l) ≡ plan_length (gates_held N) - l.at
  unfolding rest_of
  rest-size left e =
      rw e
      (length-drop l.at (line (plan_text (plan_in_hand N l)))
      ∙ ap (λ (k : ℕ). k - l.at) (plan-size (plan_in_hand N l) ∙ ap plan_length (length-take-le (gates_held N) l.setting (omega arith))))

  -- something is left of it
  pub turned_none : (left : ℕ) → l.due ≡ D.Plan left → l.at < plan_length (gates_held N) → Turned N l l
  turned_none left e k =
      record { basins-kept = refl; same = refl; ended = λ z. let none : ⊥ = omega (arith, ap length z, rest-size left e) in absurd none }

  -- nothing is left of it, and the next line comes
  pub turned-next : (left : ℕ) (r : Lister) → l.due ≡ D.Plan left → plan_length (gates_held N) ≤ l.at → LineAfter N l left r → Turned N l r
  unfolding rest_of pending_of
  turned-next left r e k a =
      let nothing : rest_of N l ≡ [] = nil-of-length (rest_of N l) (omega (arith, rest-size left e)) in
      record {
        basins-kept = a.basins-kept;
        same = a.lines ∙ sym (ap (λ (t : List ℕ). t ++ lines_after N l.due (plan_in_hand N l)) nothing ∙ ap (λ (d : Due). lines_after N d (plan_in_hand N l)) e);
        ended = λ z. let none : ⊥ = omega (arith, ap length z, ap (λ (k : ℕ). length (drop k (line_of r.due (plan_in_hand N r)))) a.begun, due-some r.due (plan_in_hand N r)) in absurd none;
      }

-- the last line
pub turned-last : (N : Network) (l : Lister) → lines_after N l.due (plan_in_hand N l) ≡ [] → Turned N l l
unfolding rest_of pending_of
turned-last N l e =
    record { basins-kept = refl; same = refl; ended = λ z. ap (λ (t : List ℕ). rest_of N l ++ t) e ∙ append-nil (rest_of N l) ∙ z }
