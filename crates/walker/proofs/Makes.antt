-- The making of a walker.
-- Assumes nothing.
use Rattle.std.specs.Prelude.{Result, Ok, Err}
use Prim.Native.Nat.{ℕ, ◌≤◌}
use native.Mathlib.Omega.{arith}
use mathlib.Core.Path.{◌≡◌, refl, sym, ap, ◌∙◌}
use mathlib.Core.Option.{Option, none, some}
use mathlib.Core.List.{List, []}
use lib.ListN.{length}
use Rattle.network.specs.declared.Refusal.{Refusal}
use Rattle.network.specs.Networks.{Network, max_reaches}
use Rattle.network.specs.Replies.{fault_number, check_fault}
use Rattle.network.proofs.Networks.{gates-fit}
use Rattle.network.proofs.Order.{setting-length}
use Rattle.tables.specs.Answers.{table_answer}
use Rattle.tables.proofs.Faults.{answer-refused, answer-accepted}
use Rattle.packing.proofs.Packings.{ByTable}
use Rattle.refusals.proofs.Dues.{unrefused-fits}
use Rattle.walker.specs.declared.Walker.{Walker}
use Rattle.walker.specs.declared.Made.{Made}
use Rattle.walker.specs.Walkers.{walker_of, make_of, walker_made, Making}

-- ---- what is made

-- what is made holds the setting
made_held : (N : Network) (s : List ℕ) → check_fault N s ≡ none → length s ≤ max_reaches
made_held N s e = let d = unrefused-fits N s e in omega (arith, gates-fit N d.0, setting-length N s d.1)

-- of a refused table the making depends on the refusal only
pub make-alike : (s : List ℕ) {r : Made} → ByTable (λ N. Making N s r)
unfolding check_fault
make-alike s N N' x e e' h =
    let same : check_fault N s ≡ check_fault N' s = rw (e, e') in
    record { answered = h.answered ∙ ap make_of same; number = h.number ∙ ap fault_number same; held = h.held ∙ ap (λ (o : Option Refusal). walker_made o s) same }

-- what the check of the setting refuses, the making refuses
module _ (N : Network) (s : List ℕ) {x : Result (Unit {0}) Refusal} (told : x ≡ table_answer (check_fault N s)) where
  module _ {r : Refusal} (e : x ≡ Err r) where
    fault : check_fault N s ≡ some r
    fault = answer-refused (check_fault N s) r (sym told ∙ e)

    pub make-refused : {w : Walker} → w.setting ≡ walker_of [] → Making N s (record { answer = Err r; walker = w })
    make-refused z = record { answered = rw fault refl; number = rw fault refl; held = rw fault z }

  module _ (e : x ≡ Ok tt) where
    clear : check_fault N s ≡ none
    clear = answer-accepted (check_fault N s) (sym told ∙ e)

    pub make-fits : length s ≤ max_reaches
    make-fits = made_held N s clear

    pub make-made : {w : Walker} → w.setting ≡ walker_of s → Making N s (record { answer = Ok tt; walker = w })
    make-made z = record { answered = rw clear refl; number = rw clear refl; held = rw clear z }
