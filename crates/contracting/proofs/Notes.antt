-- The notes of components as reaches come, and what they decide.
-- Assumes nothing.
use Prim.Native.Nat.{ℕ, suc, ◌<◌}
use mathlib.Core.Path.{◌≡◌, refl, sym, ap, ap₂, ◌∙◌, fun_ext}
use mathlib.Core.Bool.{Bool, true, false, cond, not, ◌&&◌, ◌||◌}
use mathlib.Core.List.{List, [], ◌∷◌, ◌++◌}
use lib.ListN.{length, take}
use lib.Seq.{take-suc}
use Rattle.lists.specs.Lists.{some?}
use Rattle.lists.proofs.Bools.{same_test}
use Rattle.network.specs.declared.Kind.TheVariants.{Gated, Flap, TwoWay}
use Rattle.network.specs.declared.State.{State}
use Rattle.network.specs.declared.State.TheVariants.{InService, Shut}
use Rattle.network.specs.declared.Reach.{Reach}
use Rattle.network.specs.Networks.{Network}
use Rattle.network.specs.Bridges.{no_reach, reach_at}
use Rattle.components.specs.Components.{is_two_way, connected, is_singleton, component_number}
use Rattle.components.specs.Contracted.{none_before, stays}
use Rattle.components.specs.Labels.{note_at}
use Rattle.components.specs.declared.Note.TheVariants.{One, Several, Looped}
use Rattle.contracting.specs.Filling.{is_one, is_several, is_looped, stays_by, note_after}
use Rattle.components.proofs.Components.{connected-refl, connected-sym, connected-trans, connected-eqb, singleton-same}

-- a search that has one member more
some_more : {A : Type 0} (p : A → Bool) (xs : List A) (x : A) → not (some? p (xs ++ (x ∷ []))) ≡ not (some? p xs) && not (p x)
some_more p [] x = one (p x)
  where
    one : (b : Bool) → not (b || false) ≡ not b
    one true = refl
    one false = refl
some_more p (y ∷ xs) x = one (p y) (some? p (xs ++ (x ∷ []))) (some? p xs) (p x) (some_more p xs x)
  where
    one : (b all front last : Bool) → not all ≡ not front && not last → not (b || all) ≡ not (b || front) && not last
    one true all front last e = refl
    one false all front last e = e

-- ---- one reach more

module _ (N : Network) (i : ℕ) (l : i < length N.reaches) where
  none-next : (v : ℕ) → none_before N (suc i) v ≡ none_before N i v && not (is_two_way (reach_at N i).state && connected N (reach_at N i).a v)
  unfolding none_before
  none-next v =
      let p : Reach → Bool = λ r. is_two_way r.state && connected N r.a v in
      ap (λ (t : List Reach). not (some? p t)) (take-suc N.reaches i no_reach l) ∙ some_more p (take i N.reaches) (reach_at N i)

  -- the note of a component where the reach has its end A
  pub note-here : note_at N (suc i) (reach_at N i).a ≡ note_after (reach_at N i).state (note_at N i (reach_at N i).a)
  note-here =
      let a = (reach_at N i).a in
      rw (none-next a, connected-refl N a) (by_tests (is_singleton N a) (none_before N i a) (is_two_way (reach_at N i).state))
    where
      by_tests : (one none two : Bool) → cond one One (cond (none && not (two && true)) Several Looped) ≡ cond (two && is_several (cond one One (cond none Several Looped))) Looped (cond one One (cond none Several Looped))
      by_tests true none true = refl
      by_tests true none false = refl
      by_tests false true true = refl
      by_tests false true false = refl
      by_tests false false true = refl
      by_tests false false false = refl

  -- and of another
  pub note-there : (v : ℕ) → connected N (reach_at N i).a v ≡ false → note_at N (suc i) v ≡ note_at N i v
  note-there v e = rw (none-next v, e) (by_tests (is_singleton N v) (none_before N i v) (is_two_way (reach_at N i).state))
    where
      by_tests : (one none two : Bool) → cond one One (cond (none && not (two && false)) Several Looped) ≡ cond one One (cond none Several Looped)
      by_tests true none two = refl
      by_tests false true true = refl
      by_tests false true false = refl
      by_tests false false two = refl

-- ---- the note is the component's

none_alike : (N : Network) (i u v : ℕ) → connected N u v ≡ true → none_before N i u ≡ none_before N i v
unfolding none_before
none_alike N i u v h = ap (λ (p : Reach → Bool). not (some? p (take i N.reaches))) (fun_ext (λ r. ap (λ (b : Bool). is_two_way r.state && b) (alike r.a)))
  where
    alike : (w : ℕ) → connected N w u ≡ connected N w v
    alike w = same_test (connected N w u) (connected N w v) (λ e. connected-trans N w u v e h) (λ e. connected-trans N w v u e (connected-sym N u v h))

pub note-alike : (N : Network) (i u v : ℕ) → u < N.basins → v < N.basins → connected N u v ≡ true → note_at N i u ≡ note_at N i v
note-alike N i u v l m h = rw (singleton-same N u v l m h, none_alike N i u v h)

-- ---- what stays, by the note

note-one : (one none : Bool) → is_one (cond one One (cond none Several Looped)) ≡ one
note-one true none = refl
note-one false true = refl
note-one false false = refl

note-due : (one none : Bool) → not (is_looped (cond one One (cond none Several Looped))) ≡ one || none
note-due true none = refl
note-due false true = refl
note-due false false = refl

pub stays_by-noted :
    (N : Network) (i : ℕ) (s : State) (a b : ℕ) → a < N.basins → b < N.basins
    → stays_by s (component_number N a) (component_number N b) (note_at N i a) ≡ stays N i s a b
stays_by-noted N i (InService Gated) a b l m = refl
stays_by-noted N i (InService Flap) a b l m = ap₂ (λ e f. not e || f) (sym (connected-eqb N a b l m)) (note-one (is_singleton N a) (none_before N i a))
stays_by-noted N i (InService TwoWay) a b l m = note-due (is_singleton N a) (none_before N i a)
stays_by-noted N i (Shut k) a b l m = refl
