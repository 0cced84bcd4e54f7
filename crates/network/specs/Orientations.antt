-- Which way each reach passes under a partial orientation, and what is reached from a basin along reaches taken the way they pass.
-- Assumes nothing.
use Rattle.std.specs.Prelude.{ℕ, zero, suc, Bool, ◌&&◌, ◌||◌, length, get_or, drop, replicate, leb, eqb}
use mathlib.Core.List.{List, [], ◌∷◌, ◌++◌, Memᴰ}
use Rattle.network.specs.declared.Kind.TheVariants.{Gated, Flap, TwoWay}
use Rattle.network.specs.declared.State.{State}
use Rattle.network.specs.declared.State.TheVariants.{InService, Shut}
use Rattle.network.specs.declared.Reach.{Reach}
use Rattle.lists.specs.Lists.{every}
use Rattle.network.specs.Networks.{Network}
use Rattle.network.specs.Settings.{gate_count}

-- A way is a number: 0 from A to B, 1 from B to A, 2 both, 3 neither.
-- A partial orientation (some gates hung, the others still usable either way) is a list of ways 0, 1 or 2, one for each gated reach in reach order:
-- as drawn, turned, or either.
-- A setting is a partial orientation without a 2. A gate without a byte counts as either.

unfoldable pub is_partial_orientation : Network → List ℕ → Bool
is_partial_orientation N h = eqb (length h) (gate_count N) && every (λ x. leb x 2) h

-- The way of a reach in the state, if the partial orientation of the gates from it on is h. Item 1: "While shut it passes no water", whatever is hung.
abbrev pub way : State → List ℕ → ℕ
way (InService Gated) h = get_or h 0 2
way (InService Flap) h = 0
way (InService TwoWay) h = 2
way (Shut k) h = 3

-- The partial orientation of the gates after a reach in the state.
abbrev pub after : State → List ℕ → List ℕ
after (InService Gated) h = drop 1 h
after (InService Flap) h = h
after (InService TwoWay) h = h
after (Shut k) h = h

-- The way of each reach of a table, in reach order.
abbrev pub ways : List Reach → List ℕ → List ℕ
ways [] h = []
ways (r ∷ t) h = way r.state h ∷ ways t (after r.state h)

-- Water passes from the first basin to the second.
pub data Arc : Type 0 where
  arc : ℕ → ℕ → Arc

-- What a reach between a and b passes if its way is w.
abbrev pub passing : ℕ → ℕ → ℕ → List Arc
passing zero a b = arc a b ∷ []
passing (suc zero) a b = arc b a ∷ []
passing (suc (suc zero)) a b = arc a b ∷ arc b a ∷ []
passing (suc (suc (suc w))) a b = []

-- What the reaches of a table pass, each in its way.
abbrev pub arcs : List Reach → List ℕ → List Arc
arcs [] ws = []
arcs (r ∷ t) [] = []
arcs (r ∷ t) (w ∷ ws) = passing w r.a r.b ++ arcs t ws

-- What the network passes under the partial orientation h.
abbrev pub arcs_under : Network → List ℕ → List Arc
arcs_under N h = arcs N.reaches (ways N.reaches h)

-- A walk from u to v along the arcs of A: "reaches … along reaches taken the way they pass".
pub data Walk (A : List Arc) : ℕ → ℕ → Type 0 where
  stay : {u : ℕ} → Walk A u u
  step : {u v w : ℕ} → Memᴰ (arc u v) A → Walk A v w → Walk A u w

-- Whether v is reached from u along A: without its first arc, or up to that arc's start and on from its end.
-- proofs/Walks.antt: `reached A u v` is true exactly if there is a `Walk A u v`.
abbrev pub reached : List Arc → ℕ → ℕ → Bool
reached [] u v = eqb u v
reached (arc a b ∷ A) u v = reached A u v || reached A u a && reached A b v

-- The partial orientation under which "every gated reach" is "usable either way".
abbrev pub unoriented : Network → List ℕ
unoriented N = replicate (gate_count N) 2
