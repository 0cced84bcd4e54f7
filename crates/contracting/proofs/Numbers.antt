-- What stays, by the number of the reach's state.
-- Assumes nothing.
use Prim.Native.Nat.{ℕ, zero, suc}
use mathlib.Core.Path.{◌≡◌, refl}
use mathlib.Core.Bool.{true, false≢true}
use Rattle.network.specs.Tables.{state_of, state_number}
use Rattle.components.specs.declared.Note.{Note}
use Rattle.contracting.specs.Filling.{stays_by}

-- the number of a reach that stays is its state's
pub number-kept : (kind c d : ℕ) (note : Note) → stays_by (state_of kind) c d note ≡ true → kind ≡ state_number (state_of kind)
number-kept zero c d note e = refl
number-kept (suc zero) c d note e = refl
number-kept (suc (suc zero)) c d note e = refl
number-kept (suc (suc (suc zero))) c d note e = absurd (false≢true e)
number-kept (suc (suc (suc (suc zero)))) c d note e = absurd (false≢true e)
number-kept (suc (suc (suc (suc (suc k))))) c d note e = absurd (false≢true e)
