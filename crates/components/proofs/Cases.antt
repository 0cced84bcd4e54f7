-- What the marked cases and others are contracted to, computed from the definitions.
-- Assumes nothing.
use mathlib.Core.Path.{refl}
use Rattle.components.specs.Components.{connected, component, representative, component_number, component_count, is_singleton}
use Rattle.components.specs.Contracted.{none_before, contracted}
use Rattle.components.specs.Cases.{contractions, ContractionsHold}

pub contractions-hold : ContractionsHold contractions
unfolding connected component representative component_number component_count is_singleton none_before contracted
contractions-hold = (refl, (refl, (refl, (refl, (refl, (refl, (refl, (refl, (refl, (refl, (refl, (refl, (refl, (refl, (refl, (refl, (refl, tt)))))))))))))))))
