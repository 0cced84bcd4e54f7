-- The longest of the fewest counts of the marked cases and others, computed from the definitions.
-- Assumes nothing.
use mathlib.Core.Path.{refl}
use Rattle.network.specs.Networks.{is_wet, basins_of, table_fault}
use Rattle.network.specs.Settings.{is_setting}
use Rattle.network.specs.Plans.{strongly_connected_under, is_plan}
use Rattle.distances.specs.Diameters.{diameter}
use Rattle.distances.specs.Answers.{diameter_of}
use Rattle.distances.specs.Cases.{span_cases, SpansHold}

pub spans-hold : SpansHold span_cases
unfolding is_wet basins_of table_fault is_setting strongly_connected_under is_plan diameter diameter_of
spans-hold = (refl, (refl, (refl, (refl, (refl, (refl, (refl, (refl, (refl, (refl, (refl, (refl, (refl, (refl, (refl, (refl, (refl, (refl, (refl, (refl, (refl, (refl, (refl, (refl, (refl, (refl, (refl, (refl, (refl, (refl, (refl, tt)))))))))))))))))))))))))))))))
