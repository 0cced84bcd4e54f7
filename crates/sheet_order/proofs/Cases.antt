-- The order and the part of the sheets of specs/Cases.antt, computed from the definitions.
-- Assumes nothing.
use mathlib.Core.Path.{refl}
use Rattle.network.specs.Networks.{is_wet, basins_of, table_fault}
use Rattle.network.specs.Settings.{is_setting}
use Rattle.network.specs.Plans.{strongly_connected_under, is_plan}
use Rattle.file_records.specs.Records.{body_of}
use Rattle.sheet_format.specs.Readings.{read_gates, read_records, read_sheet}
use Rattle.sheet_order.specs.Orders.{sheet_order}
use Rattle.sheet_order.specs.Cases.{comparisons, ComparisonsHold}

pub comparisons-hold : ComparisonsHold comparisons
unfolding is_wet basins_of body_of table_fault is_setting strongly_connected_under is_plan read_gates read_records read_sheet sheet_order
comparisons-hold = ((refl, refl), ((refl, refl), ((refl, refl), ((refl, refl), ((refl, refl), ((refl, refl), ((refl, refl), ((refl, refl), ((refl, refl), ((refl, refl), ((refl, refl), ((refl, refl), ((refl, refl), ((refl, refl), ((refl, refl), ((refl, refl), ((refl, refl), ((refl, refl), ((refl, refl), ((refl, refl), ((refl, refl), ((refl, refl), ((refl, refl), ((refl, refl), ((refl, refl), ((refl, refl), ((refl, refl), tt)))))))))))))))))))))))))))
