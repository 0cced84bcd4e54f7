-- The sheets on both edges get the numbers that the table of specs/Examples.antt says, and the marked cases their sheets.
-- Assumes nothing.
use mathlib.Core.Path.{◌≡◌, refl}
use mathlib.Core.Bool.{true}
use mathlib.Core.List.{map}
use lib.Count.{ones}
use lib.Dec.{eqb}
use Rattle.lists.specs.Lists.{every}
use Rattle.network.specs.Networks.{is_wet, basins_of, table_fault}
use Rattle.network.specs.Settings.{is_setting}
use Rattle.network.specs.Plans.{strongly_connected_under, is_plan, passable, first_plan}
use Rattle.network.specs.Bridges.{crosses_alone, is_bridge, lowest_bridge}
use Rattle.network.specs.Marks.{marks_of}
use Rattle.network.specs.Replies.{shut_in_basin, shut_in_side, bridge_side, shut_in_finding, lone_finding, answer, first_answer}
use Rattle.file_records.specs.Records.{body_of}
use Rattle.sheet_format.specs.Sheets.{reply_sheet}
use Rattle.sheet_format.specs.Readings.{read_gates, read_records, read_sheet}
use Rattle.sheet_format.specs.Answers.{sheet_reading_number}
use Rattle.sheet_format.specs.Examples.{sheets, replies}

pub sheets-hold : every (λ e. eqb (sheet_reading_number (read_sheet e.0 e.1)) e.2) sheets ≡ true
unfolding is_wet basins_of body_of table_fault is_setting strongly_connected_under is_plan read_gates read_records read_sheet
sheets-hold = refl

pub replies-hold : map (λ e. reply_sheet e.0) replies ≡ map (λ e. e.1) replies
unfolding is_wet basins_of is_setting strongly_connected_under is_plan passable first_plan crosses_alone is_bridge lowest_bridge marks_of ones shut_in_basin shut_in_side bridge_side shut_in_finding lone_finding answer first_answer reply_sheet
replies-hold = refl
