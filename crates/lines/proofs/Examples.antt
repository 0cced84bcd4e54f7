-- The inputs on both edges print what the table of specs/Examples.antt says.
-- Assumes nothing.
use mathlib.Core.Path.{◌≡◌, refl}
use mathlib.Core.List.{map}
use Rattle.network.specs.Networks.{is_wet, basins_of}
use Rattle.network.specs.Settings.{is_setting}
use Rattle.network.specs.Plans.{strongly_connected_under, is_plan, passable, first_plan, next_plan}
use Rattle.network.specs.Bridges.{crosses_alone, is_bridge, lowest_bridge}
use Rattle.network.specs.Marks.{marks_of}
use Rattle.network.specs.Replies.{shut_in_side, bridge_side, shut_in_finding, lone_finding, answer, first_answer}
use Rattle.file_records.specs.Records.{body_of}
use Rattle.netfile_format.specs.Files.{read_reaches, read_file}
use Rattle.lines.specs.Listings.{plans_from, listing}
use Rattle.network.specs.Cases.{case3}
use Rattle.lines.specs.Examples.{examples, limits}

pub examples-hold : map (λ e. listing e.0) examples ≡ map (λ e. e.1) examples
unfolding is_wet basins_of is_setting strongly_connected_under is_plan passable first_plan next_plan crosses_alone is_bridge lowest_bridge marks_of shut_in_side bridge_side shut_in_finding lone_finding answer first_answer body_of read_reaches read_file plans_from listing
examples-hold = refl

pub limits-hold : map (λ e. plans_from case3 e.0 (first_plan case3)) limits ≡ map (λ e. e.1) limits
unfolding is_wet basins_of is_setting strongly_connected_under is_plan first_plan next_plan plans_from
limits-hold = refl
