-- The marked cases 1 to 11, the cases with shut reaches, those with dry basins, the bytes of bound gates, and two-way reaches as two flaps, computed from the
-- definitions.
-- Assumes nothing.
use mathlib.Core.Path.{refl}
use lib.Count.{ones}
use Rattle.network.specs.Networks.{is_wet, basins_of, table_fault}
use Rattle.network.specs.Settings.{is_setting, setting_fault}
use Rattle.network.specs.Plans.{strongly_connected_under, is_plan, passable, first_plan, next_plan}
use Rattle.network.specs.Bridges.{crosses_alone, is_bridge, lowest_bridge}
use Rattle.network.specs.Marks.{marks_of}
use Rattle.network.specs.Replies.{shut_in_basin, shut_in_side, bridge_side, shut_in_finding, lone_finding, answer, first_answer, next_answer, room_fault, first_reply, next_reply}
use Rattle.network.specs.Choices.{plans, bound_byte, bound_bytes}
use Rattle.network.specs.Cases.{cases, shut_cases, dry_cases, bound_cases, two_way_cases, CasesHold, BytesHold}

pub marked-cases : CasesHold cases × CasesHold shut_cases × CasesHold dry_cases × BytesHold bound_cases
unfolding is_wet basins_of table_fault is_setting setting_fault strongly_connected_under is_plan passable first_plan next_plan crosses_alone is_bridge lowest_bridge marks_of ones shut_in_basin shut_in_side bridge_side shut_in_finding lone_finding answer first_answer next_answer room_fault first_reply next_reply plans bound_byte bound_bytes
marked-cases = (
  ((refl, (refl, tt)), ((refl, tt), ((refl, (refl, (refl, (refl, tt)))), ((refl, tt), ((refl, tt), ((refl, (refl, tt)), ((refl, (refl, tt)), ((refl, (refl, tt)), ((refl, (refl, (refl, tt))), ((refl, tt), ((refl, tt), tt))))))))))),
  ((refl, (refl, tt)), ((refl, tt), ((refl, (refl, (refl, (refl, tt)))), ((refl, tt), ((refl, tt), ((refl, tt), ((refl, tt), ((refl, (refl, tt)), tt)))))))),
  ((refl, (refl, (refl, tt))), ((refl, (refl, tt)), ((refl, tt), ((refl, (refl, tt)), ((refl, tt), ((refl, tt), ((refl, tt), ((refl, tt), ((refl, tt), ((refl, tt), ((refl, (refl, (refl, tt))), tt))))))))))),
  (refl, (refl, (refl, (refl, (refl, (refl, (refl, (refl, (refl, (refl, (refl, (refl, (refl, (refl, tt)))))))))))))),
)

pub two-way-cases : CasesHold two_way_cases
unfolding is_wet basins_of table_fault is_setting setting_fault strongly_connected_under is_plan passable first_plan next_plan crosses_alone is_bridge lowest_bridge marks_of ones shut_in_basin shut_in_side bridge_side shut_in_finding lone_finding answer first_answer next_answer room_fault first_reply next_reply
two-way-cases = ((refl, (refl, tt)), ((refl, tt), ((refl, (refl, (refl, tt))), tt)))
