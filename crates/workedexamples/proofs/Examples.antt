-- P1 to P12, and the report on the triangle, hold of the definitions, by computation.
use Rattle.std.specs.Prelude.{if◌then◌else◌}
use mathlib.Core.Path.{refl}
use Rattle.rules.specs.Basics.{need, all, any, count, lowest, least, up_to, flat, laid}
use Rattle.rules.specs.Limits.{need_counts, restricted_weight, row_weights, row_length, home_records, link_place, home_place, row_place, file_length, tables_length, most_hops, trail_room, report_room, longest}
use Rattle.rules.specs.File.{bytes2, header_bytes, link_bytes, home_bytes, row_start, row_bytes, encode, two, header_of, end_a, end_b, link_weight, home_node, home_topology, row_topology, row_weight, set_of}
use Rattle.rules.specs.Isolation.{joins, link_between, neighbours, home, isolated, backbone, word, isolated_word, class_by, class, weight_fits, row_in_force, weight_by, weight_from, hop_weight, usable, normal_hop, spread, reached, connected, restricted_links, two_links, topology_number}
use Rattle.rules.specs.Distance.{longer, totals, distances, distance, on_least_path, next_hop, is_restricted, candidate, nearest, alternate, table_bytes}
use Rattle.rules.specs.Forwarding.{fault_of, failed, up, tables_of, entry_place, lent_tables, move_or_drop, change_to, blocked, toward, step, alternate_number, change_number, toward_number, lookup_number, hops, trail, stop, first_kind, changed, letter, onward, after_step, run, run_under}
use Rattle.rules.specs.Building.{with_homes, homeless, admits, first_topology, homes_after, first_fit, fits, highest, on_normal, filled, built, spared, build_number}
use Rattle.rules.specs.Judgement.{refuse, and_then, in_turn, need_mark, header_number, after, rises, link_number, home_number, row_weight_fits, row_number, records, judge, need_set, need_graph, topologies, take_in, take_set, need_failure, need_packet, need_cap, need_fit, source_number, need_source, need_room}
use Rattle.rules.specs.Report.{digits, decimal, signed, header_line, packet_of, kind_of, detected_link, detection, backup_hops, plain_hops, extra_hops, detection_line, detection_lines, last_line, report_text, refusal_line, printed}
use Rattle.rules.specs.Answers.{tell, header_values, read_tells, length_tells, outcome_value, packet_values, step_values, step_tells, journey_values, run_tells, tells}
use Rattle.rules.specs.Entries.Entry.{on_accept}
use Rattle.rules.specs.Entries.Lists.{need_lists}
use Rattle.rules.specs.Entries.Read.{lists_with, read_entry}
use Rattle.rules.specs.Entries.Write.{set_with, write_entry}
use Rattle.rules.specs.Entries.Build.{built_from, build_entry}
use Rattle.rules.specs.Entries.Tables.{tables_entry}
use Rattle.rules.specs.Entries.Step.{lookups_of, step_of, step_entry}
use Rattle.rules.specs.Entries.Run.{run_of, run_values, run_entry}
use Rattle.rules.specs.Entries.Report.{report_entry}
use Rattle.rules.specs.Examples.{triangle, ring, full_four, triangle_set, ring_set, full_four_set, row_of, built_row, taken_in_row, ran_row, computed, expected, ExamplesHold, triangle_report, ReportHolds}

pub examples_hold : ExamplesHold
unfolding need all any count lowest least up_to flat laid need_counts restricted_weight row_weights row_length home_records link_place home_place row_place file_length tables_length most_hops trail_room report_room longest bytes2 header_bytes link_bytes home_bytes row_start row_bytes encode two header_of end_a end_b link_weight home_node home_topology row_topology row_weight set_of joins link_between neighbours home isolated backbone word isolated_word class_by class weight_fits row_in_force weight_by weight_from hop_weight usable normal_hop spread reached connected restricted_links two_links topology_number longer totals distances distance on_least_path next_hop is_restricted candidate nearest alternate table_bytes fault_of failed up tables_of entry_place lent_tables move_or_drop change_to blocked toward step alternate_number change_number toward_number lookup_number hops trail stop first_kind changed onward after_step run with_homes homeless admits first_topology homes_after first_fit fits highest on_normal filled built spared build_number refuse and_then in_turn need_mark header_number after rises link_number home_number row_weight_fits row_number records judge need_set need_graph topologies take_in take_set need_failure need_packet need_cap need_fit source_number need_source need_room digits decimal letter header_line packet_of kind_of detected_link detection run_under backup_hops plain_hops extra_hops detection_line detection_lines last_line report_text refusal_line printed tell header_values tells outcome_value packet_values step_values journey_values on_accept need_lists lists_with read_entry set_with write_entry built_from build_entry tables_entry lookups_of step_of step_entry run_of run_values run_entry report_entry triangle ring full_four triangle_set ring_set full_four_set row_of built_row taken_in_row ran_row computed expected
examples_hold = refl

pub report_holds : ReportHolds
unfolding all any count lowest least up_to flat restricted_weight row_weights row_start most_hops joins link_between neighbours home isolated class_by class row_in_force weight_by weight_from hop_weight usable normal_hop longer totals distances distance on_least_path next_hop is_restricted candidate nearest alternate up tables_of move_or_drop change_to blocked toward step hops stop first_kind changed onward after_step run with_homes highest on_normal filled digits decimal letter header_line packet_of kind_of detected_link detection run_under backup_hops plain_hops extra_hops detection_line detection_lines last_line report_text triangle triangle_set signed triangle_report
report_holds = refl
