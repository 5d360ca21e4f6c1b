use mathlib.Core.Path.{refl}
use Rattle.rules.specs.Basics.{need}
use Rattle.rules.specs.Limits.{row_weights, row_length, home_records, link_place, home_place, row_place, file_length, tables_length, trail_room, report_room, longest}
use Rattle.rules.proofs.Network.longest.Goals as goal

-- The sizes are those of the definitions, by computation. Assumes nothing.
pub returns : goal.returns
unfolding need row_weights row_length home_records link_place home_place row_place file_length tables_length trail_room report_room longest
returns c = refl
