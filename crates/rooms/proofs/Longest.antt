-- The lengths of the rooms in figures; and that a room is one and no other.
use mathlib.Core.Path.{◌≡◌, refl, sym, subst, ◌∙◌}
use mathlib.Core.List.{List}
use Prim.Native.Nat.{ℕ, ◌+◌}
use Rattle.rules.specs.Basics.{need}
use Rattle.rules.specs.Limits.{row_weights, row_length, home_records, link_place, home_place, row_place, file_length, tables_length, trail_room, report_room, longest}
use Rattle.rooms.specs.Rooms.{Room}

pub longest_file : longest.file ≡ 9192
unfolding need row_weights row_length home_records link_place home_place row_place file_length longest
longest_file = refl

pub longest_tables : longest.tables ≡ 34816
unfolding tables_length longest
longest_tables = refl

pub longest_trail : longest.trail ≡ 62
unfolding trail_room longest
longest_trail = refl

pub longest_report : longest.report ≡ 23867
unfolding report_room longest
longest_report = refl

-- the room that a file is read into
pub a_byte_more : (r : List ℕ) → Room 9193 r → Room (longest.file + 1) r
a_byte_more r room = subst (λ (n : ℕ). Room (n + 1) r) (sym longest_file) room

-- two results that the promise allows coincide: every byte of the room
pub one_room : (n : ℕ) (r r' : List ℕ) → Room n r → Room n r' → r ≡ r'
one_room n r r' p q = p.empty ∙ sym q.empty
