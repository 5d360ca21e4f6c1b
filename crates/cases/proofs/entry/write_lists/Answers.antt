use Rattle.cases.proofs.Lists.{lists_held}
use Rattle.cases.proofs.entry.write_lists.Goals as goal

-- The rooms hold the lists of every file whose counts are within their ranges.
pub lists_into-requires : goal.lists_into-requires
lists_into-requires g c = search lists_held
