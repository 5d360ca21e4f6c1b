use Rattle.tablefilling.proofs.Laws.{tabling}
use Rattle.tablefilling.proofs.from_lists.Goals as goal

pub lists_into-requires : goal.lists_into-requires
lists_into-requires c = search tabling

pub fill_tables-requires-clause-accepted_set : goal.fill_tables-requires-clause-accepted_set
fill_tables-requires-clause-accepted_set c = search tabling

pub returns : goal.returns
returns c = search tabling
