use Rattle.engine.proofs.One.{costs_are, costs_links, few_links, held_row}
use Rattle.engine.proofs.Held.costs.Goals as goal

pub row_in_force-row-requires : goal.row_in_force-row-requires
row_in_force-row-requires c = search held_row

pub restricted_weight-r-requires : goal.restricted_weight-r-requires
restricted_weight-r-requires c = search few_links

pub fill_costs-requires : goal.fill_costs-requires
fill_costs-requires c = search costs_links

pub returns : goal.returns
returns c = search costs_are
