use Rattle.engine.proofs.Whole.{all_filled, alternates_few, few_nodes, front_long, nodes_held, tail_long, tail_within}
use Rattle.engine.proofs.Held.all_tables.Goals as goal

pub overflow_sub-split : goal.overflow_sub-split
overflow_sub-split c = search tail_within

pub topologies-requires-clause-out_len : goal.topologies-requires-clause-out_len
topologies-requires-clause-out_len c = search front_long

pub copy_rows-requires : goal.copy_rows-requires
copy_rows-requires c = (search alternates_few, search tail_long)

pub returns : goal.returns
returns c = search all_filled

pub slice_bounds-rows-end : goal.slice_bounds-rows-end
slice_bounds-rows-end c = search few_nodes

pub topologies-requires-clause-alts_len : goal.topologies-requires-clause-alts_len
topologies-requires-clause-alts_len c = search nodes_held
