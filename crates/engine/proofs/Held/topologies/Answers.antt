use borrow.Author.Rules.{rules}
use native.Mathlib.Omega.{arith}
use Rattle.engine.proofs.Whole.{links_count, links_held, links_kept, links_room, nodes_count, nodes_held, nodes_kept, nodes_room, stage_last, stage_more, stage_none, turn_low, turn_part, turn_room}
use Rattle.engine.proofs.Held.topologies.Goals as goal

pub loop-i-init : goal.loop-i-init
loop-i-init c = (search rules, search rules, search rules, search stage_none)

pub slice_bounds-c-end : goal.slice_bounds-c-end
slice_bounds-c-end c = search links_room

pub slice_bounds-topology-end : goal.slice_bounds-topology-end
slice_bounds-topology-end c = search links_count

pub slice_bounds-d-end : goal.slice_bounds-d-end
slice_bounds-d-end c = search nodes_room

pub slice_bounds-topology-end-in-loop-i : goal.slice_bounds-topology-end-in-loop-i
slice_bounds-topology-end-in-loop-i c = search nodes_count

pub slice_bounds-w-end : goal.slice_bounds-w-end
slice_bounds-w-end c = search nodes_room

pub slice_bounds-topology-end-in-loop-i-2 : goal.slice_bounds-topology-end-in-loop-i-2
slice_bounds-topology-end-in-loop-i-2 c = search nodes_count

pub slice_bounds-topology-end-in-loop-i-3 : goal.slice_bounds-topology-end-in-loop-i-3
slice_bounds-topology-end-in-loop-i-3 c = search turn_room

pub topology-requires-clause-i_le_k : goal.topology-requires-clause-i_le_k
topology-requires-clause-i_le_k c = search turn_low

pub topology-requires-clause-room : goal.topology-requires-clause-room
topology-requires-clause-room c = (search links_held, search nodes_held, search nodes_held)

pub topology-requires-clause-out_len : goal.topology-requires-clause-out_len
topology-requires-clause-out_len c = search turn_part

pub loop-i-preserved : goal.loop-i-preserved
loop-i-preserved c = (search links_kept, search nodes_kept, search nodes_kept, search stage_more)

-- the loop ends after its last turn, and never before a turn
pub returns : goal.returns
returns c = absurd (omega arith)

pub returns-2 : goal.returns-2
returns-2 c = search stage_last
