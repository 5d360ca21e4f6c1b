use Rattle.topologyrules.proofs.Laws.{part_empty, part_full, root_in}
use Rattle.topologyrules.proofs.connected.Goals as goal

pub returns-then-bb-eq0 : goal.returns-then-bb-eq0
returns-then-bb-eq0 c = search part_empty

pub joined-requires : goal.joined-requires
joined-requires c = search root_in

pub returns : goal.returns
returns c = search part_full
