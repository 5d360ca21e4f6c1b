use Rattle.nexthops.proofs.Ties.{one_marked}
use Rattle.nexthops.proofs.Topology.mark.Goals as goal

pub returns : goal.returns
returns c = search (one_marked, c.told-w)
