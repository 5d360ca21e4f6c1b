use Rattle.nexthops.proofs.Ties.{worded}
use Rattle.nexthops.proofs.Topology.words.Goals as goal

pub returns : goal.returns
returns c = search worded
