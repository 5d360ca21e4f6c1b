use Rattle.nexthops.proofs.Ties.{links_more, links_none}
use Rattle.nexthops.proofs.Topology.mark_links.Goals as goal

pub loop-l-init : goal.loop-l-init
loop-l-init c = search links_none

pub loop-l-preserved : goal.loop-l-preserved
loop-l-preserved c = search links_more
