use Rattle.alternates.proofs.Neighbours.{nodes_done, nodes_more, nodes_none, nodes_past}
use Rattle.alternates.proofs.fill.Goals as goal
use Rattle.alternates.proofs.fill.Goals.{then-homes-u, else-homes-u}

pub loop-u-init : goal.loop-u-init
loop-u-init c = search nodes_none

pub loop-u-preserved : goal.loop-u-preserved
loop-u-preserved c = elim c.if-homes-u.branch [ then-homes-u w ↦ search nodes_more | else-homes-u w ↦ search nodes_past ]

pub returns : goal.returns
returns c = search nodes_done
