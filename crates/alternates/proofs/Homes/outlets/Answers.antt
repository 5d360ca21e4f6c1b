use Rattle.alternates.proofs.Neighbours.{outlets_more, outlets_none, outlets_same}
use Rattle.alternates.proofs.Homes.outlets.Goals as goal
use Rattle.alternates.proofs.Homes.outlets.Goals.{then-self-x, else-self-x}

pub loop-l-init : goal.loop-l-init
loop-l-init c = search outlets_none

pub loop-l-preserved : goal.loop-l-preserved
loop-l-preserved c = elim c.if-self-x.branch [ then-self-x w ↦ search outlets_more | else-self-x w ↦ search outlets_same ]
