use Rattle.alternates.proofs.Neighbours.{least_more, least_none, least_same}
use Rattle.alternates.proofs.Outlets.least_distance.Goals as goal
use Rattle.alternates.proofs.Outlets.least_distance.Goals.{then-stands_in, else-stands_in}

pub loop-w-init : goal.loop-w-init
loop-w-init c = search least_none

pub loop-w-preserved : goal.loop-w-preserved
loop-w-preserved c = elim c.if-stands_in.branch [ then-stands_in w ↦ search least_more | else-stands_in w ↦ search least_same ]
