use Rattle.alternates.proofs.Neighbours.{word_far, word_more, word_none, word_same}
use Rattle.alternates.proofs.Outlets.nearest.Goals as goal
use Rattle.alternates.proofs.Outlets.nearest.Goals.{then-stands_in+then-row-v, else-stands_in, else-stands_in-via-then-stands_in+else-row-v, else-stands_in-via-else-stands_in}

pub loop-w-init : goal.loop-w-init
loop-w-init c = search word_none

pub loop-w-preserved : goal.loop-w-preserved
loop-w-preserved c =
    elim c.if-stands_in.branch [
      | then-stands_in+then-row-v w ↦ search word_more
      | else-stands_in w ↦ elim w.else-stands_in.branch [ else-stands_in-via-then-stands_in+else-row-v z ↦ search word_far | else-stands_in-via-else-stands_in z ↦ search word_same ]
    ]
