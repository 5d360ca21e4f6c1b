use Rattle.routes.proofs.Lanes.{lanes_more, lanes_none, old_low, sum_low}
use Rattle.routes.proofs.lower_lanes.Goals as goal

pub loop-t-init : goal.loop-t-init
loop-t-init c = search lanes_none

pub lesser-requires : goal.lesser-requires
lesser-requires c = (search old_low, search sum_low)

pub loop-t-preserved : goal.loop-t-preserved
loop-t-preserved c = search lanes_more
