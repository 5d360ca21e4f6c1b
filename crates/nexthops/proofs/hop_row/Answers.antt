use Rattle.routes.proofs.Filling.{fill_none}
use Rattle.nexthops.proofs.Ties.{lane_more}
use Rattle.nexthops.proofs.hop_row.Goals as goal

pub loop-t-init : goal.loop-t-init
loop-t-init c = search fill_none

pub loop-t-preserved : goal.loop-t-preserved
loop-t-preserved c = search lane_more
