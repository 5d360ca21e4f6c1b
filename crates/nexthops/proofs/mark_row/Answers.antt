use Rattle.nexthops.proofs.Ties.{mark_more, mark_none}
use Rattle.nexthops.proofs.mark_row.Goals as goal

pub loop-t-init : goal.loop-t-init
loop-t-init c = search mark_none

pub loop-t-preserved : goal.loop-t-preserved
loop-t-preserved c = search mark_more
