use Rattle.routes.proofs.Filling.{start_none, start_part}
use Rattle.nexthops.proofs.Ties.{hops_more}
use Rattle.nexthops.proofs.hop_rows.Goals as goal

pub loop-u-init : goal.loop-u-init
loop-u-init c = search start_none

pub loop-u-preserved : goal.loop-u-preserved
loop-u-preserved c = hops_more _ _ _ _ _ _ c.hop_row.ensures (search start_part) c.loop-u.invariant
