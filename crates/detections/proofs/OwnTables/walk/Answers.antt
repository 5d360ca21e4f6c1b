use Rattle.detections.proofs.Seens.{walks}
use Rattle.detections.proofs.OwnTables.walk.Goals as goal

pub loop-hops-init : goal.loop-hops-init
loop-hops-init c = search walks

pub returns-then-u-t : goal.returns-then-u-t
returns-then-u-t c = search walks

pub loop-hops-preserved : goal.loop-hops-preserved
loop-hops-preserved c = search walks

pub returns : goal.returns
returns c = search walks
