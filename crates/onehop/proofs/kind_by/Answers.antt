use Rattle.onehop.proofs.Hops.{hop}
use Rattle.onehop.proofs.kind_by.Goals as goal

pub returns-then-destination-v : goal.returns-then-destination-v
returns-then-destination-v c = search hop

pub returns-else-destination-v : goal.returns-else-destination-v
returns-else-destination-v c = search hop
