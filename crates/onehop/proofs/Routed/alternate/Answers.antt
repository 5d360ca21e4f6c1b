use Rattle.onehop.proofs.Hops.{hop}
use Rattle.onehop.proofs.Routed.alternate.Goals as goal

pub returns : goal.returns
returns c = search hop
