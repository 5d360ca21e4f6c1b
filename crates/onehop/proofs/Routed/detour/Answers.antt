use Rattle.onehop.proofs.Hops.{hop}
use Rattle.onehop.proofs.Routed.detour.Goals as goal

pub returns-then-w-v : goal.returns-then-w-v
returns-then-w-v c = search hop

pub returns : goal.returns
returns c = search hop
