use Rattle.onehop.proofs.Hops.{hop}
use Rattle.onehop.proofs.Situation.take.Goals as goal

pub returns-then-p : goal.returns-then-p
returns-then-p c = search hop

pub returns : goal.returns
returns c = search hop
