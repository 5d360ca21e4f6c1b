use Rattle.onehop.proofs.Hops.{hop}
use Rattle.onehop.proofs.Situation.toward.Goals as goal

pub returns-then-is_up : goal.returns-then-is_up
returns-then-is_up c = search hop

pub returns : goal.returns
returns c = search hop
