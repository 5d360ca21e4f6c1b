use Rattle.firstfit.proofs.Placing.{spared_at}
use Rattle.firstfit.proofs.spared.Goals as goal

pub returns : goal.returns
returns c = search spared_at
