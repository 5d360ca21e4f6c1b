use Rattle.firstfit.proofs.Placing.{admits_at}
use Rattle.firstfit.proofs.admits.Goals as goal

pub returns : goal.returns
returns c = search admits_at
