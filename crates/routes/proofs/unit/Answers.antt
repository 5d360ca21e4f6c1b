use Rattle.routes.proofs.Lanes.{unit_is}
use Rattle.routes.proofs.unit.Goals as goal

pub returns : goal.returns
returns c = search unit_is
