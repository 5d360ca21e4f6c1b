use Rattle.topologyrules.proofs.Laws.{served_at}
use Rattle.topologyrules.proofs.served.Goals as goal

pub returns : goal.returns
returns c = search served_at
