use Rattle.topologyrules.proofs.Laws.{entered_at}
use Rattle.topologyrules.proofs.enter.Goals as goal

pub returns : goal.returns
returns c = search entered_at
