use Rattle.alternates.proofs.Neighbours.{another, not_itself}
use Rattle.alternates.proofs.Outlets.stands_in.Goals as goal

pub returns-then-w-v : goal.returns-then-w-v
returns-then-w-v c = search not_itself

pub returns : goal.returns
returns c = search another
