use Rattle.alternates.proofs.Neighbours.{row_of}
use Rattle.alternates.proofs.Homes.alternates_of.Goals as goal

pub returns : goal.returns
returns c = search row_of
