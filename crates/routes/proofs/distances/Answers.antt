use Rattle.routes.proofs.Steps.{distances_made, low_linked}
use Rattle.routes.proofs.distances.Goals as goal

pub settle-requires-clause-low_rows : goal.settle-requires-clause-low_rows
settle-requires-clause-low_rows c = search low_linked

pub returns : goal.returns
returns c = search distances_made
