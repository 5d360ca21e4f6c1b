use Rattle.linkstate.proofs.Graph.{graph}
use Rattle.linkstate.proofs.NetworkFile.neighbours.Goals as goal

pub returns : goal.returns
returns c = search graph
