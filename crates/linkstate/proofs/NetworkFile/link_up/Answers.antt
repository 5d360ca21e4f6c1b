use Rattle.linkstate.proofs.Graph.{graph}
use Rattle.linkstate.proofs.NetworkFile.link_up.Goals as goal

pub returns-then-l-self : goal.returns-then-l-self
returns-then-l-self c = search graph

pub returns : goal.returns
returns c = search graph
