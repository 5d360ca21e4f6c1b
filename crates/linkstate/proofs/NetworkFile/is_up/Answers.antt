use Rattle.linkstate.proofs.Graph.{graph}
use Rattle.linkstate.proofs.NetworkFile.is_up.Goals as goal

pub returns-in-Nothing : goal.returns-in-Nothing
returns-in-Nothing c = search graph

pub returns-in-Link : goal.returns-in-Link
returns-in-Link c = search graph

pub returns-then-v-u : goal.returns-then-v-u
returns-then-v-u c = search graph

pub returns-else-v-u : goal.returns-else-v-u
returns-else-v-u c = search graph
