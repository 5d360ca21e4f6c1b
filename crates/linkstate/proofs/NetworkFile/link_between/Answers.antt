use Rattle.linkstate.proofs.Graph.{graph}
use Rattle.linkstate.proofs.NetworkFile.link_between.Goals as goal

pub loop-l-init : goal.loop-l-init
loop-l-init c = search graph

pub returns-then-joins : goal.returns-then-joins
returns-then-joins c = search graph

pub loop-l-preserved : goal.loop-l-preserved
loop-l-preserved c = search graph

pub returns : goal.returns
returns c = search graph
