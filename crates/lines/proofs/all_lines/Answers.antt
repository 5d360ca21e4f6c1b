use Rattle.lines.proofs.Wholes.{wholes}
use Rattle.lines.proofs.all_lines.Goals as goal

pub loop-u-init : goal.loop-u-init
loop-u-init c = search wholes

pub node_lines-requires-clause-at_bound : goal.node_lines-requires-clause-at_bound
node_lines-requires-clause-at_bound c = search wholes

pub loop-u-preserved : goal.loop-u-preserved
loop-u-preserved c = search wholes

pub returns : goal.returns
returns c = search wholes
