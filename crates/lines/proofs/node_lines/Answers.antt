use Rattle.lines.proofs.Wholes.{wholes}
use Rattle.lines.proofs.node_lines.Goals as goal

pub loop-t-init : goal.loop-t-init
loop-t-init c = search wholes

pub loop-t-preserved : goal.loop-t-preserved
loop-t-preserved c = search wholes

pub returns : goal.returns
returns c = search wholes
