use Rattle.judgement.proofs.InTurn.{links_none, links_more}
use Rattle.judgement.proofs.Counted.links.Goals as goal

pub loop-l-init : goal.loop-l-init
loop-l-init c = links_none _ _

pub loop-l-preserved : goal.loop-l-preserved
loop-l-preserved c = search (links_more, c.in_ok-at.ensures)
