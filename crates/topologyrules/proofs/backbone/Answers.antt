use Rattle.topologyrules.proofs.Laws.{backbone_at}
use Rattle.topologyrules.proofs.backbone.Goals as goal

pub returns : goal.returns
returns c = search backbone_at
