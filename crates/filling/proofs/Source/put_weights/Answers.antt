use Rattle.slices.proofs.Stores.{storing_none}
use Rattle.filling.proofs.Source.put_weights.Goals as goal

pub loop-l-init : goal.loop-l-init
loop-l-init c = search storing_none
