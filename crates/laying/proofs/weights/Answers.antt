use Rattle.slices.proofs.Stores.{storing_none}
use Rattle.laying.proofs.weights.Goals as goal

pub loop-x-init : goal.loop-x-init
loop-x-init c = search storing_none
