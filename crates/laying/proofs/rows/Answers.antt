use Rattle.slices.proofs.Stores.{storing_none}
use Rattle.laying.proofs.rows.Goals as goal

pub loop-j-init : goal.loop-j-init
loop-j-init c = search storing_none
