use Rattle.slices.proofs.Stores.{storing_none}
use Rattle.filling.proofs.Source.put_rows.Goals as goal

pub loop-j-init : goal.loop-j-init
loop-j-init c = search storing_none
