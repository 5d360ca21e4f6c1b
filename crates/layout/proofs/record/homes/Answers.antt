use Rattle.slices.proofs.Stores.{storing_none}
use Rattle.layout.proofs.record.homes.Goals as goal

pub loop-v-init : goal.loop-v-init
loop-v-init c = search storing_none
