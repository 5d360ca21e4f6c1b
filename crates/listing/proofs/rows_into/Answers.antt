use Rattle.listing.proofs.Laying.{rows_none}
use Rattle.listing.proofs.rows_into.Goals as goal

pub loop-j-init : goal.loop-j-init
loop-j-init c = search rows_none
