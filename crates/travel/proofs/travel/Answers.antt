use Rattle.travel.proofs.Trips.{travelling}
use Rattle.travel.proofs.travel.Goals as goal

pub go_on-requires : goal.go_on-requires
go_on-requires c = search travelling

pub returns : goal.returns
returns c = search travelling
