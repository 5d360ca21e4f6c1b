use Rattle.travel.proofs.Trips.{travelling}
use Rattle.travel.proofs.first_kind.Goals as goal

pub returns-in-Unchanged : goal.returns-in-Unchanged
returns-in-Unchanged c = search travelling

pub returns-in_default : goal.returns-in_default
returns-in_default c = search travelling
