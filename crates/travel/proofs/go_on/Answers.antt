use Rattle.travel.proofs.Trips.{travelling}
use Rattle.travel.proofs.go_on.Goals as goal

pub loop-q-init : goal.loop-q-init
loop-q-init c = search travelling

pub returns-in-Delivered : goal.returns-in-Delivered
returns-in-Delivered c = search travelling

pub returns-in-Dropped : goal.returns-in-Dropped
returns-in-Dropped c = search travelling

pub returns-then-most-hops : goal.returns-then-most-hops
returns-then-most-hops c = search travelling

pub loop-q-smaller : goal.loop-q-smaller
loop-q-smaller c = search travelling

pub loop-q-preserved : goal.loop-q-preserved
loop-q-preserved c = search travelling
