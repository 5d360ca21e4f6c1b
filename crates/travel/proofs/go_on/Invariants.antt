use Prim.Native.Nat.{◌-◌}
use Rattle.travel.proofs.Trips.{Travelling}
use Rattle.travel.proofs.go_on.Given as goal

abbrev pub invariant-loop-q : goal.invariant-loop-q
invariant-loop-q l = Travelling l.situation.routed.file.bytes.now l.situation.routed.tables.now l.situation.failure l.initial.p l.most l.initial.trail l.p l.hops l.kind l.trail

abbrev pub decreases-loop-q : goal.decreases-loop-q
decreases-loop-q l = l.most - l.hops
