use Rattle.rules.specs.Limits.{home_place}
use Rattle.slices.proofs.Stores.{Storing}
use Rattle.layout.specs.Records.{home_of}
use Rattle.layout.proofs.record.homes.Given as goal

abbrev pub invariant-loop-v : goal.invariant-loop-v
invariant-loop-v l = Storing l.initial.file l.file (home_place l.net 0) (home_of l.homes) l.v l.count
