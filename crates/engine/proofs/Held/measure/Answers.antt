use Rattle.engine.proofs.One.{measure_wired, measured}
use Rattle.engine.proofs.Held.measure.Goals as goal

pub distances-requires : goal.distances-requires
distances-requires c = search measure_wired

pub returns : goal.returns
returns c = search measured
