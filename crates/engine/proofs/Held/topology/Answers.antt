use Rattle.engine.proofs.One.{added, ready_homed, ready_wired}
use Rattle.engine.proofs.Held.topology.Goals as goal

pub hop_table-requires-clause-wired : goal.hop_table-requires-clause-wired
hop_table-requires-clause-wired c = search ready_wired

pub fill-requires-clause-homed : goal.fill-requires-clause-homed
fill-requires-clause-homed c = search ready_homed

pub returns : goal.returns
returns c = search added
