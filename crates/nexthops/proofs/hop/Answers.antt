use Rattle.nexthops.proofs.Ties.{hop_first, hop_self}
use Rattle.nexthops.proofs.hop.Goals as goal

pub returns-then-u-t : goal.returns-then-u-t
returns-then-u-t c = search hop_self

pub returns : goal.returns
returns c = search hop_first
