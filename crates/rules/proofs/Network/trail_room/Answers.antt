use Rattle.rules.proofs.Ground.Sizes.{sizes}
use Rattle.rules.proofs.Network.trail_room.Goals as goal

pub returns-then-twice-lt2 : goal.returns-then-twice-lt2
returns-then-twice-lt2 c = search sizes

pub returns : goal.returns
returns c = search sizes
