use Rattle.writer.proofs.Verdicts.{Own-room}
use Rattle.writer.proofs.in_own_room.Goals as goal

pub slice_bounds-room-end : goal.slice_bounds-room-end
slice_bounds-room-end c = search Own-room

pub slice_bounds-laid-end : goal.slice_bounds-laid-end
slice_bounds-laid-end c = search Own-room

pub laid-requires : goal.laid-requires
laid-requires c = search Own-room
