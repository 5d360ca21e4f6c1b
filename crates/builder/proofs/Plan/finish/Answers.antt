use Rattle.builder.proofs.Answers.{links_in, no_room, room, room_there}
use Rattle.builder.proofs.Plan.finish.Goals as goal

pub put_set-requires-clause-links_in : goal.put_set-requires-clause-links_in
put_set-requires-clause-links_in c = search links_in

pub put_set-requires-clause-net_in_bounds : goal.put_set-requires-clause-net_in_bounds
put_set-requires-clause-net_in_bounds c = search (room_there, c.in_ok-need_room.ensures)

pub returns : goal.returns
returns c = search (room, c.in_ok-need_room.ensures)
