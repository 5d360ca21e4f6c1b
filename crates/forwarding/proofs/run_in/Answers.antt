use Rattle.forwarding.proofs.Running.{running}
use Rattle.forwarding.proofs.run_in.Goals as goal

pub slice_bounds-fill-end : goal.slice_bounds-fill-end
slice_bounds-fill-end c = search running

pub slice_bounds-fill-end-2 : goal.slice_bounds-fill-end-2
slice_bounds-fill-end-2 c = search running

pub fill-requires-clause-file_value : goal.fill-requires-clause-file_value
fill-requires-clause-file_value c = search running

pub fill-requires-clause-out_len : goal.fill-requires-clause-out_len
fill-requires-clause-out_len c = search running

pub most_hops-requires : goal.most_hops-requires
most_hops-requires c = (search running, search running)

pub travel_by-requires-clause-accepted : goal.travel_by-requires-clause-accepted
travel_by-requires-clause-accepted c = search running

pub travel_by-requires-clause-most_in_bounds : goal.travel_by-requires-clause-most_in_bounds
travel_by-requires-clause-most_in_bounds c = search running

pub returns : goal.returns
returns c = search running
