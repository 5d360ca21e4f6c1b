use Rattle.topologyrules.proofs.Laws.{serve_done, serve_less, serve_more, serve_out, serve_start, served_low}
use Rattle.topologyrules.proofs.all_served.Goals as goal

pub loop-left-init : goal.loop-left-init
loop-left-init c = search serve_start

pub removing-left-requires : goal.removing-left-requires
removing-left-requires c = search served_low

pub loop-left-smaller : goal.loop-left-smaller
loop-left-smaller c = search serve_less

pub loop-left-preserved : goal.loop-left-preserved
loop-left-preserved c = search serve_more

pub returns-then-not-served : goal.returns-then-not-served
returns-then-not-served c = search serve_out

pub returns : goal.returns
returns c = search serve_done
