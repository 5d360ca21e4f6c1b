use Rattle.nexthops.proofs.Ties.{tie_no, tie_yes}
use Rattle.nexthops.proofs.tie.Goals as goal

pub returns-then-v-o : goal.returns-then-v-o
returns-then-v-o c = search tie_yes

pub returns : goal.returns
returns c = search tie_no
