use Rattle.nexthops.proofs.Ties.{table_is}
use Rattle.nexthops.proofs.hop_table.Goals as goal

pub returns : goal.returns
returns c = search table_is
