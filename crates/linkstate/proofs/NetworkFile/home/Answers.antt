use Rattle.linkstate.proofs.Homes.{homes}
use Rattle.linkstate.proofs.NetworkFile.home.Goals as goal

pub returns-then-at-home_records : goal.returns-then-at-home_records
returns-then-at-home_records c = search homes

pub returns : goal.returns
returns c = search homes
