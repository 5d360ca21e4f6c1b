use Rattle.routes.proofs.Costs.{row_backup, row_links}
use Rattle.routes.proofs.row_in_force.Goals as goal

pub returns-then-i-eq0 : goal.returns-then-i-eq0
returns-then-i-eq0 c = search row_links

pub returns : goal.returns
returns c = search row_backup
