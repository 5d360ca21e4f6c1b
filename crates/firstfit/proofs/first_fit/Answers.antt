use Rattle.firstfit.proofs.Placing.{placed_all, placed_part, placing_more, placing_none, tried_more, tried_none}
use borrow.Author.Rules.{rules}
use Rattle.firstfit.proofs.first_fit.Goals as goal

pub build-init : goal.build-init
build-init c = (search rules, search placing_none, search rules)

pub loop-i-init : goal.loop-i-init
loop-i-init c = search tried_none

pub loop-i-preserved : goal.loop-i-preserved
loop-i-preserved c = search tried_more

pub build-preserved : goal.build-preserved
build-preserved c = (search rules, search placing_more, search rules)

pub returns-after-build : goal.returns-after-build
returns-after-build c = search placed_all

pub returns-then-i-cap : goal.returns-then-i-cap
returns-then-i-cap c = search placed_part
