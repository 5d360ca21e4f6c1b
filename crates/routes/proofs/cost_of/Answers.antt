use Rattle.routes.proofs.Costs.{cost_isolated, cost_left, cost_normal, cost_right}
use Rattle.routes.proofs.cost_of.Goals as goal

pub returns-then-q-i : goal.returns-then-q-i
returns-then-q-i c = search cost_isolated

pub returns-then-p-i : goal.returns-then-p-i
returns-then-p-i c = search cost_left

pub returns-then-q-i-2 : goal.returns-then-q-i-2
returns-then-q-i-2 c = search cost_right

pub returns : goal.returns
returns c = search cost_normal
