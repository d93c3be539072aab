-- `cheapest_nodes::node::Node::decide` meets its contract.
use Rattle.std.proofs.Common.{arith}
use Rattle.bits.proofs.Decide.{decides_true}
use Rattle.cheapest_nodes.proofs.Planning.{cut_bound, sufficient_thinned, done_next, lost_next, split_next, branch_next}
use Rattle.cheapest_nodes.proofs.node.Node.decide.Goals as goal

pub overflow_add-cost : goal.overflow_add-cost
overflow_add-cost c = omega (arith, c.args.self.now.cost_small, c.bound.ensures.small)

pub returns-then-limit-cost : goal.returns-then-limit-cost
returns-then-limit-cost c = cut_bound _ _ _ _ _ _ _ c.args.self.now.cost_is c.bound.ensures c.if-limit-cost.true

pub overflow_sub-limit : goal.overflow_sub-limit
overflow_sub-limit c = omega (arith, c.if-limit-cost.false)

pub returns-then-divides : goal.returns-then-divides
returns-then-divides c =
    split_next _ _ _ _ _ _ _ (sufficient_thinned _ _ _ _ c.requires _ _ _ _ c.args.self.now.cost_is c.affordable-kept.ensures c.thin-useful.ensures) _ _
    c.component-part.ensures c.minus-other.ensures (decides_true _ _ c.divides.ensures c.if-divides.true)

pub returns-in-Done : goal.returns-in-Done
returns-in-Done c =
    done_next _ _ _ _ _ _ _ _ _ c.in-Done.is c.choose.ensures c.if-limit-cost.false

pub returns-in-Lost : goal.returns-in-Lost
returns-in-Lost c =
    lost_next _ _ _ _ _ _ _ (sufficient_thinned _ _ _ _ c.requires _ _ _ _ c.args.self.now.cost_is c.affordable-kept.ensures c.thin-useful.ensures) _
    c.in-Lost.is c.choose.ensures

pub returns-else-divides : goal.returns-else-divides
returns-else-divides c =
    branch_next _ _ _ _ _ _ _ (sufficient_thinned _ _ _ _ c.requires _ _ _ _ c.args.self.now.cost_is c.affordable-kept.ensures c.thin-useful.ensures) _ _
    c.in-Try.is c.choose.ensures
