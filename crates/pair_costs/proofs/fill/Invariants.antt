use Rattle.std.proofs.Common.{ℕ, ◌/◌, ◌%◌, ◌<◌, get_or}
use Rattle.network.specs.Networks.{link_list, node_count}
use Rattle.pair_costs.specs.Table.{CostBetween}
use Rattle.pair_costs.proofs.fill.Given as goal

abbrev pub invariant-loop-k : goal.invariant-loop-k
invariant-loop-k l =
    (k : ℕ) → k < l.k → CostBetween (link_list l.network) (k / node_count l.network) (k % node_count l.network) (get_or l.costs k 0)
