use Rattle.std.proofs.Common.{◌∙◌, arith}
use Rattle.network.specs.Networks.{link_list, node_count}
use Rattle.pair_costs.proofs.Costs.{in_rows, one_more}
use Rattle.pair_costs.proofs.fill.Goals as goal

pub loop-k-preserved : goal.loop-k-preserved
loop-k-preserved c =
    let net = c.args.network.now in
    one_more (node_count net) (link_list net) c.loop-k.costs c.loop-k.k c.from-nodes.result c.cost_between.result (omega arith) (c.from-nodes.ensures ∙ c.nodes.ensures.value)
    c.loop-k.invariant c.cost_between.ensures

pub returns : goal.returns
returns c =
    let net = c.args.network.now in
    in_rows (node_count net) (link_list net) c.loop-k.costs (λ k l. c.loop-k.invariant k (omega (arith, c.loop-k-test.false, c.requires)))
