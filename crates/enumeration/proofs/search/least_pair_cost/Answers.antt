use Rattle.std.proofs.Common.{arith}
use Rattle.enumeration.proofs.Whole.{pair_cost}
use Rattle.enumeration.proofs.search.least_pair_cost.Goals as goal

pub returns : goal.returns
returns c =
    pair_cost c.args.network.now c.args.source c.args.target (omega arith) (omega arith) c.if-source-target.false c.links.ensures.sound
    c.flags.result c.args.usable.now c.flags.ensures c.links.result.now c.links.ensures.value c.begin.result c.begin.ensures
    c.least_cost.result c.least_cost.ensures
