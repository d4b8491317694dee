use Rattle.std.proofs.Common.{◌+◌, ◌*◌}
use Rattle.routing.specs.Answer.{link_graph}
use Rattle.enumeration.specs.Least.{Least}
use Rattle.enumeration.specs.Walks.{completed_cost, unseen}
use Rattle.enumeration.proofs.Follow.{Before}
use Rattle.enumeration.proofs.search.Search.+least_cost.Given as goal

abbrev pub decreases-least_cost : goal.decreases-least_cost
decreases-least_cost l = unseen l.trail.now.seen + 33 * l.more

abbrev pub invariant-loop-e : goal.invariant-loop-e
invariant-loop-e l =
    let net = link_graph l.self.links.now in
    Least (Before net l.self.source l.self.target l.more l.trail l.e) (completed_cost net) l.best
