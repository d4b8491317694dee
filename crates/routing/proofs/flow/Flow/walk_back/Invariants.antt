use Rattle.std.proofs.Common.{◌≡◌, ◌-◌, length}
use Rattle.routing.specs.Entries.{place}
use Rattle.routing.specs.Back.{Walking}
use Rattle.routing.specs.Views.{net_of}
use Rattle.routing.proofs.flow.Flow.walk_back.Given as goal

abbrev pub invariant-loop-node : goal.invariant-loop-node
invariant-loop-node l =
    Walking (net_of l.fn.self.task.graph.now) l.fn.self.states l.fn.self.pots.now l.entries l.rest l.fn.self.task.target l.states l.node
    × (length l.states ≡ 128)

abbrev pub decreases-loop-node : goal.decreases-loop-node
decreases-loop-node l = length l.entries - place l.entries l.node
