use Rattle.std.proofs.Common.{◌≡◌, true, length}
use Rattle.graph.specs.Graphs.{node_count}
use Rattle.routing.specs.Settle.{Missed, Settled}
use Rattle.routing.specs.Views.{net_of}
use Rattle.routing.proofs.flow.Flow.explore.Given as goal

abbrev pub invariant-loop-key : goal.invariant-loop-key
invariant-loop-key l =
    Settled (net_of l.self.task.graph.now) l.self.states l.self.pots.now l.preds l.self.task.source l.heap.items.now l.heap.len (λ _. true)
    × Missed l.heap.items.now l.heap.len l.self.task.target
    × (length l.heap.items.now ≡ node_count l.self.task.graph.now)
    × (l.heap.items.ghost_name ≡ l.initial.heap.items.ghost_name)

abbrev pub decreases-loop-key : goal.decreases-loop-key
decreases-loop-key l = l.heap.len
