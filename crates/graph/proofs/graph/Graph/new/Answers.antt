use Rattle.graph.specs.Arcs.{Within}
use Rattle.graph.proofs.Graphs.{sound_from_within}
use Rattle.graph.proofs.graph.Graph.new.Goals as goal

pub invariant_of-result-clause-sound : goal.invariant_of-result-clause-sound
invariant_of-result-clause-sound c =
    let n = c.args.nodes in
    let arcs = c.args.arcs.items in
    let within : Within n arcs = rw c.deref.ensures.value at c.if-not-within_limits.ensures in
    sound_from_within n arcs within

pub invariant_of-result-clause-by_tail : goal.invariant_of-result-clause-by_tail
invariant_of-result-clause-by_tail c = rw c.deref-2.ensures.value at c.in_ok-leaving.ensures

pub invariant_of-result-clause-by_head : goal.invariant_of-result-clause-by_head
invariant_of-result-clause-by_head c = rw c.deref-3.ensures.value at c.in_ok-entering.ensures
