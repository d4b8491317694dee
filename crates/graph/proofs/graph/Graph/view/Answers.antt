use Rattle.std.proofs.Common.{length}
use Rattle.graph.specs.Arcs.{head_of, tail_of}
use Rattle.graph.specs.Graphs.{arc_list}
use Rattle.graph.proofs.Listings.{indexed_from_lists}
use Rattle.graph.proofs.graph.Graph.view.Goals as goal

pub returns-clause-leaving : goal.returns-clause-leaving
returns-clause-leaving c =
    let g = c.args.self.now in
    let arcs = arc_list g in
    rw (c.deref.ensures.value, c.sorted-leaving.ensures.first, c.sorted-leaving.ensures.order) (indexed_from_lists (tail_of arcs) (length arcs) g.nodes _ _ g.by_tail (λ e h. (g.sound e h).0))

pub returns-clause-entering : goal.returns-clause-entering
returns-clause-entering c =
    let g = c.args.self.now in
    let arcs = arc_list g in
    rw (c.deref.ensures.value, c.sorted-entering.ensures.first, c.sorted-entering.ensures.order) (indexed_from_lists (head_of arcs) (length arcs) g.nodes _ _ g.by_head (λ e h. (g.sound e h).1))
