use Rattle.std.proofs.Common.{length}
use Rattle.graph.specs.Arcs.{head_of}
use Rattle.graph.specs.Graphs.{arc_list}
use Rattle.graph.proofs.Listings.{run_from_lists}
use Rattle.graph.proofs.graph.Graph.entering.Goals as goal

pub returns : goal.returns
returns c =
    let g = c.args.self.now in
    let arcs = arc_list g in
    let r = run_from_lists (head_of arcs) (length arcs) g.nodes _ _ g.by_head (λ e h. (g.sound e h).1) c.args.node _ c.of.ensures.node c.of.ensures.no_node in
    record { arcs = r.0; lists = r.1 }
