use Rattle.std.proofs.Common.{◌≡◌, map, length, sym, ap, ◌∙◌}
use Rattle.graph.specs.Graphs.{arc_list}
use Rattle.network.specs.Arcs.{arc_of}
use Rattle.network.specs.Networks.{link_list}
use Rattle.routing.specs.Answer.{refusal}
use Rattle.routing.specs.Found.{allowed}
use Rattle.routing.specs.Views.{net_of}
use Rattle.routing.proofs.Networks.{count_same, graph_same, found_answers}
use Rattle.routing.proofs.search.find_pair.Goals as goal

pub returns-clause-answer : goal.returns-clause-answer
returns-clause-answer c =
    let net = c.args.network.now in
    let s = c.args.source in
    let t = c.args.target in
    let w = length c.args.words.now in
    let k = length c.args.entries.now in
    let g = c.graph-graph.result.now in
    let arcs : arc_list g ≡ map arc_of (link_list net) = c.graph-graph.ensures.arcs in
    found_answers net (allowed c.args.usable.now) s t w k (net_of g) c.best_pair-found.result
    (ap (λ n. refusal n (length (link_list net)) s t w k) (sym c.graph-graph.ensures.nodes)
    ∙ ap (λ m. refusal g.nodes m s t w k) (sym (count_same (link_list net) (arc_list g) arcs)) ∙ c.in_ok-check.ensures)
    (graph_same (link_list net) (arc_list g) arcs) c.best_pair-found.ensures
