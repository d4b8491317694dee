use Rattle.std.proofs.Common.{ℕ, ◌<◌, ◌≤◌, List, [], ◌∷◌, ◌++◌, length, set, sym, ap, ◌∙◌, subst, arith, rules, length-set}
use Rattle.std.proofs.lemmas.List.{length_push}
use Rattle.graph.specs.Arcs.{head_of, weight_of}
use Rattle.graph.specs.declared.arc.Arc.{Arc}
use Rattle.paths.specs.Pairs.{cost as cost_of}
use Rattle.paths.proofs.Sums.{sum-append}
use Rattle.routing.specs.declared.state.State.TheVariants.{Free}
use Rattle.routing.specs.Found.{links_of}
use Rattle.routing.specs.Taking.{Taken}
use Rattle.routing.specs.Views.{net_of}
use Rattle.routing.proofs.Takes.{still_leading, taken_none, taking_room, takes}
use Rattle.routing.proofs.flow.Flow.take_path.Goals as goal

pub loop-node-init : goal.loop-node-init
loop-node-init c =
    let s = c.args.self.now in (
      subst (λ (p : List ℕ). Taken (net_of s.task.graph.now) s.states s.task.source p s.task.source s.states) (sym c.empty-path.ensures.links) (taken_none (net_of s.task.graph.now) s.states s.task.source),
      λ n l h. l,
      ap (cost_of (net_of s.task.graph.now)) (sym c.empty-path.ensures.links),
      omega arith,
      search rules,
      ap (λ (p : List ℕ). length p) c.empty-path.ensures.links ∙ sym c.empty-path.ensures.none,
    )

pub leaving-e-requires-clause-leading : goal.leaving-e-requires-clause-leading
leaving-e-requires-clause-leading c =
    let s = c.args.self.now in
    (c.loop-node-test.true, still_leading (net_of s.task.graph.now) s.states s.task.source s.task.target (links_of c.loop-node.path) c.loop-node.node c.loop-node.states c.loop-node.invariant.0 c.requires.leading)

pub push-requires : goal.push-requires
push-requires c =
    let s = c.args.self.now in
    let E = c.leaving-e.ensures in
    let p = c.loop-node.path in
    omega (
      arith,
      taking_room (net_of s.task.graph.now) s.states s.pots.now s.task.source (links_of p) c.loop-node.node c.loop-node.states c.loop-node.invariant.0 c.requires.rising
          (omega (arith, s.task.source_inside, s.pots_long)) c.leaving-e.result E.within E.chosen E.leaves,
      s.pots_long,
      c.loop-node.invariant.5,
      c.arcs-arcs.ensures.within.nodes,
    )

pub loop-node-preserved : goal.loop-node-preserved
loop-node-preserved c =
    let s = c.args.self.now in
    let net = net_of s.task.graph.now in
    let e = c.leaving-e.result in
    let ls = links_of c.loop-node.path in
    let inv = c.loop-node.invariant in
    let E = c.leaving-e.ensures in
    let all = c.arcs-arcs.ensures.arcs in
    let more = c.push.ensures.links in
    let room : net.size ≤ length c.loop-node.states = omega (arith, c.arcs-arcs.ensures.within.few, inv.4, ap (λ (a : List Arc). length a) all) in
    let T : Taken net s.states s.task.source (ls ++ (e ∷ [])) (net.head e) (set c.loop-node.states e Free) =
    takes net s.states s.task.source ls c.loop-node.node c.loop-node.states inv.0 e E.within room E.chosen E.leaves in (
      subst (λ (a : List Arc). Taken net s.states s.task.source (links_of c.push.new.self) (head_of a e) (set c.loop-node.states e Free)) (sym all)
          (subst (λ (q : List ℕ). Taken net s.states s.task.source q (net.head e) (set c.loop-node.states e Free)) (sym more) T),
      λ n l h. subst (λ (a : List Arc). head_of a e < n) (sym all) (h e E.within),
      omega (arith, inv.2, ap (λ (a : List Arc). weight_of a e) all, ap (cost_of net) more, sum-append net.weight ls (e ∷ [])),
      omega (arith, inv.3, ap (λ (a : List Arc). weight_of a e) all, c.arcs-arcs.ensures.within.light e (omega (arith, E.within, ap (λ (a : List Arc). length a) all)), c.push.ensures.longer),
      length-set c.loop-node.states e Free ∙ inv.4,
      omega (arith, inv.5, ap (λ (p : List ℕ). length p) more, length_push ls e, c.push.ensures.longer),
    )
