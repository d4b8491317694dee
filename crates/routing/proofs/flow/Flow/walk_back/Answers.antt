use Rattle.std.proofs.Common.{◌-◌, ◌<◌, ◌≤◌, List, length, get_or, set, refl, ap, sym, ◌∙◌, subst, arith, rules, length-set}
use Rattle.graph.specs.Arcs.{head_of, tail_of}
use Rattle.graph.specs.declared.arc.Arc.{Arc}
use Rattle.routing.specs.declared.state.State.TheVariants.{Free, Chosen}
use Rattle.routing.specs.Entries.{place}
use Rattle.routing.specs.Back.{Walking}
use Rattle.routing.specs.Views.{net_of}
use Rattle.routing.proofs.Back.{walk_starts, walk_ends, link_back, used_to, used_step, free_to, free_step, closer}
use Rattle.routing.proofs.flow.Flow.walk_back.Goals as goal

pub loop-node-init : goal.loop-node-init
loop-node-init c =
    let s = c.args.self.now in (
      walk_starts (net_of s.task.graph.now) s.states s.pots.now c.args.preds.now s.task.source s.task.target c.args.entries.now c.args.rest c.requires.chain c.requires.certified c.requires.target.0 c.requires.target.1,
      search rules,
    )

pub bounds : goal.bounds
bounds c =
    let k = link_back c.requires.chain c.loop-node.invariant.0 c.loop-node-test.true in
    rw c.from.ensures (omega (arith, k.within, c.arcs-arcs.ensures.within.few, ap (λ (a : List Arc). length a) c.arcs-arcs.ensures.arcs))

pub bounds-arcs-e : goal.bounds-arcs-e
bounds-arcs-e c =
    let k = link_back c.requires.chain c.loop-node.invariant.0 c.loop-node-test.true in
    rw c.from.ensures (omega (arith, k.within, ap (λ (a : List Arc). length a) c.arcs-arcs.ensures.arcs))

pub loop-node-smaller-in-Chosen : goal.loop-node-smaller-in-Chosen
loop-node-smaller-in-Chosen c =
    let s = c.args.self.now in
    let net = net_of s.task.graph.now in
    let xs = c.args.entries.now in
    let e = get_or c.args.preds.now c.loop-node.node 0 in
    let room : net.size ≤ length c.loop-node.states = omega (arith, c.arcs-arcs.ensures.within.few, c.loop-node.invariant.1, ap (λ (a : List Arc). length a) c.arcs-arcs.ensures.arcs) in
    rw c.from.ensures
    (subst (λ (a : List Arc). length xs - place xs (head_of a e) < length xs - place xs c.loop-node.node) (sym c.arcs-arcs.ensures.arcs)
    (closer c.requires.chain c.loop-node.invariant.0 c.loop-node-test.true Free (net.head e) room refl
    (used_to c.requires.chain c.loop-node.invariant.0 c.loop-node-test.true room (let chosen = c.in-Chosen.is in rw c.from.ensures at chosen))))

pub loop-node-preserved-in-Chosen : goal.loop-node-preserved-in-Chosen
loop-node-preserved-in-Chosen c =
    let s = c.args.self.now in
    let net = net_of s.task.graph.now in
    let e = get_or c.args.preds.now c.loop-node.node 0 in
    let room : net.size ≤ length c.loop-node.states = omega (arith, c.arcs-arcs.ensures.within.few, c.loop-node.invariant.1, ap (λ (a : List Arc). length a) c.arcs-arcs.ensures.arcs) in
    rw c.from.ensures (
      subst (λ (a : List Arc). Walking net s.states s.pots.now c.args.entries.now c.args.rest s.task.target (set c.loop-node.states e Free) (head_of a e)) (sym c.arcs-arcs.ensures.arcs)
          (used_step c.requires.chain c.loop-node.invariant.0 c.loop-node-test.true room (let chosen = c.in-Chosen.is in rw c.from.ensures at chosen)),
      length-set c.loop-node.states e Free ∙ c.loop-node.invariant.1,
    )

pub bounds-states-e-in_default : goal.bounds-states-e-in_default
bounds-states-e-in_default c =
    let k = link_back c.requires.chain c.loop-node.invariant.0 c.loop-node-test.true in
    rw c.from.ensures (omega (arith, k.within, c.arcs-arcs.ensures.within.few, ap (λ (a : List Arc). length a) c.arcs-arcs.ensures.arcs))

pub bounds-arcs-e-in_default : goal.bounds-arcs-e-in_default
bounds-arcs-e-in_default c =
    let k = link_back c.requires.chain c.loop-node.invariant.0 c.loop-node-test.true in
    rw c.from.ensures (omega (arith, k.within, ap (λ (a : List Arc). length a) c.arcs-arcs.ensures.arcs))

pub loop-node-smaller : goal.loop-node-smaller
loop-node-smaller c =
    let s = c.args.self.now in
    let net = net_of s.task.graph.now in
    let xs = c.args.entries.now in
    let e = get_or c.args.preds.now c.loop-node.node 0 in
    let room : net.size ≤ length c.loop-node.states = omega (arith, c.arcs-arcs.ensures.within.few, c.loop-node.invariant.1, ap (λ (a : List Arc). length a) c.arcs-arcs.ensures.arcs) in
    rw c.from.ensures
    (subst (λ (a : List Arc). length xs - place xs (tail_of a e) < length xs - place xs c.loop-node.node) (sym c.arcs-arcs.ensures.arcs)
    (closer c.requires.chain c.loop-node.invariant.0 c.loop-node-test.true Chosen (net.tail e) room refl
    (free_to c.requires.chain c.loop-node.invariant.0 c.loop-node-test.true room (let not = c.in_default.not-Chosen in rw c.from.ensures at not))))

pub loop-node-preserved : goal.loop-node-preserved
loop-node-preserved c =
    let s = c.args.self.now in
    let net = net_of s.task.graph.now in
    let e = get_or c.args.preds.now c.loop-node.node 0 in
    let room : net.size ≤ length c.loop-node.states = omega (arith, c.arcs-arcs.ensures.within.few, c.loop-node.invariant.1, ap (λ (a : List Arc). length a) c.arcs-arcs.ensures.arcs) in
    rw c.from.ensures (
      subst (λ (a : List Arc). Walking net s.states s.pots.now c.args.entries.now c.args.rest s.task.target (set c.loop-node.states e Chosen) (tail_of a e)) (sym c.arcs-arcs.ensures.arcs)
          (free_step c.requires.chain c.loop-node.invariant.0 c.loop-node-test.true room (let not = c.in_default.not-Chosen in rw c.from.ensures at not)),
      length-set c.loop-node.states e Chosen ∙ c.loop-node.invariant.1,
    )

pub returns-clause-walked : goal.returns-clause-walked
returns-clause-walked c =
    let s = c.args.self.now in
    walk_ends (net_of s.task.graph.now) s.states s.pots.now s.task.source s.task.target c.args.entries.now c.args.rest c.loop-node.states c.loop-node.node c.loop-node.invariant.0 c.loop-node-test.false
