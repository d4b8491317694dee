use Rattle.std.proofs.Common.{◌≡◌, ℕ, ◌+◌, ◌*◌, ◌≤◌, List, length, sym, subst, arith}
use Rattle.graph.specs.Graphs.{node_count}
use Rattle.routing.specs.Settle.{Fit}
use Rattle.routing.specs.Back.{Walked}
use Rattle.routing.specs.Entries.{pot}
use Rattle.routing.specs.Views.{net_of}
use Rattle.routing.proofs.Back.{chained, raised_certified, raised_low}
use Rattle.routing.proofs.flow.Flow.round.Goals as goal

pub walk_back-requires-clause-chain : goal.walk_back-requires-clause-chain
walk_back-requires-clause-chain c =
    let f = c.args.self.now in
    let net = net_of f.task.graph.now in
    let xs = c.explore.new.entries in
    let a = c.in_ok-arrival.arrival in
    let all : node_count f.task.graph.now ≡ length xs = omega arith in
    chained net f.states f.pots.now c.raise.new.pots c.explore.new.preds f.task.source f.task.target xs a.rest a.far c.in_ok-arrival.ensures
    (subst (Fit net f.states f.pots.now) all c.requires.fit) c.raise.ensures

pub walk_back-requires-clause-certified : goal.walk_back-requires-clause-certified
walk_back-requires-clause-certified c =
    let f = c.args.self.now in
    let net = net_of f.task.graph.now in
    let xs = c.explore.new.entries in
    let a = c.in_ok-arrival.arrival in
    let all : node_count f.task.graph.now ≡ length xs = omega arith in
    raised_certified net f.states f.pots.now c.raise.new.pots c.explore.new.preds f.task.source f.task.target xs a.rest a.far c.in_ok-arrival.ensures
    (subst (Fit net f.states f.pots.now) all c.requires.fit) c.raise.ensures

pub returns-clause-round : goal.returns-clause-round
returns-clause-round c =
    let f = c.args.self.now in
    let net = net_of f.task.graph.now in
    let xs = c.explore.new.entries in
    let a = c.in_ok-arrival.arrival in
    let all : node_count f.task.graph.now ≡ length xs = omega arith in
    let fit = subst (Fit net f.states f.pots.now) all c.requires.fit in
    let g = c.walk_back.new.self in
    let same = sym c.walk_back.ensures.pots in
    record {
      walked = subst (λ (p : List ℕ). Walked net f.states p g.states f.task.source f.task.target) same c.walk_back.ensures.walked;
      low = λ B b v l. subst (λ (p : List ℕ). pot p v ≤ 2 * B + 2097152) same
          (raised_low net f.states f.pots.now c.raise.new.pots c.explore.new.preds f.task.source f.task.target xs a.rest a.far c.in_ok-arrival.ensures fit c.raise.ensures
          (omega (arith, f.task.source_inside)) (omega (arith, f.task.target_inside)) B (λ w m. b w (omega arith)) v (omega arith));
    }
