use Rattle.std.proofs.Common.{◌≡◌, ℕ, ◌+◌, ◌-◌, ◌<◌, List, length, ap, ◌∙◌, subst, sym, arith}
use Rattle.graph.specs.Arcs.{head_of, tail_of, weight_of}
use Rattle.graph.specs.declared.arc.Arc.{Arc}
use Rattle.routing.specs.Entries.{pot, state_at}
use Rattle.routing.specs.declared.state.State.TheVariants.{LeftOut}
use Rattle.graph.specs.Graphs.{arc_list}
use Rattle.routing.specs.Settle.{Offered}
use Rattle.routing.specs.Views.{net_of}
use Rattle.routing.proofs.Settles.{forth, backs, forth_not, back_not, out_not, passes}
use Rattle.routing.proofs.Fronts.{goes_on}
use Rattle.routing.proofs.residual.Residual.relax.Goals as goal

pub offer-requires : goal.offer-requires
offer-requires c =
    let xs = c.args.heap.now.items.now in
    let l : head_of c.arcs.result.now c.args.e < length xs = omega (arith, c.args.self.fit.heads c.args.e c.requires.within, ap (λ (a : List Arc). head_of a c.args.e) c.arcs.ensures.arcs) in
    (omega (arith, c.requires.here.linked), c.requires.searching.settled.once (head_of c.arcs.result.now c.args.e) l)

pub offer-requires-then-arc-at-2 : goal.offer-requires-then-arc-at-2
offer-requires-then-arc-at-2 c =
    let xs = c.args.heap.now.items.now in
    let l : tail_of c.arcs.result.now c.args.e < length xs = omega (arith, c.args.self.fit.tails c.args.e c.requires.within, ap (λ (a : List Arc). tail_of a c.args.e) c.arcs.ensures.arcs) in
    (omega (arith, c.requires.here.linked), c.requires.searching.settled.once (tail_of c.arcs.result.now c.args.e) l)

pub returns-in-LeftOut-clause-settles : goal.returns-in-LeftOut-clause-settles
returns-in-LeftOut-clause-settles c s done S =
    let k : state_at c.args.self.states.now c.args.e ≡ LeftOut = c.in-LeftOut.is in
    passes S c.requires.here.stands (out_not c.args.self.fit c.args.at.far c.requires.within (λ q. cc) (λ q. cc))

pub returns-then-arc-at-clause-settles : goal.returns-then-arc-at-clause-settles
returns-then-arc-at-clause-settles c s done S =
    let r = c.args.self in
    let net = net_of r.graph.now in
    let here = c.requires.here in
    let e = c.args.e in
    let to : List Arc → ℕ = λ a. c.args.at.far + (weight_of a e + pot r.pots.now (tail_of a e) - pot r.pots.now (head_of a e)) in
    let o : Offered c.args.heap.now.items.now c.args.preds.now c.args.heap.now.len (net.head e) (to (arc_list r.graph.now)) e c.offer.new.heap.items.now c.offer.new.preds =
    subst (λ (a : List Arc). Offered c.args.heap.now.items.now c.args.preds.now c.args.heap.now.len (head_of a e) (to a) e c.offer.new.heap.items.now c.offer.new.preds) c.arcs.ensures.arcs
    (let h = c.offer.ensures.offered in rw (c.from.ensures, c.from-2.ensures) at h) in
    let leaves : net.tail e ≡ c.args.at.node = sym (ap (λ (a : List Arc). tail_of a e) c.arcs.ensures.arcs) ∙ c.if-arc-at.true in
    goes_on S here c.offer.ensures.onward (forth r.fit c.args.at.far c.requires.within c.in-Free.is leaves here.stands.of) o

pub returns-else-arc-at-clause-settles : goal.returns-else-arc-at-clause-settles
returns-else-arc-at-clause-settles c s done S =
    passes S c.requires.here.stands
    (forth_not c.args.self.fit c.args.at.far c.requires.within c.in-Free.is (λ r. c.if-arc-at.false (ap (λ (a : List Arc). tail_of a c.args.e) c.arcs.ensures.arcs ∙ r)) c.requires.here.stands.of)

pub returns-then-arc-at-2-clause-settles : goal.returns-then-arc-at-2-clause-settles
returns-then-arc-at-2-clause-settles c s done S =
    let r = c.args.self in
    let net = net_of r.graph.now in
    let here = c.requires.here in
    let e = c.args.e in
    let to : List Arc → ℕ = λ a. c.args.at.far + (pot r.pots.now (head_of a e) - pot r.pots.now (tail_of a e) - weight_of a e) in
    let o : Offered c.args.heap.now.items.now c.args.preds.now c.args.heap.now.len (net.tail e) (to (arc_list r.graph.now)) e c.offer-then-arc-at-2.new.heap.items.now c.offer-then-arc-at-2.new.preds =
    subst (λ (a : List Arc). Offered c.args.heap.now.items.now c.args.preds.now c.args.heap.now.len (tail_of a e) (to a) e c.offer-then-arc-at-2.new.heap.items.now c.offer-then-arc-at-2.new.preds) c.arcs.ensures.arcs
    (let h = c.offer-then-arc-at-2.ensures.offered in rw (c.from.ensures, c.from-2.ensures) at h) in
    let enters : net.head e ≡ c.args.at.node = sym (ap (λ (a : List Arc). head_of a e) c.arcs.ensures.arcs) ∙ c.if-arc-at-2.true in
    goes_on S here c.offer-then-arc-at-2.ensures.onward (backs r.fit c.args.at.far c.requires.within c.in-Chosen.is enters here.stands.of) o

pub returns-else-arc-at-2-clause-settles : goal.returns-else-arc-at-2-clause-settles
returns-else-arc-at-2-clause-settles c s done S =
    passes S c.requires.here.stands
    (back_not c.args.self.fit c.args.at.far c.requires.within c.in-Chosen.is (λ r. c.if-arc-at-2.false (ap (λ (a : List Arc). head_of a c.args.e) c.arcs.ensures.arcs ∙ r)) c.requires.here.stands.of)
