use Rattle.std.proofs.Common.{◌≡◌, ℕ, ◌<◌, List, Bool, length, sym, ap, ◌∙◌, subst, arith}
use Rattle.graph.specs.Graphs.{node_count}
use Rattle.paths.specs.Pairs.{cost as cost_of}
use Rattle.paths.proofs.Agree.{no_pair_same, cheapest_same}
use Rattle.routing.specs.declared.path.Pair.{Pair}
use Rattle.routing.specs.declared.state.State.{State}
use Rattle.routing.specs.declared.task.Task.{Task}
use Rattle.routing.specs.Entries.{usable}
use Rattle.routing.specs.Found.{links_of, allowed, Best}
use Rattle.routing.specs.Taking.{Leading, Marked, Taken}
use Rattle.routing.specs.Views.{net_of}
use Rattle.routing.proofs.Answered.{marked_ready, marked_usable, ranked_best}
use Rattle.routing.proofs.Takes.{first_leading, second_leading, found_pair}
use Rattle.routing.proofs.search.best_pair.Goals as goal

-- what may be used for a task whose arcs are marked
same_usable : (t : Task) (flags : List Bool) (was : List State) → length was ≡ 128 → Marked flags was → (e : ℕ) → e < (net_of t.graph.now).size → allowed flags e ≡ usable was e
same_usable t flags was long M e l = marked_usable flags was M e (omega (arith, t.graph.now.few))

pub choose-requires-clause-ready : goal.choose-requires-clause-ready
choose-requires-clause-ready c = marked_ready c.args.task.graph.now c.args.usable.now c.first_states-states.result c.first_states-states.ensures.long c.first_states-states.ensures.marked

pub returns-in_err-choose : goal.returns-in_err-choose
returns-in_err-choose c =
    let t = c.args.task in
    let was = c.first_states-states.result in
    rw c.from_residual.ensures
    (no_pair_same (net_of t.graph.now) (usable was) (allowed c.args.usable.now) t.source t.target
    (same_usable t c.args.usable.now was c.first_states-states.ensures.long c.first_states-states.ensures.marked) c.in_err-choose.ensures.pair)

pub take_path-one-requires-clause-leading : goal.take_path-one-requires-clause-leading
take_path-one-requires-clause-leading c =
    let t = c.args.task in
    let was = c.first_states-states.result in
    let N = marked_ready t.graph.now c.args.usable.now was c.first_states-states.ensures.long c.first_states-states.ensures.marked in
    let f = c.choose.new.self in
    subst (λ (k : Task). Leading (net_of k.graph.now) f.states k.source k.target) (sym c.in_ok-choose.ensures.same)
    (first_leading (net_of t.graph.now) was (node_count t.graph.now) t.source t.target N f.states f.pots.now c.in_ok-choose.ensures.pair
    (f.pots_long ∙ ap (λ (k : Task). node_count k.graph.now) c.in_ok-choose.ensures.same))

pub take_path-two-requires-clause-leading : goal.take_path-two-requires-clause-leading
take_path-two-requires-clause-leading c =
    let t = c.args.task in
    let was = c.first_states-states.result in
    let N = marked_ready t.graph.now c.args.usable.now was c.first_states-states.ensures.long c.first_states-states.ensures.marked in
    let f = c.choose.new.self in
    let g = c.take_path-one.new.self in
    let one = c.take_path-one.result in
    let T : Taken (net_of t.graph.now) f.states t.source (links_of one.path) t.target g.states =
    subst (λ (k : Task). Taken (net_of k.graph.now) f.states k.source (links_of one.path) k.target g.states) c.in_ok-choose.ensures.same c.take_path-one.ensures.taken in
    subst (λ (k : Task). Leading (net_of k.graph.now) g.states k.source k.target) (sym (c.take_path-one.ensures.same ∙ c.in_ok-choose.ensures.same))
    (second_leading (net_of t.graph.now) was (node_count t.graph.now) t.source t.target N f.states f.pots.now c.in_ok-choose.ensures.pair
    (f.pots_long ∙ ap (λ (k : Task). node_count k.graph.now) c.in_ok-choose.ensures.same) (links_of one.path) g.states T)

pub returns : goal.returns
returns c =
    let t = c.args.task in
    let net = net_of t.graph.now in
    let n = node_count t.graph.now in
    let was = c.first_states-states.result in
    let N = marked_ready t.graph.now c.args.usable.now was c.first_states-states.ensures.long c.first_states-states.ensures.marked in
    let f = c.choose.new.self in
    let g = c.take_path-one.new.self in
    let h = c.take_path-two.new.self in
    let one = c.take_path-one.result in
    let two = c.take_path-two.result in
    let p = links_of one.path in
    let q = links_of two.path in
    let first = c.in_ok-choose.ensures.same in
    let second = c.take_path-one.ensures.same ∙ first in
    let T : Taken net f.states t.source p t.target g.states =
    subst (λ (k : Task). Taken (net_of k.graph.now) f.states k.source p k.target g.states) first c.take_path-one.ensures.taken in
    let U : Taken net g.states t.source q t.target h.states =
    subst (λ (k : Task). Taken (net_of k.graph.now) g.states k.source q k.target h.states) second c.take_path-two.ensures.taken in
    let C = found_pair net was n t.source t.target N f.states f.pots.now c.in_ok-choose.ensures.pair (f.pots_long ∙ ap (λ (k : Task). node_count k.graph.now) first)
    p g.states T q h.states U in
    let A = allowed c.args.usable.now in
    let same = same_usable t c.args.usable.now was c.first_states-states.ensures.long c.first_states-states.ensures.marked in
    subst (λ (r : Pair). Best net A t.source t.target r) (sym c.rank.ensures)
    (ranked_best net A t.source t.target one two t.apart (cheapest_same net (usable was) A t.source t.target same p q C)
    (subst (λ (k : Task). one.cost ≡ cost_of (net_of k.graph.now) p) first c.take_path-one.ensures.cost)
    (subst (λ (k : Task). two.cost ≡ cost_of (net_of k.graph.now) q) second c.take_path-two.ensures.cost))
