use Rattle.std.proofs.Common.{ap, ◌∙◌, arith}
use Rattle.routing.specs.Entries.{state_at}
use Rattle.routing.specs.Views.{net_of}
use Rattle.routing.proofs.Settles.{is_used}
use Rattle.routing.proofs.Takes.{some_leaves}
use Rattle.routing.proofs.extract.leaving.Goals as goal

-- past the last arc of the node: the one that leaves it was passed over
pub unreachable-requires : goal.unreachable-requires
unreachable-requires c =
    let states = c.args.states.now in
    let x = some_leaves (net_of c.args.graph.now) states c.args.node c.args.target c.requires.leading.0 c.requires.leading.1 in
    let p = c.leaving-e-items.ensures.lists.complete x.0 x.1 x.3 in
    c.loop-e.invariant p.0 (omega (arith, p.1)) (ap (state_at states) p.2 ∙ is_used (state_at states x.0) x.2)
