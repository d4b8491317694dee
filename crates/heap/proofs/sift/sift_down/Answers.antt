use Rattle.std.proofs.Common.{arith}
use Rattle.heap.proofs.Moves as moves
use Rattle.heap.proofs.Sifting.{sink_begins, sink_steps, sink_rests, sink_ends}
use Rattle.heap.proofs.sift.sift_down.Goals as goal

pub loop-parent-init : goal.loop-parent-init
loop-parent-init g c =
    let xs = c.args.items.now in
    (λ n _. moves.still n xs, sink_begins g.met.T.Ord.total xs c.args.len)

pub loop-parent-preserved : goal.loop-parent-preserved
loop-parent-preserved g c =
    let xs = c.args.items.now in
    let ys = c.loop-parent.items in
    let zs = c.swap.new.self in
    let j = c.loop-parent.parent in
    let k = c.least_child-child.result in
    let found = c.least_child-child.ensures in
    let swap = c.swap.ensures in
    let inv = c.loop-parent.invariant in (
      λ n l. moves.again n xs ys zs (inv.0 n l) (moves.swapped n ys zs j k (omega arith) (omega arith) (omega arith) (omega arith) swap.after),
      sink_steps g.met.T.Ord.total xs ys zs c.args.len j k found.child.1 found.child.2 found.child.0
          swap.by_index found.least c.if-not-before.ensures inv.1,
    )

pub returns-then-not-before : goal.returns-then-not-before
returns-then-not-before g c =
    let inv = c.loop-parent.invariant in
    record {
      moved = inv.0;
      sinks = sink_rests g.met.T.Ord.total c.args.items.now c.loop-parent.items c.args.len c.loop-parent.parent c.least_child-child.result
          c.least_child-child.ensures.least c.if-not-before.ensures inv.1;
    }

pub returns : goal.returns
returns g c =
    let inv = c.loop-parent.invariant in
    record {
      moved = inv.0;
      sinks = sink_ends g.met.T.Ord.total c.args.items.now c.loop-parent.items c.args.len c.loop-parent.parent c.loop-parent-test.false inv.1;
    }
