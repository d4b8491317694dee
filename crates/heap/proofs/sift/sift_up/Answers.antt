use Rattle.std.proofs.Common.{◌-◌, ◌/◌, arith}
use Rattle.heap.proofs.Moves as moves
use Rattle.heap.proofs.Sifting.{rise_begins, rise_steps, rise_rests, rise_tops}
use Rattle.heap.proofs.sift.sift_up.Goals as goal

pub loop-child-init : goal.loop-child-init
loop-child-init g c =
    let xs = c.args.items.now in
    (omega arith, λ n _. moves.still n xs, rise_begins g.met.T.Ord.total xs c.args.from)

pub loop-child-preserved : goal.loop-child-preserved
loop-child-preserved g c =
    let xs = c.args.items.now in
    let ys = c.loop-child.items in
    let zs = c.swap.new.self in
    let j = c.loop-child.child in
    let swap = c.swap.ensures in
    let inv = c.loop-child.invariant in (
      omega arith,
      λ n l. moves.again n xs ys zs (inv.1 n l) (moves.swapped n ys zs ((j - 1) / 2) j (omega arith) (omega arith) (omega arith) (omega arith) swap.after),
      rise_steps g.met.T.Ord.total xs ys zs c.args.from j c.loop-child-test.true inv.0
          swap.by_index c.if-not-before.ensures inv.2,
    )

pub returns-then-not-before : goal.returns-then-not-before
returns-then-not-before g c =
    let inv = c.loop-child.invariant in
    record {
      moved = inv.1;
      rises = rise_rests g.met.T.Ord.total c.args.items.now c.loop-child.items c.args.from c.loop-child.child c.if-not-before.ensures inv.2;
    }

pub returns : goal.returns
returns g c =
    let inv = c.loop-child.invariant in
    record {
      moved = inv.1;
      rises = rise_tops g.met.T.Ord.total c.args.items.now c.loop-child.items c.args.from c.loop-child.child (omega arith) inv.2;
    }
