use Rattle.std.proofs.Common.{arith}
use Rattle.heap.proofs.Moves as moves
use Rattle.heap.proofs.Sifting.{heap_grows}
use Rattle.heap.proofs.sift.heapify.Goals as goal

pub loop-last-init : goal.loop-last-init
loop-last-init g c = (moves.still c.args.len c.args.items.now, c.requires.2)

pub loop-last-preserved : goal.loop-last-preserved
loop-last-preserved g c =
    let sift = c.sift_up.ensures in
    let inv = c.loop-last.invariant in
    let ys = c.loop-last.items in
    let zs = c.sift_up.new.items in
    (moves.again c.args.len c.args.items.now ys zs inv.0 (sift.moved c.args.len (omega arith)), heap_grows g.met.T.Ord.total ys zs c.loop-last.last sift.rises inv.1)
