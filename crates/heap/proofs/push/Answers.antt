use Rattle.std.proofs.Common.{◌+◌, arith}
use Rattle.heap.proofs.Sifting.{push_heaps}
use Rattle.heap.proofs.push.Goals as goal

pub returns : goal.returns
returns g c =
    let n = c.args.len in
    let sift = c.sift_up.ensures in
    record {
      pushed = record { room = omega arith; moved = sift.moved (n + 1) (omega arith) };
      heap = push_heaps g.met.T.Ord.total c.args.items.now c.sift_up.new.items n c.args.x sift.rises;
    }
