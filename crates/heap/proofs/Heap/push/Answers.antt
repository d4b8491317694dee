use Rattle.std.proofs.Common.{◌+◌, arith, length-set}
use Rattle.heap.proofs.Sifting.{push_heaps}
use Rattle.heap.proofs.Heap.push.Goals as goal

pub invariant_of-self : goal.invariant_of-self
invariant_of-self g c =
    let h = c.args.self.now in
    let sift = c.sift_up.ensures in
    let len = (sift.moved (h.len + 1) (omega arith)).len in
    record {
      within = omega (arith, length-set h.items.now h.len c.args.x);
      ordered = push_heaps g.met.T.Ord.total h.items.now c.sift_up.new.items h.len c.args.x sift.rises h.ordered;
    }
