use Rattle.std.proofs.Common.{◌-◌, sym, ◌∙◌, arith}
use Rattle.heap.proofs.Moves as moves
use Rattle.heap.proofs.Sifting.{pop_heaps}
use Rattle.heap.proofs.Heap.pop.Goals as goal

-- zs is the slice after the exchange, ys after the first sank
pub invariant_of-self : goal.invariant_of-self
invariant_of-self g c =
    let h = c.args.self.now in
    let swap = c.swap.ensures in
    let sift = c.sift_down.ensures in
    let len = (sift.moved h.len (omega arith)).len in
    record {
      within = omega (arith, swap.len);
      ordered = pop_heaps g.met.T.Ord.total h.items.now c.swap.new.self c.sift_down.new.items h.len swap.by_index sift.sinks h.ordered;
    }

pub returns-clause-pops : goal.returns-clause-pops
returns-clause-pops g c =
    let xs = c.args.self.now.items.now in
    let zs = c.swap.new.self in
    let ys = c.sift_down.new.items in
    let n = c.args.self.now.len in
    let swap = c.swap.ensures in
    let sift = c.sift_down.ensures in
    let top = c.in_ok-least.ensures in
    record {
      top = top;
      behind = λ d. moves.rest_at (n - 1) zs ys (sift.moved (n - 1) (omega arith)) (n - 1) d (omega arith) ∙ swap.by_index.1 d ∙ sym (top.first d);
      moved = moves.again n xs zs ys (moves.swapped n xs zs 0 (n - 1) (omega arith) (omega arith) (omega arith) (omega arith) swap.after) (sift.moved n (omega arith));
    }
