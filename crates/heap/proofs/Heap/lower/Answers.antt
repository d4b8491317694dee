use Rattle.std.proofs.Common.{◌≡◌, ◌<◌, true, get_or, arith, length-set}
use Rattle.std.proofs.lemmas.Grind.{common_steps}
use Rattle.heap.specs.Least.{before}
use Rattle.heap.proofs.Sifting.{lower_heaps}
use Rattle.heap.proofs.Heap.lower.Goals as goal

pub invariant_of-self : goal.invariant_of-self
invariant_of-self g c =
    let h = c.args.self.now in
    let i = c.args.i in
    let x = c.args.x in
    let place : i < h.len = grind (arith, common_steps) in
    let lower : (d : g.row.T.Denot) → before g.T.Ord.cmp x (get_or h.items.now i d) ≡ true = λ d. grind (arith, common_steps) in
    let len = (c.sift_up.ensures.moved h.len place).len in
    record {
      within = omega (arith, length-set h.items.now i x);
      ordered = lower_heaps g.met.T.Ord.total h.items.now c.sift_up.new.items h.len i x place h.within lower c.sift_up.ensures.rises h.ordered;
    }
