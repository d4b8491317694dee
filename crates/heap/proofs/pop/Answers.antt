use Rattle.std.proofs.Common.{◌-◌, sym, ◌∙◌, arith}
use Rattle.std.proofs.lemmas.List.{get_or_read}
use Rattle.heap.proofs.Moves as moves
use Rattle.heap.proofs.Sifting.{top_least, pop_heaps}
use Rattle.heap.proofs.pop.Goals as goal

-- zs is the slice after the exchange, ys after the first sank
pub returns : goal.returns
returns g c =
    let xs = c.args.items.now in
    let zs = c.swap.new.self in
    let ys = c.sift_down.new.items in
    let n = c.args.len in
    let x = c.index-items-0.result in
    let swap = c.swap.ensures in
    let sift = c.sift_down.ensures in
    let first = get_or_read xs 0 x (omega arith) c.index-items-0.is in
    record {
      first = record { some = omega arith; within = omega arith; first = first; least = top_least g.met.T.Ord.total xs n x first };
      behind = λ d. moves.rest_at (n - 1) zs ys (sift.moved (n - 1) (omega arith)) (n - 1) d (omega arith) ∙ swap.by_index.1 d ∙ sym (first d);
      moved = moves.again n xs zs ys (moves.swapped n xs zs 0 (n - 1) (omega arith) (omega arith) (omega arith) (omega arith) swap.after) (sift.moved n (omega arith));
      heap = pop_heaps g.met.T.Ord.total xs zs ys n swap.by_index sift.sinks;
    }
