use Rattle.std.proofs.Common.{arith}
use Rattle.std.proofs.lemmas.List.{get_or_read}
use Rattle.heap.proofs.Sifting.{top_least}
use Rattle.heap.proofs.peek.Goals as goal

pub returns-then-len-items : goal.returns-then-len-items
returns-then-len-items g c =
    let xs = c.args.items.now in
    let n = c.args.len in
    let x = c.index-items-0.result in
    let first = get_or_read xs 0 x (omega arith) c.index-items-0.is in
    record { some = omega arith; within = omega arith; first = first; least = top_least g.met.T.Ord.total xs n x first }
