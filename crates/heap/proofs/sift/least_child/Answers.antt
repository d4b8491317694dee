use Rattle.std.proofs.Common.{◌+◌, ◌*◌, arith}
use Rattle.heap.proofs.Sifting.{only_child, left_child, right_child}
use Rattle.heap.proofs.sift.least_child.Goals as goal
use Rattle.heap.proofs.sift.least_child.Goals.{else-right-len-via-then-right-len+else-before, else-right-len-via-else-right-len}

pub returns-then-before : goal.returns-then-before
returns-then-before g c = record {
  child = omega arith;
  least = right_child g.met.T.Ord.total c.args.items.now c.args.parent (2 * c.args.parent + 1) c.args.len (omega arith) c.if-before.ensures;
}

pub returns : goal.returns
returns g c =
    let R = g.met.T.Ord.total in
    let xs = c.args.items.now in
    let j = c.args.parent in
    let n = c.args.len in
    record {
      child = omega arith;
      least = elim c.else-right-len.branch [
        | else-right-len-via-then-right-len+else-before w ↦ left_child R xs j (2 * j + 1) n (omega arith) w.if-before.ensures
        | else-right-len-via-else-right-len w ↦ only_child R xs j (2 * j + 1) n (omega arith) w.if-right-len.false
      ];
    }
