use Rattle.std.proofs.Common.{arith}
use Rattle.heap.proofs.Sifting.{heap_empty}
use Rattle.heap.proofs.Heap.new.Goals as goal

pub invariant_of-result : goal.invariant_of-result
invariant_of-result g c = record { within = omega arith; ordered = heap_empty g.met.T.Ord.total c.args.items.now }
