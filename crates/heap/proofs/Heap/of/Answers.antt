use Rattle.std.proofs.Common.{arith}
use Rattle.heap.proofs.Sifting.{heap_empty}
use Rattle.heap.proofs.Heap.of.Goals as goal

pub heapify-requires : goal.heapify-requires
heapify-requires g c = (omega arith, omega arith, heap_empty g.met.T.Ord.total c.args.items.now)
