use Rattle.heap.specs.Least.{IsHeap, Moved}
use Rattle.heap.proofs.sift.heapify.Given as goal

abbrev pub invariant-loop-last : goal.invariant-loop-last
invariant-loop-last g l = Moved l.len l.initial.items l.items × IsHeap g.T.Ord.cmp l.items l.last
