use Rattle.std.proofs.Common.{ℕ, ◌<◌, ◌≤◌}
use Rattle.heap.specs.Least.{Moved}
use Rattle.heap.proofs.Sifting.{Rising}
use Rattle.heap.proofs.sift.sift_up.Given as goal

abbrev pub invariant-loop-child : goal.invariant-loop-child
invariant-loop-child g l =
    (l.child ≤ l.from)
    × ((n : ℕ) → l.from < n → Moved n l.initial.items l.items)
    × Rising g.T.Ord.cmp l.initial.items l.from l.items l.child

abbrev pub decreases-loop-child : goal.decreases-loop-child
decreases-loop-child g l = l.child
