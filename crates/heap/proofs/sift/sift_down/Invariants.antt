use Rattle.std.proofs.Common.{ℕ, ◌-◌, ◌≤◌}
use Rattle.heap.specs.Least.{Moved}
use Rattle.heap.proofs.Sifting.{Sinking}
use Rattle.heap.proofs.sift.sift_down.Given as goal

abbrev pub invariant-loop-parent : goal.invariant-loop-parent
invariant-loop-parent g l =
    ((n : ℕ) → l.len ≤ n → Moved n l.initial.items l.items)
    × Sinking g.T.Ord.cmp l.initial.items l.len l.items l.parent

abbrev pub decreases-loop-parent : goal.decreases-loop-parent
decreases-loop-parent g l = l.len - l.parent
