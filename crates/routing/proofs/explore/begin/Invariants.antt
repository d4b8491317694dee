use Rattle.std.proofs.Common.{◌≡◌, ℕ, ◌<◌, get_or}
use Rattle.routing.specs.declared.key.Reach.TheVariants.{NotReached}
use Rattle.routing.specs.Entries.{blank}
use Rattle.routing.proofs.explore.begin.Given as goal

abbrev pub invariant-loop-node : goal.invariant-loop-node
invariant-loop-node l = (k : ℕ) → k < l.node → get_or l.entries k blank ≡ record { reach = NotReached; node = k }
