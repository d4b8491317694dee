use Rattle.std.proofs.Common.{◌≡◌, ℕ, ◌-◌, ◌*◌, ◌<◌, ◌≤◌, length}
use Rattle.paths.specs.Pairs.{cost as cost_of}
use Rattle.routing.specs.Found.{links_of}
use Rattle.routing.specs.Taking.{Taken}
use Rattle.routing.specs.Views.{net_of}
use Rattle.routing.proofs.flow.Flow.take_path.Given as goal

abbrev pub invariant-loop-node : goal.invariant-loop-node
invariant-loop-node l =
    Taken (net_of l.graph) l.initial.states l.initial.node (links_of l.path) l.node l.states
    × ((n : ℕ) → l.initial.node < n → ((e : ℕ) → e < (net_of l.graph).size → (net_of l.graph).head e < n) → l.node < n)
    × (l.cost ≡ cost_of (net_of l.graph) (links_of l.path))
    × (l.cost ≤ 65535 * l.path.len)
    × (length l.states ≡ 128)
    × (length (links_of l.path) ≡ l.path.len)

abbrev pub decreases-loop-node : goal.decreases-loop-node
decreases-loop-node l = 31 - l.path.len
