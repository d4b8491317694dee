-- What a cheapest pair costs.
use Rattle.std.specs.Prelude.{◌≡◌, ℕ, ◌+◌, ◌<◌, ◌≤◌, Bool, ◌⊎◌, List, Some, None, Option, ◌≢◌}
use Rattle.network.specs.declared.network.Network.{Network}
use Rattle.network.specs.Networks.{link_list, node_count}
use Rattle.paths.specs.Pairs.{Digraph, Cheapest, NoPair, cost}
use Rattle.routing.specs.Answer.{link_graph}

-- the answer is what a cheapest pair costs, or none where there is no pair
abbrev pub Costs : Digraph → (ℕ → Bool) → ℕ → ℕ → Option ℕ → Type 0
Costs net usable s t None = NoPair net usable s t
Costs net usable s t (Some c) = (p : List ℕ) × (q : List ℕ) × Cheapest net usable s t p q × (c ≡ cost net p + cost net q)

-- the same for every two nodes of a network; for others, and from a node to itself, there is no answer
pub record PairCost (net : Network) (usable : ℕ → Bool) (s t : ℕ) (answer : Option ℕ) : Type 0 where
  pub between : s < node_count net → t < node_count net → (s ≢ t) → Costs (link_graph (link_list net)) usable s t answer
  pub elsewhere : (node_count net ≤ s) ⊎ ((node_count net ≤ t) ⊎ (s ≡ t)) → answer ≡ None
