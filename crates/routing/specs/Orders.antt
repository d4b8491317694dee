-- The order of the heap's entries.
use Rattle.std.specs.Prelude.{◌≤◌}
use Rattle.std.specs.Cmp.{IsTotalOrder}
use Rattle.std.specs.declared.cmp.Ordering.{Ordering}
use Rattle.routing.specs.contracts.key.ReachOrd.TheImpl as reach
use Rattle.routing.specs.contracts.key.ReachOrd.TheImpl.Laws as reach_laws
use Rattle.routing.specs.contracts.key.NodeKeyOrd.TheImpl as node_key
use Rattle.routing.specs.contracts.key.NodeKeyOrd.TheImpl.Laws as node_key_laws
use Rattle.routing.specs.declared.key.NodeKey.{NodeKey}
use Rattle.routing.specs.declared.key.Reach.{Reach}
use Rattle.routing.specs.declared.key.Reach.TheVariants.{At, NotReached}

-- x is no farther than y
abbrev pub NoFarther : Reach → Reach → Type 0
NoFarther (At x) (At y) = x ≤ y
NoFarther (At x) NotReached = Unit {0}
NoFarther NotReached (At y) = ⊥
NoFarther NotReached NotReached = Unit {0}

-- distances, then "not reached"
abbrev pub reach_order : IsTotalOrder (reach.ghosts).cmp
reach_order = reach_laws.total-law

-- how the heap compares its entries
abbrev pub key_cmp : NodeKey → NodeKey → Ordering
key_cmp = (node_key.ghosts).cmp

-- by distance, then by node
abbrev pub key_order : IsTotalOrder key_cmp
key_order = node_key_laws.total-law
