-- The table of what the cheapest pairs of a network cost, all links usable.
use Rattle.std.specs.Prelude.{◌≡◌, ℕ, ◌+◌, ◌*◌, ◌<◌, ◌≤◌, Bool, true, false, ◌⊎◌, List, length, drop, ◌≢◌, slice_index}
use Rattle.network.specs.declared.fault.Fault.{Fault}
use Rattle.network.specs.declared.link.Link.{Link}
use Rattle.network.specs.Laws.{Accepts}
use Rattle.network.specs.Refusals.{Refuses}
use Rattle.paths.specs.Pairs.{CheapestCosts, NoPair, every}
use Rattle.routing.specs.Answer.{link_graph}

-- c is what each cheapest pair from s to t costs, or 0 where there is no pair; from a node to itself it is 0
pub record CostBetween (links : List Link) (s t c : ℕ) : Type 0 where
  pub same : s ≡ t → c ≡ 0
  pub apart : (s ≢ t) → CheapestCosts (link_graph links) every s t c ⊎ (NoPair (link_graph links) every s t × (c ≡ 0))

-- in rows of n, the cost from s to t stands at column t of row s
abbrev pub CostTable : ℕ → List Link → List ℕ → Type 0
CostTable n links costs = (s t : ℕ) → s < n → t < n → CostBetween links s t (slice_index costs (s * n + t))

-- the table stands at the front of the costs, and what is behind it is as it was
pub record Filled (n : ℕ) (links : List Link) (before after : List ℕ) : Type 0 where
  pub room : n * n ≤ length before
  pub table : CostTable n links after
  pub behind : drop (n * n) after ≡ drop (n * n) before

-- the words are a network's whose table has no room
abbrev pub NoRoom : List ℕ → List ℕ → Type 0
NoRoom words costs = (n : ℕ) × (links : List Link) × Accepts words n links × (length costs < n * n)

-- true: the words are a network's and its table is filled; false: the words are refused or the table has no room, and
-- nothing changed
abbrev pub Tabulates : List ℕ → List ℕ → List ℕ → Bool → Type 0
Tabulates words before after true = (n : ℕ) × (links : List Link) × Accepts words n links × Filled n links before after
Tabulates words before after false = (after ≡ before) × (((f : Fault) × Refuses words f) ⊎ NoRoom words before)
