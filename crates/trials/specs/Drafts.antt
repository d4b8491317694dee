-- Links that are made up.
use Rattle.std.specs.Prelude.{◌≡◌, ℕ, ◌<◌, ◌≤◌, List, ◌++◌, length, slice_index_or}
use Rattle.std.specs.List.{AllByRecursion}
use Rattle.network.specs.declared.link.Link.{Link}
use Rattle.network.specs.Limits.{Sound, SoundLink, blank}

-- a link of a network of n nodes, at a cost from low to high
pub record Drawn (n low high : ℕ) (x : Link) : Type 0 where
  pub sound : SoundLink n x
  pub above : low ≤ x.cost
  pub below : x.cost ≤ high

-- behind the links there are so many more of these
pub record Grown (n low high more : ℕ) (before after : List Link) : Type 0 where
  pub new : List Link
  pub whole : after ≡ before ++ new
  pub count : length new ≡ more
  pub each : AllByRecursion (Drawn n low high) new

-- each link costs from low to high
abbrev pub CostsWithin : ℕ → ℕ → List Link → Type 0
CostsWithin low high links = (e : ℕ) → e < length links → (low ≤ (slice_index_or links e blank).cost) × ((slice_index_or links e blank).cost ≤ high)

-- a network of n nodes with so many links at these costs
pub record Spread (n low high count : ℕ) (links : List Link) : Type 0 where
  pub sound : Sound n links
  pub costs : CostsWithin low high links
  pub many : length links ≡ count
