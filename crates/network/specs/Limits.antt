-- The limits that every network keeps.
use Rattle.std.specs.Prelude.{◌≡◌, ℕ, ◌<◌, ◌≤◌, List, length, slice_index_or}
use Rattle.network.specs.declared.link.Link.{Link}

-- what stands past the end of a list of links
abbrev pub blank : Link
blank = record { tail = 0; head = 0; cost = 0; capacity = 0; ceiling = 0 }

-- a link of a network of n nodes
pub record SoundLink (n : ℕ) (x : Link) : Type 0 where
  pub tail : x.tail < n
  pub head : x.head < n
  pub apart : x.tail ≡ x.head → ⊥
  pub cost_above : 1 ≤ x.cost
  pub cost_below : x.cost ≤ 65535
  pub capacity_above : 1 ≤ x.capacity
  pub capacity_below : x.capacity ≤ 65535
  pub ceiling : x.ceiling ≤ 64

-- n nodes and these links are a network
pub record Sound (n : ℕ) (links : List Link) : Type 0 where
  pub nodes_above : 2 ≤ n
  pub nodes_below : n ≤ 32
  pub links_above : 1 ≤ length links
  pub links_below : length links ≤ 128
  pub each : (e : ℕ) → e < length links → SoundLink n (slice_index_or links e blank)
