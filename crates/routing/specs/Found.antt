-- What a search answers with.
use Rattle.std.specs.Prelude.{◌≡◌, ℕ, ◌+◌, ◌<◌, ◌≤◌, Bool, false, cond, List, take, ◌==◌, nat_lt, slice_index, slice_index_or}
use Rattle.paths.specs.Pairs.{Digraph, Cheapest, cost as cost_of}
use Rattle.routing.specs.declared.path.Pair.{Pair}
use Rattle.routing.specs.declared.path.Path.{Path}
use Rattle.routing.specs.declared.extract.Track.{Track}

-- the links of a path
abbrev pub links_of : Path → List ℕ
links_of p = take p.len p.links

-- the links that may be used, as a list of flags; one past its end may not
abbrev pub allowed : List Bool → ℕ → Bool
allowed flags e = slice_index_or flags e false

-- a cheapest pair with its cost: the working path is the cheaper, at equal cost the one whose first link has the lower number
pub record Best (net : Digraph) (usable : ℕ → Bool) (s t : ℕ) (p : Pair) : Type 0 where
  pub cheapest : Cheapest net usable s t (links_of p.working) (links_of p.protecting)
  pub costs : p.cost ≡ cost_of net (links_of p.working) + cost_of net (links_of p.protecting)
  pub cheaper : cost_of net (links_of p.working) ≤ cost_of net (links_of p.protecting)
  pub lower : cost_of net (links_of p.working) ≡ cost_of net (links_of p.protecting) → slice_index (links_of p.working) 0 < slice_index (links_of p.protecting) 0

-- a goes before b: it is cheaper, or at equal cost its first link has the lower number
abbrev pub precedes : Track → Track → Bool
precedes a b = cond (a.cost == b.cost) (nat_lt (slice_index a.path.links 0) (slice_index b.path.links 0)) (nat_lt a.cost b.cost)

-- the two as a pair
abbrev pub paired : Track → Track → Pair
paired a b = record { cost = a.cost + b.cost; working = a.path; protecting = b.path }
