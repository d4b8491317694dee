-- What the cheapest pairs of small networks are, all links usable.
use Rattle.std.specs.Prelude.{◌≡◌, ℕ, List, [], ◌∷◌}
use Rattle.network.specs.declared.link.Link.{Link}
use Rattle.paths.specs.Pairs.{Cheapest, CheapestCosts, NoPair, Working, every}
use Rattle.routing.specs.Answer.{link_graph}
use Rattle.small_cases.specs.Networks.{diamond, parallel, single}

-- the working path of each cheapest pair from s to t is w
abbrev pub WorkingIs : List Link → ℕ → ℕ → List ℕ → Type 0
WorkingIs links s t w = (p q : List ℕ) → Cheapest (link_graph links) every s t p q → Working (link_graph links) p q → p ≡ w

pub record SmallNetworks : Type 0 where
  pub diamond_costs_10 : CheapestCosts (link_graph diamond) every 0 3 10
  pub parallel_costs_3 : CheapestCosts (link_graph parallel) every 0 1 3
  pub parallel_works_on_0 : WorkingIs parallel 0 1 (0 ∷ [])
  pub single_has_no_pair : NoPair (link_graph single) every 0 1
