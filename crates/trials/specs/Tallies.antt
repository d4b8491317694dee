-- What trials come to.
use Rattle.std.specs.Prelude.{◌≡◌, ℕ, ◌+◌, ◌*◌, ◌≤◌, Bool, cond, List, ◌++◌, codes, is_some, Option}
use Rattle.std.specs.Fmt.{decimal}
use Rattle.network.specs.declared.network.Network.{Network}
use Rattle.enumeration.specs.Costs.{PairCost}
use Rattle.trials.specs.declared.tally.Tally.{Tally}

-- two tallies together
abbrev pub together : Tally → Tally → Tally
together a b = record {
  networks = a.networks + b.networks;
  queries = a.queries + b.queries;
  pairs = a.pairs + b.pairs;
  differ = a.differ + b.differ;
}

-- a tally as text
abbrev pub line_of : Tally → List ℕ
line_of t =
    decimal t.networks ++ (codes " networks, " ++ (decimal t.queries ++ (codes " queries, " ++ (decimal t.pairs ++ (codes " with a pair, " ++ (decimal t.differ ++ codes " differ"))))))

-- so many networks and queries, none of which differed
pub record Agreed (tried runs : ℕ) (t : Tally) : Type 0 where
  pub networks : t.networks ≡ tried
  pub queries : t.queries ≡ runs
  pub pairs : t.pairs ≤ runs
  pub differ : t.differ ≡ 0

-- so many networks, at most 992 queries on each, and none differed
pub record AllAgreed (tried : ℕ) (t : Tally) : Type 0 where
  pub networks : t.networks ≡ tried
  pub queries : t.queries ≤ 992 * tried
  pub pairs : t.pairs ≤ t.queries
  pub differ : t.differ ≡ 0

-- one query, which did not differ; it counts as a pair if there is one
pub record Tried (net : Network) (usable : ℕ → Bool) (s t : ℕ) (r : Tally) : Type 0 where
  pub agreed : Agreed 0 1 r
  pub paired : (cost : Option ℕ) × PairCost net usable s t cost × (r.pairs ≡ cond (is_some cost) 1 0)
