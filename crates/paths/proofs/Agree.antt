-- Pairs do not depend on the order of their paths, nor on what is said of arcs that are not there. All cheapest ones cost
-- the same.
use Rattle.std.proofs.Common.{◌≡◌, ℕ, ◌+◌, ◌<◌, Bool, true, List, [], ◌∷◌, sym, ◌∙◌, arith}
use Rattle.std.specs.List.{AllByRecursion}
use Rattle.std.proofs.ByRecursion.{All-weaker}
use Rattle.paths.specs.Pairs.{Digraph, Absent, Walk, Path, Pair, Cheapest, CheapestCosts, NoPair, cost}

pub apart_turned : (p q : List ℕ) → AllByRecursion (λ e. Absent e q) p → AllByRecursion (λ e. Absent e p) q
apart_turned p [] a = tt
apart_turned p (y ∷ q) a = (
  All-weaker (λ e. Absent e (y ∷ q)) (λ e. y ≡ e → ⊥) (λ e h r. h.0 (sym r)) p a,
  apart_turned p q (All-weaker (λ e. Absent e (y ∷ q)) (λ e. Absent e q) (λ e h. h.1) p a),
)

pub pair_turned : (net : Digraph) (usable : ℕ → Bool) (s t : ℕ) (p q : List ℕ) → Pair net usable s t p q → Pair net usable s t q p
pair_turned net usable s t p q P = record { one = P.two; two = P.one; apart = apart_turned p q P.apart }

pub cheapest_turned : (net : Digraph) (usable : ℕ → Bool) (s t : ℕ) (p q : List ℕ) → Cheapest net usable s t p q → Cheapest net usable s t q p
cheapest_turned net usable s t p q C = record { pair = pair_turned net usable s t p q C.pair; least = λ p' q' P. omega (arith, C.least p' q' P) }

module _ (net : Digraph) (U V : ℕ → Bool) (s t : ℕ) (same : (e : ℕ) → e < net.size → V e ≡ U e) where
  walk_same : (u : ℕ) (ls : List ℕ) (v : ℕ) → Walk net u ls v → AllByRecursion (λ e. U e ≡ true) ls → AllByRecursion (λ e. V e ≡ true) ls
  walk_same u [] v w a = tt
  walk_same u (e ∷ ls) v w a = (same e w.0 ∙ a.0, walk_same (net.head e) ls v w.2 a.1)

  path_same : (p : List ℕ) → Path net U s p t → Path net V s p t
  path_same p P = record { walk = P.walk; allowed = walk_same s p t P.walk P.allowed; simple = P.simple }

  pub pair_same : (p q : List ℕ) → Pair net U s t p q → Pair net V s t p q
  pair_same p q P = record { one = path_same p P.one; two = path_same q P.two; apart = P.apart }

pub no_pair_same : (net : Digraph) (U V : ℕ → Bool) (s t : ℕ) → ((e : ℕ) → e < net.size → V e ≡ U e) → NoPair net U s t → NoPair net V s t
no_pair_same net U V s t same N p q P = N p q (pair_same net V U s t (λ e l. sym (same e l)) p q P)

pub cheapest_same : (net : Digraph) (U V : ℕ → Bool) (s t : ℕ) → ((e : ℕ) → e < net.size → V e ≡ U e) → (p q : List ℕ) → Cheapest net U s t p q → Cheapest net V s t p q
cheapest_same net U V s t same p q C = record {
  pair = pair_same net U V s t same p q C.pair;
  least = λ p' q' P. C.least p' q' (pair_same net V U s t (λ e l. sym (same e l)) p' q' P);
}

pub cheapest_costs : (net : Digraph) (U : ℕ → Bool) (s t : ℕ) (p q : List ℕ) → Cheapest net U s t p q → CheapestCosts net U s t (cost net p + cost net q)
cheapest_costs net U s t p q C = record {
  some = (p, q, C);
  costs = λ p' q' D. omega (arith, C.least p' q' D.pair, D.least p q C.pair);
}
