-- What the search's answer says of a cost, and how costs make a table.
use Rattle.std.proofs.Common.{◌≡◌, ℕ, ◌+◌, ◌*◌, ◌/◌, ◌%◌, ◌<◌, ◌≤◌, Bool, true, false, ◌⊎◌, List, ◌++◌, length, get_or, replicate, Some, None, Ok, Option, sym, ◌∙◌, subst, inl, inr, arith, below_more, ◌≢◌, set}
use Rattle.std.specs.Option.{option_map_or}
use Rattle.std.proofs.lemmas.Nat.{div-mul-add, mod-mul-add, mul-add-lt}
use Rattle.std.proofs.lemmas.List.{get_or_append_left, get_or-replicate, get_or-set_same, get_or-set_other}
use Rattle.std.proofs.lemmas.Bool.Decides.{nat_tests}
use Rattle.network.specs.declared.link.Link.{Link}
use Rattle.network.specs.declared.network.Network.{Network}
use Rattle.network.specs.Limits.{Sound}
use Rattle.network.specs.Networks.{link_list, node_count}
use Rattle.paths.specs.Pairs.{CheapestCosts, NoPair, every}
use Rattle.paths.proofs.Agree.{cheapest_costs, cheapest_same, no_pair_same}
use Rattle.routing.specs.declared.path.Pair.{Pair}
use Rattle.routing.specs.Answer.{Answers, link_graph, refusal}
use Rattle.routing.specs.Found.{allowed, links_of}
use Rattle.pair_costs.specs.Table.{CostBetween, CostTable}

-- ---- one cost
-- a search from a node to itself is refused
searched_apart : (n m s t w k : ℕ) → s < n → t < n → refusal n m s t w k ≡ None → s ≡ t → ⊥
searched_apart n m s t w k l m' r e = grind (arith, nat_tests)

module _ (net : Network) (s t w k : ℕ) (sound : Sound (node_count net) (link_list net)) (source : s < node_count net) (target : t < node_count net) where
  abbrev all : ℕ → Bool
  all = allowed (replicate 128 true)

  all_usable : (e : ℕ) → e < length (link_list net) → every e ≡ all e
  all_usable e l = sym (get_or-replicate 128 e true false (omega arith))

  answered : (found : Option Pair) → Answers net all s t w k (Ok found) → refusal (node_count net) (length (link_list net)) s t w k ≡ None
  answered None A = A.0
  answered (Some p) A = A.0

  apart_costs : (found : Option Pair) → Answers net all s t w k (Ok found) → (c : ℕ) → c ≡ option_map_or (λ p. p.cost) found 0 →
      CheapestCosts (link_graph (link_list net)) every s t c ⊎ (NoPair (link_graph (link_list net)) every s t × (c ≡ 0))
  apart_costs None A c is = inr (no_pair_same (link_graph (link_list net)) all every s t all_usable A.1, is)
  apart_costs (Some p) A c is =
      let C = cheapest_same (link_graph (link_list net)) all every s t all_usable (links_of p.working) (links_of p.protecting) A.1.cheapest in
      inl (subst (λ (c : ℕ). CheapestCosts (link_graph (link_list net)) every s t c) (sym (is ∙ A.1.costs))
      (cheapest_costs (link_graph (link_list net)) every s t (links_of p.working) (links_of p.protecting) C))

  -- the answer's cost, or 0 where no pair is found
  pub found_costs : (found : Option Pair) → Answers net all s t w k (Ok found) → (c : ℕ) → c ≡ option_map_or (λ p. p.cost) found 0 →
      CostBetween (link_list net) s t c
  found_costs found A c is = record {
    same = λ e. absurd (searched_apart (node_count net) (length (link_list net)) s t w k source target (answered found A) e);
    apart = λ _. apart_costs found A c is;
  }

-- ---- the table
module _ (n : ℕ) (links : List Link) where
  -- the cost at a place, in rows of n
  abbrev At : List ℕ → ℕ → Type 0
  At costs k = CostBetween links (k / n) (k % n) (get_or costs k 0)

  pub one_more : (costs : List ℕ) (i r v : ℕ) → i < length costs → r ≡ n → ((k : ℕ) → k < i → At costs k) → CostBetween links (i / r) (i % r) v →
      (k : ℕ) → k < i + 1 → At (set costs i v) k
  one_more costs i r v l e before here =
      below_more _ _
      (λ k h. let ne : k ≢ i = omega arith in rw (get_or-set_other costs i k v 0 ne) (before k h))
      (rw (get_or-set_same costs i v 0 l) (rw e at here))

  pub in_rows : (costs : List ℕ) → ((k : ℕ) → k < n * n → At costs k) → CostTable n links costs
  in_rows costs each s t l m = simp (div-mul-add s n t m, mod-mul-add s n t m) at (each (s * n + t) (mul-add-lt s n t n l m))

  pub at_front : (costs behind : List ℕ) → n * n ≤ length costs → CostTable n links costs → CostTable n links (costs ++ behind)
  at_front costs behind room T s t l m = rw (get_or_append_left costs behind 0 (s * n + t) (omega (arith, mul-add-lt s n t n l m))) (T s t l m)
