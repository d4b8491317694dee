-- From the trails that are followed to the cheapest pair.
use Rattle.std.proofs.Common.{◌≡◌, ℕ, ◌<◌, Bool, List, [], ◌∷◌, Some, None, Option, sym, subst, ⊎_elim, arith}
use Rattle.network.specs.declared.link.Link.{Link}
use Rattle.network.specs.declared.network.Network.{Network}
use Rattle.network.specs.Limits.{Sound}
use Rattle.network.specs.Networks.{link_list, node_count}
use Rattle.paths.specs.Pairs.{Digraph}
use Rattle.paths.proofs.Agree.{cheapest_same, no_pair_same}
use Rattle.routing.specs.Answer.{link_graph}
use Rattle.routing.specs.Found.{allowed}
use Rattle.enumeration.specs.Costs.{Costs, PairCost}
use Rattle.enumeration.specs.declared.trail.Trail.{Trail}
use Rattle.enumeration.specs.Least.{Least}
use Rattle.enumeration.specs.Walks.{Completed, Limited, begun, completed_cost}
use Rattle.enumeration.proofs.Onward.{completed_pair, pair_completed}

module _ (net : Digraph) (heads : (e : ℕ) → e < net.size → net.head e < 32) (s t : ℕ) (inside : s < 32) where
  least_pair : (free : List Bool) (o : Option ℕ) → Least (Completed net s t 1 (begun free s)) (completed_cost net) o → Costs net (allowed free) s t o
  least_pair free None h = λ p q P. h (p, q ∷ []) (pair_completed net heads s t inside free p q P)
  least_pair free (Some c) h =
      let x = h.0.0 in
      let k = completed_pair net heads s t inside free x.0 x.1 h.0.1 in (
        x.0,
        k.0,
        record {
          pair = k.1;
          least = λ p q P. omega (arith, k.2, h.0.2, h.1 (p, q ∷ []) (pair_completed net heads s t inside free p q P));
        },
        omega (arith, k.2, h.0.2),
      )

  least_costs : (free usable : List Bool) → ((e : ℕ) → e < net.size → allowed usable e ≡ allowed free e) → (o : Option ℕ) →
      Least (Completed net s t 1 (begun free s)) (completed_cost net) o → Costs net (allowed usable) s t o
  least_costs free usable same None h = no_pair_same net (allowed free) (allowed usable) s t same (least_pair free None h)
  least_costs free usable same (Some c) h =
      let k = least_pair free (Some c) h in (k.0, k.1, cheapest_same net (allowed free) (allowed usable) s t same k.0 k.1 k.2, k.3)

-- networks keep the limits
limited : (n : ℕ) (links : List Link) → Sound n links → Limited links
limited n links h = record {
  few = h.links_below;
  heads = λ e l. omega (arith, (h.each e l).head, h.nodes_below);
  costs = λ e l. (h.each e l).cost_below;
}

module _ (net : Network) (s t : ℕ) (source : s < node_count net) (target : t < node_count net) (apart : s ≡ t → ⊥) (sound : Sound (node_count net) (link_list net)) where
  pub pair_cost : (free usable : List Bool) → ((e : ℕ) → e < 128 → allowed free e ≡ allowed usable e) → (links : List Link) → links ≡ link_list net →
      (trail : Trail) → trail ≡ begun free s → (o : Option ℕ) → Least (Completed (link_graph links) s t 1 trail) (completed_cost (link_graph links)) o → PairCost net (allowed usable) s t o
  pair_cost free usable same links is trail first o h =
      let begins : Least (Completed (link_graph links) s t 1 (begun free s)) (completed_cost (link_graph links)) o =
      subst (λ (x : Trail). Least (Completed (link_graph links) s t 1 x) (completed_cost (link_graph links)) o) first h in
      let of_net : Least (Completed (link_graph (link_list net)) s t 1 (begun free s)) (completed_cost (link_graph (link_list net))) o =
      subst (λ (ls : List Link). Least (Completed (link_graph ls) s t 1 (begun free s)) (completed_cost (link_graph ls)) o) is begins in
      record {
        between = λ _ _ _. least_costs (link_graph (link_list net)) (limited (node_count net) (link_list net) sound).heads s t (omega (arith, sound.nodes_below))
            free usable (λ e l. sym (same e (omega (arith, sound.links_below)))) o of_net;
        elsewhere = ⊎_elim (λ k. absurd (omega arith)) (⊎_elim (λ k. absurd (omega arith)) (λ k. absurd (apart k)));
      }
