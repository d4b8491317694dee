-- The graph of a network's arcs is that of its links.
use Rattle.std.proofs.Common.{◌≡◌, ℕ, zero, suc, Bool, List, [], ◌∷◌, map, length, get_or, Some, None, Ok, Option, refl, ap, ◌∙◌, subst, MatchOption}
use Rattle.std.proofs.lemmas.List.{length-map}
use mathlib.Core.Path.{fun_ext}
use Rattle.graph.specs.declared.arc.Arc.{Arc}
use Rattle.graph.specs.Arcs.{blank as no_arc}
use Rattle.network.specs.declared.link.Link.{Link}
use Rattle.network.specs.declared.network.Network.{Network}
use Rattle.network.specs.Arcs.{arc_of}
use Rattle.network.specs.Limits.{blank as no_link}
use Rattle.network.specs.Networks.{link_list, node_count}
use Rattle.paths.specs.Pairs.{Digraph, NoPair}
use Rattle.routing.specs.declared.path.Pair.{Pair}
use Rattle.routing.specs.Answer.{link_graph, refusal, Answers}
use Rattle.routing.specs.Found.{Best}
use Rattle.routing.specs.Views.{arc_graph}

-- the arc of the link at e, past the end too
arc_at : (links : List Link) (e : ℕ) → get_or (map arc_of links) e no_arc ≡ arc_of (get_or links e no_link)
arc_at [] e = refl
arc_at (x ∷ links) zero = refl
arc_at (x ∷ links) (suc e) = arc_at links e

of_links : (links : List Link) → arc_graph (map arc_of links) ≡ link_graph links
of_links links = λ i. record {
  size = length-map links arc_of i;
  tail = fun_ext (λ e. ap (λ a. a.tail) (arc_at links e)) i;
  head = fun_ext (λ e. ap (λ a. a.head) (arc_at links e)) i;
  weight = fun_ext (λ e. ap (λ a. a.weight) (arc_at links e)) i;
}

pub graph_same : (links : List Link) (arcs : List Arc) → arcs ≡ map arc_of links → arc_graph arcs ≡ link_graph links
graph_same links arcs e = ap arc_graph e ∙ of_links links

pub count_same : (links : List Link) (arcs : List Arc) → arcs ≡ map arc_of links → length arcs ≡ length links
count_same links arcs e = ap length e ∙ length-map links arc_of

pub found_answers : (net : Network) (U : ℕ → Bool) (s t words entries : ℕ) (g : Digraph) (r : Option Pair) →
    refusal (node_count net) (length (link_list net)) s t words entries ≡ None → g ≡ link_graph (link_list net) →
    MatchOption r (NoPair g U s t) (λ p. Best g U s t p) → Answers net U s t words entries (Ok r)
found_answers net U s t words entries g None h e N = (h, subst (λ (x : Digraph). NoPair x U s t) e N)
found_answers net U s t words entries g (Some p) h e B = (h, subst (λ (x : Digraph). Best x U s t p) e B)
