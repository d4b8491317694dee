-- The limits of the arcs of a network.
use Rattle.std.proofs.Common.{◌≡◌, ℕ, ◌<◌, List, map, length, get_or, ap, arith}
use Rattle.graph.specs.Arcs as graphs
use Rattle.std.proofs.lemmas.List.{get_or-map, length-map}
use Rattle.network.specs.declared.link.Link.{Link}
use Rattle.network.specs.Arcs.{arc_of}
use Rattle.network.specs.Limits.{Sound, blank}

-- the arcs of sound links are within the limits of a graph
pub arcs_within : (n : ℕ) (links : List Link) → Sound n links → graphs.Within n (map arc_of links)
arcs_within n links sound =
    let long = length-map links arc_of in
    let arc : (e : ℕ) → e < length (map arc_of links) → get_or (map arc_of links) e graphs.blank ≡ arc_of (get_or links e blank) =
    λ e lt. get_or-map arc_of links e blank graphs.blank (omega arith) in
    record {
      nodes = (omega arith, omega arith);
      few = omega arith;
      tails = λ e lt. omega (arith, ap (λ x. x.tail) (arc e lt), sound.each e (omega arith));
      heads = λ e lt. omega (arith, ap (λ x. x.head) (arc e lt), sound.each e (omega arith));
      light = λ e lt. omega (arith, ap (λ x. x.weight) (arc e lt), sound.each e (omega arith));
      dear = λ e lt. omega (arith, ap (λ x. x.weight) (arc e lt), sound.each e (omega arith));
    }
