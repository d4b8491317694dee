use Rattle.std.specs.Prelude.{◌≡◌, ℕ, List, Ok, Err, vec_items, Result}
use Rattle.graph.specs.Arcs.{Within}
use Rattle.graph.specs.declared.arc.Arc.{Arc}
use Rattle.graph.specs.declared.build.GraphFault.{GraphFault}
use Rattle.graph.specs.declared.build.GraphFault.TheVariants.{OutOfLimits, NoMemory}
use Rattle.graph.specs.declared.graph.Graph.{Graph}

-- how many nodes a graph has
abbrev pub node_count : Graph → ℕ
node_count g = g.nodes

-- the arcs of a graph, by number
abbrev pub arc_list : Graph → List Arc
arc_list g = vec_items g.arcs

-- g is the graph of n nodes and of the arcs xs
pub record GraphOf (n : ℕ) (xs : List Arc) (g : Graph) : Type 0 where
  pub within : Within n xs
  pub nodes : node_count g ≡ n
  pub arcs : arc_list g ≡ xs

-- what comes of n nodes and the arcs xs: their graph, or a fault; want of memory is told only within the limits
abbrev pub Made : ℕ → List Arc → Result Graph GraphFault → Type 0
Made n xs (Ok g) = GraphOf n xs g
Made n xs (Err OutOfLimits) = Within n xs → ⊥
Made n xs (Err NoMemory) = Within n xs
