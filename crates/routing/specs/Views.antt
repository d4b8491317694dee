-- A graph as a search is given it.
use Rattle.std.specs.Prelude.{List, length}
use Rattle.graph.specs.declared.arc.Arc.{Arc}
use Rattle.graph.specs.declared.graph.Graph.{Graph}
use Rattle.graph.specs.Arcs.{tail_of, head_of, weight_of}
use Rattle.graph.specs.Graphs.{arc_list}
use Rattle.paths.specs.Pairs.{Digraph}

-- the directed graph of a list of arcs
abbrev pub arc_graph : List Arc → Digraph
arc_graph arcs = record { size = length arcs; tail = tail_of arcs; head = head_of arcs; weight = weight_of arcs }

abbrev pub net_of : Graph → Digraph
net_of g = arc_graph (arc_list g)
