-- The links as arcs.
use Rattle.graph.specs.declared.arc.Arc.{Arc}
use Rattle.network.specs.declared.link.Link.{Link}

-- the arc of a link: its weight is the cost
abbrev pub arc_of : Link → Arc
arc_of x = record { tail = x.tail; head = x.head; weight = x.cost }
