use Rattle.graph.proofs.graph.Graph.new.Given as goal

abbrev pub ghost-new : goal.ghost-new
ghost-new a = λ arc. arc.tail

abbrev pub ghost-new-2 : goal.ghost-new-2
ghost-new-2 a = λ arc. arc.head
