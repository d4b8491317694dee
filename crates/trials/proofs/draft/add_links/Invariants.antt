use Rattle.std.proofs.Common.{vec_items}
use Rattle.trials.specs.Drafts.{Grown}
use Rattle.trials.proofs.draft.add_links.Given as goal

abbrev pub invariant-loop-e : goal.invariant-loop-e
invariant-loop-e l = Grown l.shape.nodes l.shape.low l.shape.high l._e (vec_items l.initial.links) (vec_items l.links)
