use Rattle.trials.specs.Tallies.{AllAgreed}
use Rattle.trials.proofs.families.Family.try_networks.Given as goal

abbrev pub invariant-loop-n : goal.invariant-loop-n
invariant-loop-n l = AllAgreed l._n l.tally
