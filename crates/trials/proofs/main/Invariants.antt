use Rattle.std.proofs.Common.{◌*◌}
use Rattle.trials.specs.Tallies.{AllAgreed}
use Rattle.trials.proofs.main.Given as goal

abbrev pub invariant-loop-family : goal.invariant-loop-family
invariant-loop-family l = AllAgreed (100 * l.family-index) l.total
