use Rattle.std.proofs.Common.{◌-◌, cond, ltb}
use Rattle.trials.specs.Tallies.{Agreed}
use Rattle.trials.proofs.compare.Trial.try_source.Given as goal

abbrev pub invariant-loop-target : goal.invariant-loop-target
invariant-loop-target l = Agreed 0 (l.target - cond (ltb l.source l.target) 1 0) l.tally
