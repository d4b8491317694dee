use Rattle.std.proofs.Common.{◌-◌, ◌*◌, ◌≤◌}
use Rattle.network.specs.Networks.{node_count}
use Rattle.trials.specs.Tallies.{Agreed}
use Rattle.trials.proofs.compare.Trial.try_all.Given as goal

abbrev pub invariant-loop-source : goal.invariant-loop-source
invariant-loop-source l = record {
  agreed : Agreed 1 (l.source * (node_count l.self.network.now - 1)) l.tally;
  few : l.tally.queries ≤ 31 * l.source;
}
