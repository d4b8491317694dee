use Rattle.network.proofs.Put.{Puts}
use Rattle.network.proofs.network.Network.write.Given as goal

abbrev pub invariant-loop-e : goal.invariant-loop-e
invariant-loop-e l = Puts l.links l.initial.words l.words l.e
