use Rattle.std.proofs.lemmas.Result.{MatchResult-weaker}
use Rattle.network.proofs.Lawful.{reads_as, refused_for}
use Rattle.network.proofs.reader.read.Goals as goal

pub returns-clause-only : goal.returns-clause-only
returns-clause-only c = MatchResult-weaker c.network.result c.network.ensures (λ net accepted. reads_as _ _ _ accepted) (λ f refused. refused_for _ f refused)
