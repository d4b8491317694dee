use Rattle.paths.proofs.Duality.{telescopes, optimal}
use Rattle.paths.proofs.Cut.{no_pair, no_path}
use Rattle.paths.proofs.pairs_stand.Goals as goal

pub returns : goal.returns
returns c = record { telescope = telescopes; cheapest = optimal; nopair = no_pair; nopath = no_path }
