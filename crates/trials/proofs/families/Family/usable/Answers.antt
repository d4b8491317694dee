use Rattle.std.proofs.Common.{true, false, replicate, sym, subst}
use lib.ListN.{get_or-replicate}
use Rattle.trials.specs.declared.families.Family.{Family}
use Rattle.trials.specs.Families.{Undisturbed}
use Rattle.trials.proofs.families.Family.usable.Goals as goal

pub returns-in-All : goal.returns-in-All
returns-in-All c =
    subst (λ (family : Family). Undisturbed family (replicate 128 true)) (sym c.in-All.is) (λ e l. get_or-replicate 128 e true false l)
