use Rattle.std.proofs.Common.{refl, arith}
use Rattle.std.proofs.lemmas.List.{get_or-replicate}
use Rattle.routing.specs.declared.state.State.TheVariants.{LeftOut}
use Rattle.routing.proofs.search.first_states.Goals as goal

pub loop-e-init : goal.loop-e-init
loop-e-init c = (refl, λ k l. absurd (omega arith), λ k l m. get_or-replicate 128 k LeftOut LeftOut m)
