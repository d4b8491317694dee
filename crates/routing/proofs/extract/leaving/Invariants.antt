use Rattle.std.proofs.Common.{◌≡◌, ℕ, ◌<◌, get_or}
use Rattle.routing.specs.declared.state.State.TheVariants.{Chosen}
use Rattle.routing.specs.Entries.{state_at}
use Rattle.routing.proofs.extract.leaving.Given as goal

abbrev pub invariant-loop-e : goal.invariant-loop-e
invariant-loop-e l = (k : ℕ) → k < l.e-index → state_at l.states (get_or l.e-items k 0) ≡ Chosen → ⊥
