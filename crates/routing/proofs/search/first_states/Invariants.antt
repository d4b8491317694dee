use Rattle.std.proofs.Common.{◌≡◌, ℕ, ◌<◌, ◌≤◌, cond, length}
use Rattle.routing.specs.declared.state.State.TheVariants.{LeftOut, Free}
use Rattle.routing.specs.Entries.{state_at}
use Rattle.routing.specs.Found.{allowed}
use Rattle.routing.proofs.search.first_states.Given as goal

abbrev pub invariant-loop-e : goal.invariant-loop-e
invariant-loop-e l =
    (length l.states ≡ 128)
    × ((k : ℕ) → k < l.e → state_at l.states k ≡ cond (allowed l.usable k) Free LeftOut)
    × ((k : ℕ) → l.e ≤ k → k < 128 → state_at l.states k ≡ LeftOut)
