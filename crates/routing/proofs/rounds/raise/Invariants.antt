use Rattle.std.proofs.Common.{◌≡◌, ℕ, ◌+◌, ◌<◌, ◌≤◌, length}
use Rattle.routing.specs.Entries.{node_at, reach_at, pot}
use Rattle.routing.specs.Back.{lift}
use Rattle.routing.proofs.rounds.raise.Given as goal

abbrev pub invariant-loop-entry : goal.invariant-loop-entry
invariant-loop-entry l =
    ((j : ℕ) → j < l.entry-index → pot l.pots (node_at l.entries j) ≡ pot l.initial.pots (node_at l.entries j) + lift (reach_at l.entries j) l.far)
    × ((j : ℕ) → l.entry-index ≤ j → j < length l.entries → pot l.pots (node_at l.entries j) ≡ pot l.initial.pots (node_at l.entries j))
