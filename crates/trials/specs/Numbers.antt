-- The numbers of the generator.
use Rattle.std.specs.Prelude.{ℕ, ◌+◌, ◌*◌, ◌/◌, ◌%◌, ◌^◌}

-- the state after a state
abbrev pub following : ℕ → ℕ
following state = (state * 6364136223846793005 % 2 ^ 64 + 1442695040888963407) % 2 ^ 64

-- the number that a state gives: its upper half
abbrev pub upper : ℕ → ℕ
upper state = state / 2 ^ 32
