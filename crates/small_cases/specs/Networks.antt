-- Small networks.
use Rattle.std.specs.Prelude.{ℕ, List, [], ◌∷◌}
use Rattle.network.specs.declared.link.Link.{Link}

-- a link from a node to another at a cost, with capacity 10 and ceiling 64
abbrev pub link : ℕ → ℕ → ℕ → Link
link u v c = record { tail = u; head = v; cost = c; capacity = 10; ceiling = 64 }

-- the cheapest path from 0 to 3 is 0→1→2→3, and no pair has it: without its links nothing leads on
abbrev pub diamond : List Link
diamond = link 0 1 1 ∷ link 1 2 1 ∷ link 2 3 1 ∷ link 0 2 4 ∷ link 1 3 4 ∷ []

-- two links from 0 to 1
abbrev pub parallel : List Link
parallel = link 0 1 1 ∷ link 0 1 2 ∷ []

-- one link from 0 to 1
abbrev pub single : List Link
single = link 0 1 1 ∷ []
