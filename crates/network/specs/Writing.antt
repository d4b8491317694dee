-- What the writing of a network answers, and what the words are then.
use Rattle.std.specs.Prelude.{◌≡◌, ℕ, ◌+◌, ◌*◌, ◌<◌, List, ◌++◌, length, drop, Ok, Err, Result}
use Rattle.network.specs.declared.fault.Fault.{Fault}
use Rattle.network.specs.declared.fault.Fault.TheVariants.{Length}
use Rattle.network.specs.declared.link.Link.{Link}
use Rattle.network.specs.Format.{network_words}

-- The first words are the network's and those past them stay; where there is no room for all of them, nothing changes.
abbrev pub Written : ℕ → List Link → List ℕ → Result ℕ Fault → List ℕ → Type 0
Written n links before (Ok count) after =
    (count ≡ 1 + 2 * length links) × (after ≡ network_words n links ++ drop count before)
Written n links before (Err f) after =
    (length before < 1 + 2 * length links) × (f ≡ Length (length before)) × (after ≡ before)
