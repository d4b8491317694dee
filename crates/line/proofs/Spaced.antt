-- Numbers that are appended to a line one by one.
use Rattle.std.proofs.Common.{ℕ, ◌+◌, ◌<◌, ◌≤◌, List, ◌∷◌, length, get_or, take, decimal, arith, length-append}
use Rattle.std.proofs.lemmas.List.Folds.{length-flat_map-take}
use Rattle.line.specs.Held.{spaced}

-- the next number behind those so far takes no more than all
pub next_fits : (numbers : List ℕ) (i : ℕ) → i < length numbers → length (spaced (take i numbers)) + (1 + length (decimal (get_or numbers i 0))) ≤ length (spaced numbers)
next_fits numbers i h = omega (arith, length-flat_map-take (λ n. 32 ∷ decimal n) numbers i 0 h)

-- the sizes of the pieces that stand behind one another
pub ruleset fitting = (length-append, next_fits)
