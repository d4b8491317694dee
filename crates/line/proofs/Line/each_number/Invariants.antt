use Rattle.std.proofs.Common.{◌≡◌, ◌≤◌, ◌++◌, take}
use Rattle.line.specs.Held.{held, room, spaced}
use Rattle.line.proofs.Line.each_number.Given as goal

abbrev pub invariant-loop-number : goal.invariant-loop-number
invariant-loop-number l =
    (held l.self ≡ held l.initial.self ++ spaced (take l.number-index l.numbers))
    × (room l.initial.self ≤ room l.self)
