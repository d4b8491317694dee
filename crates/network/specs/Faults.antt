-- The number and the place of each fault.
use Rattle.std.specs.Prelude.{ℕ, Some, None, Option}
use Rattle.network.specs.declared.fault.Fault.{Fault}
use Rattle.network.specs.declared.fault.Fault.TheVariants.{NoWord, Header, Length, Kind, Ends, Cost, Limits, NoMemory}

-- Want of memory says nothing against the words, so it has no number.
abbrev pub number_of : Fault → Option ℕ
number_of NoWord = Some 1
number_of Header = Some 2
number_of (Length words) = Some 3
number_of (Kind place) = Some 4
number_of (Ends place) = Some 5
number_of (Cost place) = Some 6
number_of (Limits place) = Some 7
number_of NoMemory = None

-- The place of a word, from 0; of a wrong number of words, that number.
abbrev pub place_of : Fault → Option ℕ
place_of NoWord = Some 0
place_of Header = Some 0
place_of (Length words) = Some words
place_of (Kind place) = Some place
place_of (Ends place) = Some place
place_of (Cost place) = Some place
place_of (Limits place) = Some place
place_of NoMemory = None
