-- What a line holds, by functions of the line: a model would have the same two parts, and no clause would be shorter.
use Rattle.std.specs.Prelude.{◌≡◌, ℕ, ◌+◌, ◌≤◌, true, cond, List, ◌∷◌, ◌++◌, length, is_ok, vec_items, vec_capacity, decimal, Result}
use Rattle.std.specs.List.{flat_map}
use Rattle.line.specs.declared.Line.{Line}

-- the bytes of a line, in the order in which they were appended
abbrev pub held : Line → List ℕ
held line = vec_items line.bytes

-- how many bytes a line can hold before it has to ask for memory
abbrev pub room : Line → ℕ
room line = vec_capacity line.bytes

-- a call that appends bytes to a line: on Ok they stand behind what it held, on Err it holds what it held;
-- it answers Err only where they pass the line's room, and the room never shrinks
pub record Appends {E : Type 0} (before : Line) (bytes : List ℕ) (r : Result (Unit {0}) E) (after : Line) : Type 0 where
  pub holds : held after ≡ cond (is_ok r) (held before ++ bytes) (held before)
  pub succeeds : length (held before) + length bytes ≤ room before → is_ok r ≡ true
  pub grows : room before ≤ room after

-- for each number a space and its decimal
abbrev pub spaced : List ℕ → List ℕ
spaced numbers = flat_map (λ n. 32 ∷ decimal n) numbers
