-- What the decimal of a number is.
use Rattle.std.specs.Prelude.{◌≡◌, ℕ, ◌+◌, ◌-◌, ◌*◌, ◌<◌, ◌≤◌, List, [], ◌∷◌, length, slice_index, slice_index_or}

-- the bytes '0' to '9'
abbrev pub Digit : ℕ → Type 0
Digit byte = (48 ≤ byte) × (byte ≤ 57)

-- n, read on over more digits: each adds itself to ten times the number so far
abbrev pub read_on : ℕ → List ℕ → ℕ
read_on n [] = n
read_on n (byte ∷ bytes) = read_on (10 * n + (byte - 48)) bytes

-- the number that digits write, read from left to right
abbrev pub value : List ℕ → ℕ
value bytes = read_on 0 bytes

-- the bytes are a decimal of n: digits, at least one, whose value is n, and a zero stands first only in the one digit of 0
pub record IsDecimal (n : ℕ) (bytes : List ℕ) : Type 0 where
  pub digits : (i : ℕ) → i < length bytes → Digit (slice_index bytes i)
  pub some : 0 < length bytes
  pub reads : value bytes ≡ n
  pub leads : slice_index_or bytes 0 0 ≡ 48 → (n ≡ 0) × (length bytes ≡ 1)

-- the bytes are the one and only decimal of n
pub record TheDecimal (n : ℕ) (bytes : List ℕ) : Type 0 where
  pub is : IsDecimal n bytes
  pub only : (others : List ℕ) → IsDecimal n others → others ≡ bytes
