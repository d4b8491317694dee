-- Words of 32 bits in bytes.
use Rattle.std.specs.Prelude.{◌≡◌, ℕ, ◌+◌, ◌*◌, ◌/◌, ◌<◌, List, length, slice_index}

-- the word whose four bytes begin at i, most significant byte first
abbrev pub word_at : List ℕ → ℕ → ℕ
word_at bytes i = slice_index bytes i * 16777216 + slice_index bytes (i + 1) * 65536 + slice_index bytes (i + 2) * 256 + slice_index bytes (i + 3)

-- the words are those of the bytes, four bytes each; one to three bytes at the end are no word
pub record IsWords (bytes words : List ℕ) : Type 0 where
  pub count : length words ≡ length bytes / 4
  pub each : (k : ℕ) → k < length words → slice_index words k ≡ word_at bytes (4 * k)
