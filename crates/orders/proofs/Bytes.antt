-- Chunks of four bytes as words.
use Rattle.std.proofs.Common.{◌≡◌, ℕ, zero, suc, ◌*◌, ◌/◌, ◌<◌, List, map, length, get_or, take, drop, w32, refl, ap, ◌∙◌, arith, get_or-drop}
use Rattle.std.proofs.lemmas.List.{get_or-take, length-map}
use Rattle.std.specs.Int.{from_be_bytes}
use Rattle.std.specs.Simd.{first_chunks}
use Rattle.orders.specs.Words.{IsWords, word_at}

length-chunks : (n : ℕ) (bytes : List ℕ) → length (first_chunks 4 n bytes) ≡ n
length-chunks zero bytes = refl
length-chunks (suc n) bytes = ap suc (length-chunks n (drop 4 bytes))

-- the number of four bytes is the word that they are
first-word : (bytes : List ℕ) → from_be_bytes w32 (take 4 bytes) ≡ word_at bytes 0
first-word bytes = simp (get_or-take 4 bytes 0 0 (omega arith), get_or-take 4 bytes 1 0 (omega arith), get_or-take 4 bytes 2 0 (omega arith), get_or-take 4 bytes 3 0 (omega arith)) (omega arith)

later-word : (bytes : List ℕ) (k : ℕ) → word_at (drop 4 bytes) (4 * k) ≡ word_at bytes (4 * suc k)
later-word bytes k = grind (arith, get_or-drop)

each-word : (n : ℕ) (bytes : List ℕ) (k : ℕ) → k < n → get_or (map (λ b. from_be_bytes w32 b) (first_chunks 4 n bytes)) k 0 ≡ word_at bytes (4 * k)
each-word (suc n) bytes zero l = first-word bytes
each-word (suc n) bytes (suc k) l = each-word n (drop 4 bytes) k (omega arith) ∙ later-word bytes k
each-word zero bytes k l = absurd (omega arith)

pub are_words : (bytes words : List ℕ) → words ≡ map (λ b. from_be_bytes w32 b) (first_chunks 4 (length bytes / 4) bytes) → IsWords bytes words
are_words bytes words e = record {
  count = ap length e ∙ length-map _ _ ∙ length-chunks (length bytes / 4) bytes;
  each = λ k l. ap (λ ws. get_or ws k 0) e ∙ each-word (length bytes / 4) bytes k (omega (arith, ap length e, length-map (first_chunks 4 (length bytes / 4) bytes) (λ b. from_be_bytes w32 b), length-chunks (length bytes / 4) bytes));
}
