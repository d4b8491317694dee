-- What the steps of the reader give.
use Rattle.std.specs.Prelude.{◌≡◌, ℕ, ◌+◌, ◌*◌, List, length, None, Option, slice_index, slice_index_or}
use Rattle.std.specs.Option.{option_or}
use Rattle.network.specs.declared.fault.Fault.{Fault}
use Rattle.network.specs.declared.link.Link.{Link}
use Rattle.network.specs.declared.reader.Reader.{Reader}
use Rattle.network.specs.declared.word.Word.{Word}
use Rattle.network.specs.Format.{bits, ends_word, limits_word, nodes_in, links_in}
use Rattle.network.specs.Limits.{SoundLink}
use Rattle.network.specs.Refusals.{GoodHeader, ends_fault, limits_fault}

-- all words of a reader
abbrev pub words_of : Reader → List ℕ
words_of r = r.words.now

-- the word that it reads next
abbrev pub upcoming : Reader → Word
upcoming r = record { place = r.place; bits = slice_index (words_of r) r.place }

-- the reader once it has read so many words more
abbrev pub past : Reader → ℕ → Reader
past r k = record r { place = r.place + k }

-- a word without fault gives its fields: tail, head and cost
abbrev pub GivesEnds : ℕ → ℕ → ℕ → ℕ × ℕ × ℕ → Type 0
GivesEnds n p w (tail, head, cost) =
    (ends_fault n p w ≡ None) × (tail ≡ bits w 27 22) × (head ≡ bits w 21 16) × (cost ≡ bits w 15 0)

-- capacity and ceiling
abbrev pub GivesLimits : ℕ → ℕ → ℕ × ℕ → Type 0
GivesLimits p w (capacity, ceiling) =
    (limits_fault p w ≡ None) × (capacity ≡ bits w 27 12) × (ceiling ≡ bits w 11 5)

-- the fault of a link whose two words stand from place p on: that of the first word, else that of the second
abbrev pub link_fault : ℕ → List ℕ → ℕ → Option Fault
link_fault n ws p = option_or (ends_fault n p (slice_index ws p)) (limits_fault (p + 1) (slice_index ws (p + 1)))

-- the two words from place p on are those of a link within the limits
pub record GivesLink (n : ℕ) (ws : List ℕ) (p : ℕ) (x : Link) : Type 0 where
  pub clean : link_fault n ws p ≡ None
  pub sound : SoundLink n x
  pub ends : slice_index_or ws p 0 ≡ ends_word x
  pub limits : slice_index_or ws (p + 1) 0 ≡ limits_word x

-- the header is good, it gives n nodes, and there are as many words as it says
pub record GivesNodes (ws : List ℕ) (n : ℕ) : Type 0 where
  pub header : GoodHeader (slice_index ws 0)
  pub long : length ws ≡ 1 + 2 * links_in ws
  pub nodes : n ≡ nodes_in ws
