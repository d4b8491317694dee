-- How a network lies in words of 32 bits, of which bits 31–28 are the kind.
use Rattle.std.specs.Prelude.{ℕ, ◌+◌, ◌-◌, ◌*◌, ◌/◌, ◌%◌, ◌^◌, min, List, [], ◌∷◌, length, slice_index}
use Rattle.network.specs.declared.link.Link.{Link}

-- the kind of a word: what stands above bit 27
abbrev pub kind : ℕ → ℕ
kind w = w / 2 ^ 28

-- bits high down to low of a word
abbrev pub bits : ℕ → ℕ → ℕ → ℕ
bits w high low = w / 2 ^ low % 2 ^ (high - low + 1)

-- kind 1, the header: nodes in bits 27–16, the number of links in 15–0
abbrev pub header_word : ℕ → ℕ → ℕ
header_word nodes links = 1 * 2 ^ 28 + nodes * 2 ^ 16 + links

-- kind 2: tail in bits 27–22, head in 21–16, cost in 15–0
abbrev pub ends_word : Link → ℕ
ends_word x = 2 * 2 ^ 28 + x.tail * 2 ^ 22 + x.head * 2 ^ 16 + x.cost

-- kind 3: capacity in bits 27–12, ceiling in 11–5, zero in 4–0
abbrev pub limits_word : Link → ℕ
limits_word x = 3 * 2 ^ 28 + x.capacity * 2 ^ 12 + x.ceiling * 2 ^ 5

-- two words for each link, in order
abbrev pub link_words : List Link → List ℕ
link_words [] = []
link_words (x ∷ xs) = ends_word x ∷ limits_word x ∷ link_words xs

-- the words of the network of n nodes with these links
abbrev pub network_words : ℕ → List Link → List ℕ
network_words n links = header_word n (length links) ∷ link_words links

-- the number of nodes that the header of a list of words gives
abbrev pub nodes_in : List ℕ → ℕ
nodes_in ws = bits (slice_index ws 0) 27 16

-- the number of links that it gives
abbrev pub links_in : List ℕ → ℕ
links_in ws = bits (slice_index ws 0) 15 0

-- how many words at the front are the network's, by the header
abbrev pub extent_of : List ℕ → ℕ
extent_of ws = min (length ws) (1 + 2 * links_in ws)
