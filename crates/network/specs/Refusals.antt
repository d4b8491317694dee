-- Which words are refused, and with which fault: the first that applies.
use Rattle.std.specs.Prelude.{◌≡◌, ℕ, ◌+◌, ◌*◌, ◌%◌, ◌<◌, ◌≤◌, Bool, cond, not, ◌&&◌, List, [], length, Some, None, Option, ◌==◌, ◌≢◌, nat_le, nat_lt, slice_index}
use Rattle.network.specs.declared.fault.Fault.{Fault}
use Rattle.network.specs.declared.fault.Fault.TheVariants.{NoWord, Header, Length, Kind, Ends, Cost, Limits, NoMemory}
use Rattle.network.specs.declared.link.Link.{Link}
use Rattle.network.specs.Format.{bits, kind, network_words, nodes_in, links_in}
use Rattle.network.specs.Limits.{Sound}

-- a header of kind 1 with 2 to 32 nodes and 1 to 128 links
pub record GoodHeader (w : ℕ) : Type 0 where
  pub first : kind w ≡ 1
  pub nodes_above : 2 ≤ bits w 27 16
  pub nodes_below : bits w 27 16 ≤ 32
  pub links_above : 1 ≤ bits w 15 0
  pub links_below : bits w 15 0 ≤ 128

-- the fault where a rule is not kept, else what comes after it
abbrev pub unless : Bool → Fault → Option Fault → Option Fault
unless kept f later = cond kept later (Some f)

-- the fault of the word at a place p that gives the ends and the cost of a link, among n nodes
abbrev pub ends_fault : ℕ → ℕ → ℕ → Option Fault
ends_fault n p w =
    unless (kind w == 2) (Kind p)
    (unless (nat_lt (bits w 27 22) n && nat_lt (bits w 21 16) n && not (bits w 27 22 == bits w 21 16)) (Ends p)
    (unless (nat_lt 0 (bits w 15 0)) (Cost p) None))

-- the fault of the word at a place p that gives the capacity and the ceiling of a link
abbrev pub limits_fault : ℕ → ℕ → Option Fault
limits_fault p w =
    unless (kind w == 3) (Kind p)
    (unless (nat_lt 0 (bits w 27 12) && nat_le (bits w 11 5) 64 && bits w 4 0 == 0) (Limits p) None)

-- the fault of the link word at a place: at odd places it gives the ends, at even ones the limits
abbrev pub word_fault : ℕ → ℕ → ℕ → Option Fault
word_fault n p w = cond (p % 2 == 1) (ends_fault n p w) (limits_fault p w)

-- the fault of the link word at a place of a list of words
abbrev pub fault_at : List ℕ → ℕ → Option Fault
fault_at ws p = word_fault (nodes_in ws) p (slice_index ws p)

-- no link word below a place has a fault
abbrev pub CleanBelow : List ℕ → ℕ → Type 0
CleanBelow ws place = (p : ℕ) → p < place → 1 ≤ p → fault_at ws p ≡ None

-- the header is good, there are as many words as it says, the link word at the place has the fault, and none before it has any
pub record FirstFault (ws : List ℕ) (place : ℕ) (f : Fault) : Type 0 where
  pub header : GoodHeader (slice_index ws 0)
  pub long : length ws ≡ 1 + 2 * links_in ws
  pub from : 1 ≤ place
  pub within : place < length ws
  pub here : fault_at ws place ≡ Some f
  pub before : CleanBelow ws place

-- the words are refused with the fault; want of memory is told only of a network's words
abbrev pub Refuses : List ℕ → Fault → Type 0
Refuses ws NoWord = ws ≡ []
Refuses ws Header = (0 < length ws) × (GoodHeader (slice_index ws 0) → ⊥)
Refuses ws (Length words) =
    (0 < length ws) × GoodHeader (slice_index ws 0) × (length ws ≢ 1 + 2 * links_in ws) × (words ≡ length ws)
Refuses ws (Kind place) = FirstFault ws place (Kind place)
Refuses ws (Ends place) = FirstFault ws place (Ends place)
Refuses ws (Cost place) = FirstFault ws place (Cost place)
Refuses ws (Limits place) = FirstFault ws place (Limits place)
Refuses ws NoMemory = (n : ℕ) × (links : List Link) × Sound n links × (ws ≡ network_words n links)
