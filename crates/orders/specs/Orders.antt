-- Order words, and what each order is answered.
use Rattle.std.specs.Prelude.{◌≡◌, ℕ, ◌+◌, ◌*◌, Bool, cond, ◌&&◌, List, [], ◌∷◌, length, drop, Some, None, Ok, Err, Option, Result, ◌==◌, nat_le, nat_lt, slice_index_or}
use Rattle.std.specs.Option.{option_or}
use Rattle.network.specs.declared.link.Link.{Link}
use Rattle.network.specs.declared.network.Network.{Network}
use Rattle.network.specs.Format.{bits, kind}
use Rattle.network.specs.Limits.{blank}
use Rattle.network.specs.Networks.{link_list, node_count}
use Rattle.paths.specs.Pairs.{NoPair as NoPairOver}
use Rattle.routing.specs.declared.path.Pair.{Pair}
use Rattle.routing.specs.Answer.{link_graph}
use Rattle.routing.specs.Found.{Best}
use Rattle.orders.specs.declared.order.Reserve.{Reserve}
use Rattle.orders.specs.declared.order.OrderReader.{OrderReader}
use Rattle.orders.specs.declared.order.Unreadable.{Unreadable}
use Rattle.orders.specs.declared.order.Unreadable.TheVariants.{NoOrder}
use Rattle.orders.specs.declared.refusal.Refusal.{Refusal}
use Rattle.orders.specs.declared.refusal.Refusal.TheVariants.{NoSuchNode, SameNode, NoAmount, HoldTime, SerialsUsedUp, ShortBuffer, NoPair}

-- two words that make a reserve: kind 5, then kind 6
abbrev pub is_reserve : ℕ → ℕ → Bool
is_reserve w h = kind w == 5 && kind h == 6

-- source in bits 27–22 of the first word, target in 21–16, amount in 15–0; the hold time in bits 27–0 of the second
abbrev pub reserve_of : ℕ → ℕ → Reserve
reserve_of w h = record { source = bits w 27 22; target = bits w 21 16; amount = bits w 15 0; hold = bits h 27 0 }

-- the words that a reader of orders has not read yet
abbrev pub left : OrderReader → List ℕ
left o = drop o.place o.words.now

-- the order that the words begin with; none where there are no words and no bytes are left over
abbrev pub next_of : List ℕ → Bool → Result (Option Reserve) Unreadable
next_of [] whole = cond whole (Ok None) (Err NoOrder)
next_of (w ∷ []) whole = Err NoOrder
next_of (w ∷ h ∷ rest) whole = cond (is_reserve w h) (Ok (Some (reserve_of w h))) (Err NoOrder)

-- the words after the order that they begin with
abbrev pub after_next : List ℕ → List ℕ
after_next [] = []
after_next (w ∷ []) = w ∷ []
after_next (w ∷ h ∷ rest) = cond (is_reserve w h) rest (w ∷ h ∷ rest)

-- the number of each refusal of a reserve
abbrev pub number_of : Refusal → ℕ
number_of NoSuchNode = 21
number_of SameNode = 22
number_of NoAmount = 23
number_of HoldTime = 24
number_of SerialsUsedUp = 26
number_of ShortBuffer = 27
number_of NoPair = 28

-- what is wrong with an order itself, the first that applies, among so many nodes and where `serial` is the next to give
abbrev pub unfit : ℕ → Reserve → ℕ → Option Refusal
unfit nodes o serial =
    cond (nat_lt o.source nodes && nat_lt o.target nodes)
    (cond (o.source == o.target) (Some SameNode)
    (cond (o.amount == 0) (Some NoAmount)
    (cond (nat_lt 0 o.hold && nat_le o.hold 86400)
    (cond (nat_le serial 268435455) None (Some SerialsUsedUp))
    (Some HoldTime))))
    (Some NoSuchNode)

-- whether so many words and entries are too few for a search
abbrev pub short : ℕ → ℕ → ℕ → ℕ → Option Refusal
short nodes links words entries = cond (nat_le (6 * nodes + 2 * links) words && nat_le nodes entries) None (Some ShortBuffer)

-- the links whose capacity is at least the amount
abbrev pub room_for : List Link → ℕ → ℕ → Bool
room_for links amount e = nat_le amount (slice_index_or links e blank).capacity

-- what an order is answered where `fault` is what is wrong before any search: that, or the best pair over the links with room
-- for it, or that there is no pair
abbrev pub Quoted : Network → Reserve → Option Refusal → Result Pair Refusal → Type 0
Quoted net o fault (Ok p) =
    (fault ≡ None) × Best (link_graph (link_list net)) (room_for (link_list net) o.amount) o.source o.target p
Quoted net o fault (Err NoPair) =
    (fault ≡ None) × NoPairOver (link_graph (link_list net)) (room_for (link_list net) o.amount) o.source o.target
Quoted net o fault (Err NoSuchNode) = fault ≡ Some NoSuchNode
Quoted net o fault (Err SameNode) = fault ≡ Some SameNode
Quoted net o fault (Err NoAmount) = fault ≡ Some NoAmount
Quoted net o fault (Err HoldTime) = fault ≡ Some HoldTime
Quoted net o fault (Err SerialsUsedUp) = fault ≡ Some SerialsUsedUp
Quoted net o fault (Err ShortBuffer) = fault ≡ Some ShortBuffer

-- what is wrong before any search
abbrev pub fault_of : Network → Reserve → ℕ → ℕ → ℕ → Option Refusal
fault_of net o serial words entries = option_or (unfit (node_count net) o serial) (short (node_count net) (length (link_list net)) words entries)
