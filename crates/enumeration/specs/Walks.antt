-- The paths that the enumeration follows, link by link.
use Rattle.std.specs.Prelude.{◌≡◌, ℕ, ◌+◌, ◌<◌, ◌≤◌, Bool, true, false, not, ◌&&◌, List, [], ◌∷◌, length, get_or, replicate, count_by, ◌==◌, slice_index_or, slice_set}
use Rattle.enumeration.specs.declared.trail.Trail.{Trail}
use Rattle.network.specs.declared.link.Link.{Link}
use Rattle.network.specs.Limits.{blank}
use Rattle.paths.specs.Pairs.{Digraph, cost}

-- only the node s is seen, of 32
abbrev pub only : ℕ → List Bool
only s = slice_set (replicate 32 false) s true

-- a trail that has visited only s
abbrev pub begun : List Bool → ℕ → Trail
begun free s = record { free = free; seen = only s; node = s }

-- the link e from u to v leads on: it is free and starts at the last node, and v is not seen
abbrev pub leads_on : Trail → ℕ → ℕ → ℕ → Bool
leads_on trail e u v = slice_index_or trail.free e false && (u == trail.node && not (slice_index_or trail.seen v false))

-- the trail once it has followed the link e to v
abbrev pub followed : Trail → ℕ → ℕ → Trail
followed trail e v = record { free = slice_set trail.free e false; seen = slice_set trail.seen v true; node = v }

-- the links ls lead the trail on to t; each leads on where the one before it ends
abbrev pub Onward : Digraph → Trail → List ℕ → ℕ → Type 0
Onward net trail [] t = trail.node ≡ t
Onward net trail (e ∷ ls) t =
    (e < net.size) × (leads_on trail e (net.tail e) (net.head e) ≡ true) × Onward net (followed trail e (net.head e)) ls t

-- the links that are free once the links of a list are taken
abbrev pub left : List Bool → List ℕ → List Bool
left free [] = free
left free (e ∷ ls) = left (slice_set free e false) ls

-- each of the paths leads from s to t over links that are free, and that the paths before it did not take
abbrev pub Each : Digraph → ℕ → ℕ → List Bool → List (List ℕ) → Type 0
Each net s t free [] = Unit {0}
Each net s t free (q ∷ qs) = Onward net (begun free s) q t × Each net s t (left free q) qs

-- the first list leads the trail on to t, and k others are paths from s to t; no link is taken twice
abbrev pub Completed : Digraph → ℕ → ℕ → ℕ → Trail → List ℕ × List (List ℕ) → Type 0
Completed net s t k trail x = Onward net trail x.0 t × Each net s t (left trail.free x.0) x.1 × (length x.1 ≡ k)

-- what paths cost together
abbrev pub costs : Digraph → List (List ℕ) → ℕ
costs net [] = 0
costs net (q ∷ qs) = cost net q + costs net qs

-- what the first list and the others cost together
abbrev pub completed_cost : Digraph → List ℕ × List (List ℕ) → ℕ
completed_cost net x = cost net x.0 + costs net x.1

-- the first link of the list is one of those below k
abbrev pub BeginsBelow : ℕ → List ℕ → Type 0
BeginsBelow k [] = ⊥
BeginsBelow k (e ∷ ls) = e < k

-- how many nodes are not seen
abbrev pub unseen : List Bool → ℕ
unseen seen = count_by not seen

-- at most 128 links, each to one of 32 nodes and at a cost of at most 65,535
pub record Limited (links : List Link) : Type 0 where
  pub few : length links ≤ 128
  pub heads : (e : ℕ) → e < length links → (get_or links e blank).head < 32
  pub costs : (e : ℕ) → e < length links → (get_or links e blank).cost ≤ 65535
