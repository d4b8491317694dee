-- Directed graphs, paths, and the cheapest pair of paths with no common arc.
use Rattle.std.specs.Prelude.{◌≡◌, ℕ, ◌+◌, ◌<◌, ◌≤◌, Bool, true, List, [], ◌∷◌, map, ◌≢◌, slice_index}
use Rattle.std.specs.List.{AllByRecursion}

-- A directed graph with a weight on each arc. Its arcs are the numbers below `size`; nodes are numbers too.
pub record Digraph : Type 0 where
  pub size : ℕ
  pub tail : ℕ → ℕ
  pub head : ℕ → ℕ
  pub weight : ℕ → ℕ

-- x is none of the numbers of the list
abbrev pub Absent : ℕ → List ℕ → Type 0
Absent x ys = AllByRecursion (λ y. x ≢ y) ys

-- no number stands twice in the list
abbrev pub Distinct : List ℕ → Type 0
Distinct [] = Unit {0}
Distinct (x ∷ xs) = Absent x xs × Distinct xs

-- the sum of w over the numbers of a list
abbrev pub sum : (ℕ → ℕ) → List ℕ → ℕ
sum w [] = 0
sum w (x ∷ xs) = w x + sum w xs

-- what the arcs of a list cost together
abbrev pub cost : Digraph → List ℕ → ℕ
cost net ls = sum net.weight ls

-- the arcs ls lead one after another from u to v
abbrev pub Walk : Digraph → ℕ → List ℕ → ℕ → Type 0
Walk net u [] v = u ≡ v
Walk net u (e ∷ ls) v = (e < net.size) × (net.tail e ≡ u) × Walk net (net.head e) ls v

-- the nodes that a walk from u along ls visits, in order
abbrev pub nodes : Digraph → ℕ → List ℕ → List ℕ
nodes net u ls = u ∷ map net.head ls

-- a path from u to v: it follows usable arcs and visits no node twice
pub record Path (net : Digraph) (usable : ℕ → Bool) (u : ℕ) (ls : List ℕ) (v : ℕ) : Type 0 where
  pub walk : Walk net u ls v
  pub allowed : AllByRecursion (λ e. usable e ≡ true) ls
  pub simple : Distinct (nodes net u ls)

-- two paths from s to t with no common arc
pub record Pair (net : Digraph) (usable : ℕ → Bool) (s t : ℕ) (p q : List ℕ) : Type 0 where
  pub one : Path net usable s p t
  pub two : Path net usable s q t
  pub apart : AllByRecursion (λ e. Absent e q) p

-- a pair that costs no more than any other, both paths together
pub record Cheapest (net : Digraph) (usable : ℕ → Bool) (s t : ℕ) (p q : List ℕ) : Type 0 where
  pub pair : Pair net usable s t p q
  pub least : (p' q' : List ℕ) → Pair net usable s t p' q' → cost net p + cost net q ≤ cost net p' + cost net q'

-- there is a cheapest pair, and each one costs c
pub record CheapestCosts (net : Digraph) (usable : ℕ → Bool) (s t c : ℕ) : Type 0 where
  pub some : (p : List ℕ) × (q : List ℕ) × Cheapest net usable s t p q
  pub costs : (p q : List ℕ) → Cheapest net usable s t p q → cost net p + cost net q ≡ c

-- there is no pair
abbrev pub NoPair : Digraph → (ℕ → Bool) → ℕ → ℕ → Type 0
NoPair net usable s t = (p q : List ℕ) → Pair net usable s t p q → ⊥

-- p is the working path beside q: the cheaper one, at equal cost the one whose first arc has the lower number
pub record Working (net : Digraph) (p q : List ℕ) : Type 0 where
  pub cheaper : cost net p ≤ cost net q
  pub lower : cost net p ≡ cost net q → slice_index p 0 < slice_index q 0

-- every arc is usable
abbrev pub every : ℕ → Bool
every e = true
