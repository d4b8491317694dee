-- What finding the cheapest pair rests on.
use Rattle.std.specs.Prelude.{◌≡◌, ℕ, ◌+◌, ◌≤◌, Bool, List, [], ◌∷◌}
use Rattle.paths.specs.Pairs.{Digraph, sum, cost, Walk, Path, Pair, NoPair}
use Rattle.paths.specs.Flow.{over, Carries, Certified, Closed}

-- what a walk gains in potential, its arcs gain
abbrev pub WalksTelescope : Type 0
WalksTelescope =
    (net : Digraph) (π : ℕ → ℕ) (u : ℕ) (ls : List ℕ) (v : ℕ) → Walk net u ls v →
    sum (λ e. π (net.head e)) ls + π u ≡ sum (λ e. π (net.tail e)) ls + π v

-- a certified set of arcs that carries two costs at most as much as any pair
abbrev pub CertifiedIsCheapest : Type 0
CertifiedIsCheapest =
    (net : Digraph) (usable F : ℕ → Bool) (π : ℕ → ℕ) (s t : ℕ) → Certified net usable F π → Carries net F (s ∷ s ∷ []) (t ∷ t ∷ []) →
    (p q : List ℕ) → Pair net usable s t p q → over net F net.weight ≤ cost net p + cost net q

-- F carries one and a set of nodes is closed: there is no pair
abbrev pub ClosedAfterOneMeansNoPair : Type 0
ClosedAfterOneMeansNoPair =
    (net : Digraph) (usable F S : ℕ → Bool) (s t : ℕ) → Closed net usable F S s t → Carries net F (s ∷ []) (t ∷ []) → NoPair net usable s t

-- F carries nothing and a set of nodes is closed: there is not even a path
abbrev pub ClosedAtFirstMeansNoPath : Type 0
ClosedAtFirstMeansNoPath =
    (net : Digraph) (usable F S : ℕ → Bool) (s t : ℕ) → Closed net usable F S s t → Carries net F [] [] → (p : List ℕ) → Path net usable s p t → ⊥
