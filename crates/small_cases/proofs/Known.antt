-- The pairs of the small networks.
use Rattle.std.proofs.Common.{◌≡◌, ℕ, zero, suc, ◌+◌, ◌<◌, ◌≤◌, Bool, true, false, List, [], ◌∷◌, refl, ap, ◌∙◌, arith, below_more, below_none, rules}
use Rattle.std.specs.List.{AllByRecursion}
use Rattle.paths.specs.Pairs.{Absent, CheapestCosts, Digraph, NoPair, Pair, Walk, cost, every}
use Rattle.paths.specs.Flow.{Carries, Certified, over}
use Rattle.paths.proofs.Agree.{cheapest_costs}
use Rattle.paths.proofs.Duality.{optimal}
use Rattle.routing.specs.Answer.{link_graph}
use Rattle.small_cases.specs.Networks.{diamond, parallel, single}
use Rattle.small_cases.specs.Cases.{WorkingIs}

-- a pair that costs no more than a certified set of arcs that carries two is a cheapest one
certified_costs : (net : Digraph) (s t : ℕ) (p q : List ℕ) (F : ℕ → Bool) (π : ℕ → ℕ) → Pair net every s t p q → Certified net every F π →
    Carries net F (s ∷ s ∷ []) (t ∷ t ∷ []) → cost net p + cost net q ≤ over net F net.weight → CheapestCosts net every s t (cost net p + cost net q)
certified_costs net s t p q F π P C K most =
    cheapest_costs net every s t p q (record { pair = P; least = λ p' q' P'. omega (arith, optimal net every F π s t C K p' q' P') })

-- ---- the diamond: all links but 1→2 carry two
abbrev sides : ℕ → Bool
sides zero = true
sides (suc zero) = false
sides (suc (suc e)) = true

abbrev height : ℕ → ℕ
height zero = 0
height (suc zero) = 3
height (suc (suc zero)) = 4
height (suc (suc (suc v))) = 7

below_5 : (P : ℕ → Type 0) → P 0 → P 1 → P 2 → P 3 → P 4 → (e : ℕ) → e < 5 → P e
below_5 P a b c d f = below_more P 4 (below_more P 3 (below_more P 2 (below_more P 1 (below_more P 0 (below_none P) a) b) c) d) f

pub diamond_10 : CheapestCosts (link_graph diamond) every 0 3 10
diamond_10 = certified_costs (link_graph diamond) 0 3 (0 ∷ 4 ∷ []) (3 ∷ 2 ∷ []) sides height (search rules)
    (record {
      within = λ e l q. refl;
      used = below_5 _ (search rules) (search rules) (search rules) (search rules) (search rules);
      free = below_5 _ (λ y z. cc) (λ y z. omega arith) (λ y z. cc) (λ y z. cc) (λ y z. cc);
    })
    (λ π. omega arith)
    (omega arith)

-- ---- links from 0 to 1: a path is one of them
one_link : (net : Digraph) → ((e : ℕ) → e < net.size → (net.tail e ≡ 0) × (net.head e ≡ 1)) →
    (ls : List ℕ) → Walk net 0 ls 1 → (e : ℕ) × (e < net.size) × (ls ≡ e ∷ [])
one_link net all [] w = absurd (omega arith)
one_link net all (e ∷ []) w = (e, w.0, refl)
one_link net all (e ∷ f ∷ ls) w = absurd (omega (arith, (all e w.0).1, (all f w.2.0).0, w.2.1))

shared : (p q : List ℕ) (e : ℕ) → p ≡ e ∷ [] → q ≡ e ∷ [] → AllByRecursion (λ x. Absent x q) p → ⊥
shared p q e i j a = let b = simp (i, j) at a in b.0.0 refl

below_2 : (P : ℕ → Type 0) → P 0 → P 1 → (e : ℕ) → e < 2 → P e
below_2 P a b = below_more P 1 (below_more P 0 (below_none P) a) b

abbrev rise : ℕ → ℕ
rise zero = 0
rise (suc v) = 2

pub parallel_3 : CheapestCosts (link_graph parallel) every 0 1 3
parallel_3 = certified_costs (link_graph parallel) 0 1 (0 ∷ []) (1 ∷ []) every rise (search rules)
    (record { within = λ e l q. refl; used = below_2 _ (λ z. omega arith) (λ z. omega arith); free = λ e l y z. cc })
    (λ π. omega arith)
    (omega arith)

-- the working path is not link 1: that is dearer than link 0
works_on_0 : (e f : ℕ) (p q : List ℕ) → e < 2 → f < 2 → p ≡ e ∷ [] → q ≡ f ∷ [] → AllByRecursion (λ x. Absent x q) p → cost (link_graph parallel) p ≤ cost (link_graph parallel) q → p ≡ 0 ∷ []
works_on_0 zero f p q l m i j a c = i
works_on_0 (suc zero) zero p q l m i j a c = absurd (omega (arith, c, ap (cost (link_graph parallel)) i, ap (cost (link_graph parallel)) j))
works_on_0 (suc zero) (suc zero) p q l m i j a c = absurd (shared p q 1 i j a)
works_on_0 (suc zero) (suc (suc f)) p q l m i j a c = absurd (omega arith)
works_on_0 (suc (suc e)) f p q l m i j a c = absurd (omega arith)

pub parallel_0 : WorkingIs parallel 0 1 (0 ∷ [])
parallel_0 p q C W =
    let P = one_link (link_graph parallel) (below_2 _ (refl, refl) (refl, refl)) p C.pair.one.walk in
    let Q = one_link (link_graph parallel) (below_2 _ (refl, refl) (refl, refl)) q C.pair.two.walk in
    works_on_0 P.0 Q.0 p q P.1 Q.1 P.2 Q.2 C.pair.apart W.cheaper

pub single_none : NoPair (link_graph single) every 0 1
single_none p q P =
    let only : (e : ℕ) → e < 1 → ((link_graph single).tail e ≡ 0) × ((link_graph single).head e ≡ 1) = below_more _ 0 (below_none _) (refl, refl) in
    let A = one_link (link_graph single) only p P.one.walk in
    let B = one_link (link_graph single) only q P.two.walk in
    shared p q 0 (A.2 ∙ ap (λ e. e ∷ []) (zero_only A.0 A.1)) (B.2 ∙ ap (λ e. e ∷ []) (zero_only B.0 B.1)) P.apart
  where
    zero_only : (e : ℕ) → e < 1 → e ≡ 0
    zero_only e l = omega arith
