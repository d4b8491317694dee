-- A closed set of nodes bounds how many arc-disjoint paths there are.
use Rattle.std.proofs.Common.{◌≡◌, ℕ, ◌+◌, ◌<◌, ◌≤◌, Bool, true, false, cond, List, [], ◌∷◌, ◌++◌, refl, ap, arith}
use Rattle.paths.specs.Pairs.{Digraph, sum, Path, NoPair}
use Rattle.paths.specs.Flow.{Carries, Closed}
use Rattle.paths.proofs.Duality.{telescopes, path_arcs, pair_arcs, pair_telescopes, weak_duality}

sum_zero : (ls : List ℕ) → sum (λ _. 0) ls ≡ 0
sum_zero [] = refl
sum_zero (e ∷ ls) = omega (arith, sum_zero ls)

-- 1 outside S, 0 in it
abbrev outside : (ℕ → Bool) → ℕ → ℕ
outside S v = cond (S v) 0 1

outside_le : (a b : Bool) → (b ≡ true → a ≡ true) → cond a 0 1 ≤ cond b 0 1
outside_le true b h = omega arith
outside_le false true h = let e : false ≡ true = h refl in let z : ◌≡◌ {A = ℕ} 0 1 = cc in omega arith
outside_le false false h = omega arith

module _ (net : Digraph) (usable F S : ℕ → Bool) (s t : ℕ) (C : Closed net usable F S s t) where
  starts : outside S s ≡ 0
  starts = ap (λ b. cond b 0 1) C.start

  ends : outside S t ≡ 1
  ends = ap (λ b. cond b 0 1) C.end

  used : (e : ℕ) → e < net.size → F e ≡ true → 0 + outside S (net.tail e) ≤ outside S (net.head e)
  used e l f = omega (arith, outside_le (S (net.tail e)) (S (net.head e)) (C.back e l f))

  free : (e : ℕ) → e < net.size → usable e ≡ true → F e ≡ false → outside S (net.head e) ≤ 0 + outside S (net.tail e)
  free e l u f = omega (arith, outside_le (S (net.head e)) (S (net.tail e)) (C.out e l u f))

  -- F carries one: there is no pair
  pub no_pair : Carries net F (s ∷ []) (t ∷ []) → NoPair net usable s t
  no_pair K p q P =
      let L = pair_arcs net usable s t p q P in
      omega (
        arith,
        starts,
        ends,
        sum_zero (p ++ q),
        weak_duality net.size net.tail net.head (λ _. 0) usable F (outside S) (p ++ q) L.distinct L.below L.allowed used free
            (outside S s + outside S s) (outside S t + outside S t) (sum (outside S) (s ∷ [])) (sum (outside S) (t ∷ []))
            (pair_telescopes net usable s t p q P (outside S)) (K (outside S)),
      )

  -- F carries nothing: there is no path
  pub no_path : Carries net F [] [] → (p : List ℕ) → Path net usable s p t → ⊥
  no_path K p P =
      let L = path_arcs net usable s t p P in
      omega (
        arith,
        starts,
        ends,
        sum_zero p,
        weak_duality net.size net.tail net.head (λ _. 0) usable F (outside S) p L.distinct L.below L.allowed used free
            (outside S s) (outside S t) 0 0 (telescopes net (outside S) s p t P.walk) (K (outside S)),
      )
