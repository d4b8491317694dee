-- On a trap no cheapest pair has the path that is cheapest.
use Rattle.std.proofs.Common.{◌≡◌, ℕ, ◌<◌, ◌≤◌, Bool, true, ◌⊎◌, List, [], ◌∷◌, length, sym, refl, ap, ◌∙◌, subst, inl, inr, arith}
use Rattle.std.specs.List.{AllByRecursion}
use Rattle.std.proofs.lemmas.Bool.{cases_eq}
use Rattle.network.specs.declared.link.Link.{Link}
use Rattle.paths.specs.Pairs.{Absent, Cheapest, Digraph, Pair, Walk, cost}
use Rattle.paths.proofs.Agree.{cheapest_turned}
use Rattle.routing.specs.Answer.{link_graph}
use Rattle.trials.specs.Traps.{Misleads, Trapped}

module _ (links : List Link) (T : Trapped links) (long : 5 ≤ length links) where
  abbrev net : Digraph
  net = link_graph links

  -- without the links 0, 1 and 2 there is no way to node 3 but by a dear link
  dear_walk : (u : ℕ) → (u ≡ 0) ⊎ (u ≡ 2) → (ls : List ℕ) → Absent 0 ls → Absent 1 ls → Absent 2 ls → Walk net u ls 3 → 41 ≤ cost net ls
  dear_walk u at [] a b c w = elim at [ inl z ↦ omega (arith, w) | inr z ↦ omega (arith, w) ]
  dear_walk u at (e ∷ ls) a b c w = elim (cases_eq e 3) [
    | inl three ↦
        let h : net.head e ≡ 2 = ap net.head three ∙ T.trap.past_one.1 in
        omega (arith, dear_walk (net.head e) (inr h) ls a.1 b.1 c.1 w.2)
    | inr not3 ↦ elim (cases_eq e 4) [
      | inl four ↦ let h : u ≡ 1 = sym w.1 ∙ ap net.tail four ∙ T.trap.past_two.0 in absurd (elim at [ inl z ↦ omega (arith, h, z) | inr z ↦ omega (arith, h, z) ])
      | inr not4 ↦ let n0 : 0 ≡ e → ⊥ = a.0 in let n1 : 1 ≡ e → ⊥ = b.0 in let n2 : 2 ≡ e → ⊥ = c.0 in omega (arith, T.dear e (omega arith) w.0)
    ]
  ]

  module _ (usable : ℕ → Bool) (open_all : (e : ℕ) → e < 5 → usable e ≡ true) where
    -- the two paths that share the links of the cheapest path
    hidden : Pair net usable 0 3 (0 ∷ 4 ∷ []) (3 ∷ 2 ∷ [])
    hidden = record {
      one = record {
        walk = (omega arith, T.trap.first.0, (omega arith, T.trap.past_two.0 ∙ sym T.trap.first.1, T.trap.past_two.1));
        allowed = (open_all 0 (omega arith), (open_all 4 (omega arith), tt));
        simple = ((λ z. omega (arith, z, T.trap.first.1), (λ z. omega (arith, z, T.trap.past_two.1), tt)), ((λ z. omega (arith, z, T.trap.first.1, T.trap.past_two.1), tt), (tt, tt)));
      };
      two = record {
        walk = (omega arith, T.trap.past_one.0, (omega arith, T.trap.third.0 ∙ sym T.trap.past_one.1, T.trap.third.1));
        allowed = (open_all 3 (omega arith), (open_all 2 (omega arith), tt));
        simple = ((λ z. omega (arith, z, T.trap.past_one.1), (λ z. omega (arith, z, T.trap.third.1), tt)), ((λ z. omega (arith, z, T.trap.past_one.1, T.trap.third.1), tt), (tt, tt)));
      };
      apart = ((λ z. omega arith, (λ z. omega arith, tt)), ((λ z. omega arith, (λ z. omega arith, tt)), tt));
    }

    missed : (p q : List ℕ) → Cheapest net usable 0 3 p q → p ≡ 0 ∷ 1 ∷ 2 ∷ [] → ⊥
    missed p q C e =
        let apart : AllByRecursion (λ x. Absent x q) (0 ∷ 1 ∷ 2 ∷ []) = subst (λ (r : List ℕ). AllByRecursion (λ x. Absent x q) r) e C.pair.apart in
        omega (
          arith,
          dear_walk 0 (inl refl) q apart.0 apart.1.0 apart.1.1.0 C.pair.two.walk,
          C.least (0 ∷ 4 ∷ []) (3 ∷ 2 ∷ []) hidden,
          T.trap.cheap,
        )

  -- which of the five a link can be that starts at a node
  starts : (e u : ℕ) → e < length links → net.tail e ≡ u →
      ((e ≡ 0) × (u ≡ 0)) ⊎ (((e ≡ 1) × (u ≡ 1)) ⊎ (((e ≡ 2) × (u ≡ 2)) ⊎ (((e ≡ 3) × (u ≡ 0)) ⊎ (((e ≡ 4) × (u ≡ 1)) ⊎ (41 ≤ net.weight e)))))
  starts e u l t =
      let dear = T.dear e in
      let at_zero = T.trap.first.0 in
      let at_one = T.trap.second.0 in
      let at_two = T.trap.third.0 in
      let at_three = T.trap.past_one.0 in
      let at_four = T.trap.past_two.0 in
      grind (arith, cases_eq e 0, cases_eq e 1, cases_eq e 2, cases_eq e 3, cases_eq e 4)

  only_three : (e : ℕ) → e < length links → net.tail e ≡ 3 → 41 ≤ net.weight e
  only_three e l t = let s = starts e 3 l t in grind arith

  only_two : (e : ℕ) → e < length links → net.tail e ≡ 2 → (e ≡ 2) ⊎ (41 ≤ net.weight e)
  only_two e l t = let s = starts e 2 l t in grind arith

  only_one : (e : ℕ) → e < length links → net.tail e ≡ 1 → (e ≡ 1) ⊎ ((e ≡ 4) ⊎ (41 ≤ net.weight e))
  only_one e l t = let s = starts e 1 l t in grind arith

  only_zero : (e : ℕ) → e < length links → net.tail e ≡ 0 → (e ≡ 0) ⊎ ((e ≡ 3) ⊎ (41 ≤ net.weight e))
  only_zero e l t = let s = starts e 0 l t in grind arith

  -- the way on behind a link of a number
  behind : (e k v : ℕ) (ls : List ℕ) → e ≡ k → net.head k ≡ v → Walk net (net.head e) ls 3 → Walk net v ls 3
  behind e k v ls is at w = subst (λ u. Walk net u ls 3) (ap net.head is ∙ at) w

  from_three : (ls : List ℕ) → Walk net 3 ls 3 → (ls ≡ []) ⊎ (41 ≤ cost net ls)
  from_three [] w = inl refl
  from_three (e ∷ ls) w = let d = only_three e w.0 w.1 in inr (omega arith)

  from_two : (ls : List ℕ) → Walk net 2 ls 3 → (ls ≡ 2 ∷ []) ⊎ (41 ≤ cost net ls)
  from_two [] w = absurd (omega (arith, w))
  from_two (e ∷ ls) w = elim (only_two e w.0 w.1) [
    | inl h ↦ elim (from_three ls (behind e 2 3 ls h T.trap.third.1 w.2)) [ inl k ↦ inl cc | inr k ↦ inr (omega arith) ]
    | inr d ↦ inr (omega arith)
  ]

  from_one : (ls : List ℕ) → Walk net 1 ls 3 → (ls ≡ 1 ∷ 2 ∷ []) ⊎ (cost net (1 ∷ 2 ∷ []) < cost net ls)
  from_one [] w = absurd (omega (arith, w))
  from_one (e ∷ ls) w = elim (only_one e w.0 w.1) [
    | inl h ↦ elim (from_two ls (behind e 1 2 ls h T.trap.second.1 w.2)) [ inl k ↦ inl cc | inr k ↦ inr (omega (arith, T.trap.cheap, T.trap.dearer_two)) ]
    | inr other ↦ elim other [
      | inl h ↦ inr (omega (arith, T.trap.dearer_two, ap net.weight h))
      | inr d ↦ inr (omega (arith, T.trap.cheap, T.trap.dearer_two))
    ]
  ]

  from_zero : (ls : List ℕ) → Walk net 0 ls 3 → (ls ≡ 0 ∷ 1 ∷ 2 ∷ []) ⊎ (cost net (0 ∷ 1 ∷ 2 ∷ []) < cost net ls)
  from_zero [] w = absurd (omega (arith, w))
  from_zero (e ∷ ls) w =
      let cheap = T.trap.cheap in
      let one = T.trap.dearer_one in
      let two = T.trap.dearer_two in
      elim (only_zero e w.0 w.1) [
        | inl h ↦ elim (from_one ls (behind e 0 1 ls h T.trap.first.1 w.2)) [ inl k ↦ inl cc | inr k ↦ inr (omega (arith, ap net.weight h)) ]
        | inr other ↦ elim other [
          | inl h ↦ elim (from_two ls (behind e 3 2 ls h T.trap.past_one.1 w.2)) [
            | inl k ↦ inr (omega (arith, ap net.weight h, ap (cost net) k))
            | inr k ↦ inr (omega arith)
          ]
          | inr d ↦ inr (omega arith)
        ]
      ]

  pub misleads : Misleads links
  misleads = record {
    cheapest_path = λ usable p P. from_zero p P.walk;
    in_no_pair = λ usable open_all p q C. (missed usable open_all p q C, missed usable open_all q p (cheapest_turned net usable 0 3 p q C));
  }
