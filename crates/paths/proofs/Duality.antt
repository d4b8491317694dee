-- A certified set of arcs is at most as dear as any arcs that carry as much: weak duality.
use Rattle.std.proofs.Common.{◌≡◌, ℕ, zero, suc, ◌+◌, ◌-◌, ◌<◌, ◌≤◌, Bool, true, false, cond, List, [], ◌∷◌, ◌++◌, map, refl, ap, arith}
use Rattle.std.specs.List.{AllByRecursion}
use Rattle.std.proofs.ByRecursion.{All-append}
use Rattle.paths.specs.Pairs.{Digraph, Absent, Distinct, sum, cost, Walk, Path, Pair}
use Rattle.paths.specs.Flow.{up_to, over, Carries, Certified}
use Rattle.paths.proofs.Sums.{sum-append, sum-le-up_to}

-- telescoping
pub telescopes : (net : Digraph) (π : ℕ → ℕ) (u : ℕ) (ls : List ℕ) (v : ℕ) → Walk net u ls v →
    sum (λ e. π (net.head e)) ls + π u ≡ sum (λ e. π (net.tail e)) ls + π v
telescopes net π u [] v w = omega (arith, ap π w)
telescopes net π u (e ∷ ls) v w = omega (arith, telescopes net π (net.head e) ls v w.2, ap π w.1)

pub walk_below : (net : Digraph) (u : ℕ) (ls : List ℕ) (v : ℕ) → Walk net u ls v → AllByRecursion (λ e. e < net.size) ls
walk_below net u [] v w = tt
walk_below net u (e ∷ ls) v w = (w.0, walk_below net (net.head e) ls v w.2)

-- a path's arcs are distinct
Absent-map : (f : ℕ → ℕ) (x : ℕ) (ls : List ℕ) → Absent (f x) (map f ls) → Absent x ls
Absent-map f x [] h = tt
Absent-map f x (y ∷ ls) h = (λ q. h.0 (ap f q), Absent-map f x ls h.1)

Distinct-map : (f : ℕ → ℕ) (ls : List ℕ) → Distinct (map f ls) → Distinct ls
Distinct-map f [] h = tt
Distinct-map f (x ∷ ls) h = (Absent-map f x ls h.0, Distinct-map f ls h.1)

Absent-append : (x : ℕ) (ls ms : List ℕ) → Absent x ls → Absent x ms → Absent x (ls ++ ms)
Absent-append x ls ms h k = All-append (λ y. x ≡ y → ⊥) ls ms h k

distinct_append : (ls ms : List ℕ) → Distinct ls → Distinct ms → AllByRecursion (λ e. Absent e ms) ls → Distinct (ls ++ ms)
distinct_append [] ms h k a = k
distinct_append (x ∷ ls) ms h k a = (Absent-append x ls ms h.0 a.0, distinct_append ls ms h.1 k a.1)

-- What the argument of weak duality takes of arcs: distinct, there, usable. The weight c of an arc is any weight here.
module _ (n : ℕ) (tl hd c : ℕ → ℕ) (usable F : ℕ → Bool) (π : ℕ → ℕ) where
  -- how far an arc of F is below the potentials' difference
  abbrev slack : ℕ → ℕ
  slack e = cond (F e) (π (hd e) - (c e + π (tl e))) 0

  slack_used : (e : ℕ) → (F e ≡ true → c e + π (tl e) ≤ π (hd e)) →
      cond (F e) (c e) 0 + cond (F e) (π (tl e)) 0 + slack e ≡ cond (F e) (π (hd e)) 0
  slack_used e h = go (F e) h
    where
      go : (b : Bool) → (b ≡ true → c e + π (tl e) ≤ π (hd e)) →
          cond b (c e) 0 + cond b (π (tl e)) 0 + cond b (π (hd e) - (c e + π (tl e))) 0 ≡ cond b (π (hd e)) 0
      go true k = omega (arith, k refl)
      go false k = refl

  slack_any : (e : ℕ) → (F e ≡ false → π (hd e) ≤ c e + π (tl e)) → π (hd e) ≤ c e + π (tl e) + slack e
  slack_any e h = go (F e) h
    where
      go : (b : Bool) → (b ≡ false → π (hd e) ≤ c e + π (tl e)) → π (hd e) ≤ c e + π (tl e) + cond b (π (hd e) - (c e + π (tl e))) 0
      go true k = omega arith
      go false k = omega (arith, k refl)

  slack_sum : (m : ℕ) → ((e : ℕ) → e < m → F e ≡ true → c e + π (tl e) ≤ π (hd e)) →
      up_to (λ e. cond (F e) (c e) 0) m + up_to (λ e. cond (F e) (π (tl e)) 0) m + up_to slack m ≡ up_to (λ e. cond (F e) (π (hd e)) 0) m
  slack_sum zero h = refl
  slack_sum (suc m) h = omega (arith, slack_sum m (λ e l. h e (omega arith)), slack_used m (h m (omega arith)))

  slack_list : (ls : List ℕ) → AllByRecursion (λ e. e < n) ls → AllByRecursion (λ e. usable e ≡ true) ls →
      ((e : ℕ) → e < n → usable e ≡ true → F e ≡ false → π (hd e) ≤ c e + π (tl e)) →
      sum (λ e. π (hd e)) ls ≤ sum c ls + sum (λ e. π (tl e)) ls + sum slack ls
  slack_list [] b a h = omega arith
  slack_list (e ∷ ls) b a h = omega (arith, slack_list ls b.1 a.1 h, slack_any e (h e b.0 a.0))

  -- ls and F lead from and to what the potential sees of their ends
  pub weak_duality : (ls : List ℕ) → Distinct ls → AllByRecursion (λ e. e < n) ls → AllByRecursion (λ e. usable e ≡ true) ls →
      ((e : ℕ) → e < n → F e ≡ true → c e + π (tl e) ≤ π (hd e)) →
      ((e : ℕ) → e < n → usable e ≡ true → F e ≡ false → π (hd e) ≤ c e + π (tl e)) →
      (from to from' to' : ℕ) →
      sum (λ e. π (hd e)) ls + from ≡ sum (λ e. π (tl e)) ls + to →
      up_to (λ e. cond (F e) (π (hd e)) 0) n + from' ≡ up_to (λ e. cond (F e) (π (tl e)) 0) n + to' →
      up_to (λ e. cond (F e) (c e) 0) n + from' + to ≤ sum c ls + from + to'
  weak_duality ls d b a used free from to from' to' p f =
      omega (arith, slack_sum n used, slack_list ls b a free, sum-le-up_to slack n ls d b)

-- what both theorems read off a pair: its arcs in one list
pub record Arcs (net : Digraph) (usable : ℕ → Bool) (ls : List ℕ) : Type 0 where
  pub distinct : Distinct ls
  pub below : AllByRecursion (λ e. e < net.size) ls
  pub allowed : AllByRecursion (λ e. usable e ≡ true) ls

pub path_arcs : (net : Digraph) (usable : ℕ → Bool) (u v : ℕ) (p : List ℕ) → Path net usable u p v → Arcs net usable p
path_arcs net usable u v p P = record {
  distinct = Distinct-map net.head p P.simple.1;
  below = walk_below net u p v P.walk;
  allowed = P.allowed;
}

pub pair_arcs : (net : Digraph) (usable : ℕ → Bool) (s t : ℕ) (p q : List ℕ) → Pair net usable s t p q → Arcs net usable (p ++ q)
pair_arcs net usable s t p q P =
    let L = path_arcs net usable s t p P.one in
    let M = path_arcs net usable s t q P.two in
    record {
      distinct = distinct_append p q L.distinct M.distinct P.apart;
      below = All-append (λ e. e < net.size) p q L.below M.below;
      allowed = All-append (λ e. usable e ≡ true) p q L.allowed M.allowed;
    }

pub pair_telescopes : (net : Digraph) (usable : ℕ → Bool) (s t : ℕ) (p q : List ℕ) → Pair net usable s t p q → (π : ℕ → ℕ) →
    sum (λ e. π (net.head e)) (p ++ q) + (π s + π s) ≡ sum (λ e. π (net.tail e)) (p ++ q) + (π t + π t)
pair_telescopes net usable s t p q P π =
    omega (
      arith,
      sum-append (λ e. π (net.head e)) p q,
      sum-append (λ e. π (net.tail e)) p q,
      telescopes net π s p t P.one.walk,
      telescopes net π s q t P.two.walk,
    )

-- optimality from a certificate
pub optimal : (net : Digraph) (usable F : ℕ → Bool) (π : ℕ → ℕ) (s t : ℕ) → Certified net usable F π →
    Carries net F (s ∷ s ∷ []) (t ∷ t ∷ []) →
    (p q : List ℕ) → Pair net usable s t p q → over net F net.weight ≤ cost net p + cost net q
optimal net usable F π s t C K p q P =
    let L = pair_arcs net usable s t p q P in
    omega (
      arith,
      sum-append net.weight p q,
      weak_duality net.size net.tail net.head net.weight usable F π (p ++ q) L.distinct L.below L.allowed C.used C.free
          (π s + π s) (π t + π t) (sum π (s ∷ s ∷ [])) (sum π (t ∷ t ∷ [])) (pair_telescopes net usable s t p q P π) (K π),
    )
