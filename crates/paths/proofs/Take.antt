-- A set of arcs that carries something, and the paths in it.
use Rattle.std.proofs.Common.{◌≡◌, ℕ, ◌+◌, ◌<◌, ◌≤◌, Bool, true, false, cond, eqb, List, [], ◌∷◌, sym, refl, arith}
use Rattle.std.specs.List.{AllByRecursion}
use Rattle.std.proofs.lemmas.Bool.{eq-eqb, ne_eqb, eqb-true, cond-true, cond-false}
use Rattle.paths.specs.Pairs.{Digraph, cost, Absent, sum, Pair, Cheapest}
use Rattle.paths.specs.Flow.{over, Carries, Certified}
use Rattle.paths.proofs.Sums.{up_to_some}
use Rattle.paths.proofs.Duality.{optimal}

-- 1 at v, 0 elsewhere
abbrev at : ℕ → ℕ → ℕ
at v x = cond (eqb x v) 1 0

at_same : (v : ℕ) → at v v ≡ 1
at_same v = cond-true (eqb v v) 1 0 (eq-eqb v v refl)

at_other : (v : ℕ) (B : List ℕ) → AllByRecursion (λ b. v ≡ b → ⊥) B → sum (at v) B ≡ 0
at_other v [] a = refl
at_other v (b ∷ B) a = omega (arith, at_other v B a.1, cond-false {A = ℕ} (eqb b v) 1 0 (ne_eqb b v (λ q. a.0 (sym q))))

-- where F leads from v, and v is no end, an arc of F leaves v
pub leaves : (net : Digraph) (F : ℕ → Bool) (v : ℕ) (A B : List ℕ) → Absent v B → Carries net F (v ∷ A) B →
    (e : ℕ) × (e < net.size) × (F e ≡ true) × (net.tail e ≡ v)
leaves net F v A B a K =
    let r = up_to_some (λ e. cond (F e) (at v (net.tail e)) 0) net.size (omega (arith, K (at v), at_same v, at_other v B a)) in
    let h = read (F r.0) (eqb (net.tail r.0) v) r.2 in
    (r.0, r.1, h.0, eqb-true (net.tail r.0) v h.1)
  where
    read : (f g : Bool) → 0 < cond f (cond g 1 0) 0 → (f ≡ true) × (g ≡ true)
    read true true h = (refl, refl)
    read true false h = absurd (omega arith)
    read false g h = absurd (omega arith)

pub cheapest : (net : Digraph) (usable F : ℕ → Bool) (π : ℕ → ℕ) (s t : ℕ) → Certified net usable F π →
    Carries net F (s ∷ s ∷ []) (t ∷ t ∷ []) → (p q : List ℕ) → Pair net usable s t p q → cost net p + cost net q ≤ over net F net.weight →
    Cheapest net usable s t p q
cheapest net usable F π s t C K p q P h =
    record { pair = P; least = λ p' q' P'. omega (arith, optimal net usable F π s t C K p' q' P') }
