-- Where every arc of F weighs something, potentials rise along F: a walk along F visits no node twice.
use Rattle.std.proofs.Common.{◌≡◌, ℕ, ◌<◌, Bool, true, List, [], ◌∷◌, map, ap, arith}
use Rattle.std.specs.List.{AllByRecursion}
use Rattle.std.proofs.ByRecursion.{All-weaker}
use Rattle.paths.specs.Pairs.{Digraph, Distinct, Walk, nodes}
use Rattle.paths.specs.Flow.{Certified}

module _ (net : Digraph) (usable F : ℕ → Bool) (π : ℕ → ℕ) (C : Certified net usable F π) (dear : (e : ℕ) → e < net.size → F e ≡ true → 0 < net.weight e) where
  above : (u : ℕ) (ls : List ℕ) (v : ℕ) → Walk net u ls v → AllByRecursion (λ e. F e ≡ true) ls → AllByRecursion (λ x. π u < π x) (map net.head ls)
  above u [] v w a = tt
  above u (e ∷ ls) v w a =
      let l : π u < π (net.head e) = omega (arith, C.used e w.0 a.0, dear e w.0 a.0, ap π w.1) in
      (l, All-weaker (λ x. π (net.head e) < π x) (λ x. π u < π x) (λ x h. omega arith) (map net.head ls) (above (net.head e) ls v w.2 a.1))

  pub rising_simple : (u : ℕ) (ls : List ℕ) (v : ℕ) → Walk net u ls v → AllByRecursion (λ e. F e ≡ true) ls → Distinct (nodes net u ls)
  rising_simple u [] v w a = (tt, tt)
  rising_simple u (e ∷ ls) v w a = (
    All-weaker (λ x. π u < π x) (λ x. u ≡ x → ⊥) (λ x h q. omega (arith, ap π q)) (map net.head (e ∷ ls)) (above u (e ∷ ls) v w a),
    rising_simple (net.head e) ls v w.2 a.1,
  )
