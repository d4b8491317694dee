-- Sums over lists of numbers and over the numbers below a bound.
use Rattle.std.proofs.Common.{◌≡◌, ℕ, zero, suc, ◌+◌, ◌<◌, ◌≤◌, cond, eqb, List, [], ◌∷◌, ◌++◌, sym, refl, ap, inl, inr, arith}
use Rattle.std.specs.List.{AllByRecursion}
use Rattle.std.proofs.lemmas.Bool.{eq-eqb, ne_eqb, cases_eq, cond-true, cond-false}
use Rattle.paths.specs.Pairs.{Absent, Distinct, sum}
use Rattle.paths.specs.Flow.{up_to}

pub sum-append : (w : ℕ → ℕ) (xs ys : List ℕ) → sum w (xs ++ ys) ≡ sum w xs + sum w ys
sum-append w [] ys = omega arith
sum-append w (x ∷ xs) ys = omega (arith, sum-append w xs ys)

pub up_to_same : (f g : ℕ → ℕ) (n : ℕ) → ((i : ℕ) → i < n → f i ≡ g i) → up_to f n ≡ up_to g n
up_to_same f g zero h = refl
up_to_same f g (suc n) h = omega (arith, up_to_same f g n (λ i l. h i (omega arith)), h n (omega arith))

-- two weights that differ at e alone
pub up_to_at : (f g : ℕ → ℕ) (e n : ℕ) → e < n → ((i : ℕ) → (i ≡ e → ⊥) → f i ≡ g i) → up_to f n + g e ≡ up_to g n + f e
up_to_at f g e zero l h = omega arith
up_to_at f g e (suc n) l h = elim (cases_eq e n) [
  | inl q ↦ omega (arith, up_to_same f g n (λ i k. h i (λ r. omega arith)), ap f q, ap g q)
  | inr d ↦ omega (arith, up_to_at f g e n (omega arith) h, h n (λ r. d (sym r)))
]

-- w with 0 at e
abbrev pub cleared : (ℕ → ℕ) → ℕ → ℕ → ℕ
cleared w e i = cond (eqb i e) 0 (w i)

pub cleared_at : (w : ℕ → ℕ) (e : ℕ) → cleared w e e ≡ 0
cleared_at w e = cond-true (eqb e e) 0 (w e) (eq-eqb e e refl)

pub cleared_off : (w : ℕ → ℕ) (e i : ℕ) → (i ≡ e → ⊥) → cleared w e i ≡ w i
cleared_off w e i d = cond-false (eqb i e) 0 (w i) (ne_eqb i e d)

pub sum-cleared : (w : ℕ → ℕ) (e : ℕ) (ls : List ℕ) → Absent e ls → sum (cleared w e) ls ≡ sum w ls
sum-cleared w e [] h = refl
sum-cleared w e (x ∷ ls) h = omega (arith, sum-cleared w e ls h.1, cleared_off w e x (λ q. h.0 (sym q)))

-- distinct numbers below n weigh at most what all numbers below n do
pub sum-le-up_to : (w : ℕ → ℕ) (n : ℕ) (ls : List ℕ) → Distinct ls → AllByRecursion (λ e. e < n) ls → sum w ls ≤ up_to w n
sum-le-up_to w n [] d b = omega arith
sum-le-up_to w n (e ∷ ls) d b =
    omega (
      arith,
      sum-le-up_to (cleared w e) n ls d.1 b.1,
      sum-cleared w e ls d.0,
      cleared_at w e,
      up_to_at w (cleared w e) e n b.0 (λ i k. sym (cleared_off w e i k)),
    )

-- a positive sum has a positive part
pub up_to_some : (w : ℕ → ℕ) (n : ℕ) → 0 < up_to w n → (e : ℕ) × (e < n) × (0 < w e)
up_to_some w zero h = (0, omega arith, omega arith)
up_to_some w (suc n) h = elim (cases_eq (w n) 0) [
  | inl z ↦ (let r = up_to_some w n (omega arith) in (r.0, omega arith, r.2))
  | inr p ↦ (n, omega arith, omega arith)
]
