-- The least of some costs when more are added.
use Rattle.std.proofs.Common.{◌≡◌, ℕ, ◌+◌, ◌≤◌, min, ◌⊎◌, Some, None, Option, ap, ◌∙◌, ⊎_elim, arith}
use Rattle.std.specs.Option.{option_map}
use Rattle.std.proofs.lemmas.Bool.{cases_lt}
use Rattle.enumeration.specs.Least.{Least, smaller}

-- the least is the same where the same have the property
pub least_same : {X : Type 0} (P Q : X → Type 0) (cost : X → ℕ) → ((x : X) → P x → Q x) → ((x : X) → Q x → P x) → (o : Option ℕ) → Least P cost o → Least Q cost o
least_same P Q cost to from None h = λ x q. h x (from x q)
least_same P Q cost to from (Some c) h = ((h.0.0, to h.0.0 h.0.1, h.0.2), λ x q. h.1 x (from x q))

-- R has what P has, and besides that for each y of Q one that is dearer by w
module _ {X Y : Type 0} (P R : X → Type 0) (Q : Y → Type 0) (cost : X → ℕ) (cost_y : Y → ℕ) (w : ℕ) (kept : (x : X) → P x → R x)
    (added : (y : Y) → Q y → (x : X) × R x × (cost x ≡ w + cost_y y)) (only : (x : X) → R x → P x ⊎ ((y : Y) × Q y × (cost x ≡ w + cost_y y))) where
  pub least_more : (best rest : Option ℕ) → Least P cost best → Least Q cost_y rest → Least R cost (smaller best (option_map (λ c. w + c) rest))
  least_more None None a b = λ x r. ⊎_elim (a x) (λ h. b h.0 h.1) (only x r)
  least_more None (Some d) a b =
      let h = added b.0.0 b.0.1 in (
        (h.0, h.1, h.2 ∙ ap (λ n. w + n) b.0.2),
        λ x r. ⊎_elim (λ p. absurd (a x p)) (λ k. omega (arith, k.2, b.1 k.0 k.1)) (only x r),
      )
  least_more (Some c) None a b = (
    (a.0.0, kept a.0.0 a.0.1, a.0.2),
    λ x r. ⊎_elim (a.1 x) (λ k. absurd (b k.0 k.1)) (only x r),
  )
  least_more (Some c) (Some d) a b =
      let h = added b.0.0 b.0.1 in
      let e : cost h.0 ≡ w + d = h.2 ∙ ap (λ n. w + n) b.0.2 in
      let below : (x : X) → R x → min c (w + d) ≤ cost x = λ x r. ⊎_elim (λ p. omega (arith, a.1 x p)) (λ k. omega (arith, k.2, b.1 k.0 k.1)) (only x r) in
      ⊎_elim
      (λ l. ((a.0.0, kept a.0.0 a.0.1, omega (arith, a.0.2)), below))
      (λ l. ((h.0, h.1, omega arith), below))
      (cases_lt c (w + d))
