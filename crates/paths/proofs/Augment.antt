-- What one flipped arc does to a flow, and to its certificate.
use Rattle.std.proofs.Common.{◌≡◌, ℕ, ◌+◌, ◌<◌, Bool, true, false, cond, List, [], ◌∷◌, sym, refl, ap, ◌∙◌, inl, inr, arith}
use Rattle.std.proofs.lemmas.Bool.{cases_eq, cond-true, cond-false}
use Rattle.paths.specs.Pairs.{Digraph}
use Rattle.paths.specs.Flow.{over, Carries, Certified, Tight}
use Rattle.paths.proofs.Sums.{up_to_at, up_to_same}

-- two sets that differ at e alone
abbrev pub Off : ℕ → (ℕ → Bool) → (ℕ → Bool) → Type 0
Off e F G = (i : ℕ) → (i ≡ e → ⊥) → G i ≡ F i

module _ (net : Digraph) (F G : ℕ → Bool) (e : ℕ) (l : e < net.size) (off : Off e F G) where
  pub over_at : (w : ℕ → ℕ) → over net G w + cond (F e) (w e) 0 ≡ over net F w + cond (G e) (w e) 0
  over_at w = up_to_at (λ i. cond (G i) (w i) 0) (λ i. cond (F i) (w i) 0) e net.size l (λ i d. ap (λ b. cond b (w i) 0) (off i d))

  pub over_added : (w : ℕ → ℕ) → F e ≡ false → G e ≡ true → over net G w ≡ over net F w + w e
  over_added w f g = omega (arith, over_at w, cond-false (F e) (w e) 0 f, cond-true (G e) (w e) 0 g)

  pub over_dropped : (w : ℕ → ℕ) → F e ≡ true → G e ≡ false → over net G w + w e ≡ over net F w
  over_dropped w f g = omega (arith, over_at w, cond-true (F e) (w e) 0 f, cond-false (G e) (w e) 0 g)

  -- an arc added to F, or dropped, where it begins: the flow then starts at its other end
  pub add_from : (A B : List ℕ) → F e ≡ false → G e ≡ true → Carries net F (net.head e ∷ A) B → Carries net G (net.tail e ∷ A) B
  add_from A B f g K π = omega (arith, K π, over_added (λ i. π (net.head i)) f g, over_added (λ i. π (net.tail i)) f g)

  pub drop_from : (A B : List ℕ) → F e ≡ true → G e ≡ false → Carries net F (net.tail e ∷ A) B → Carries net G (net.head e ∷ A) B
  drop_from A B f g K π = omega (arith, K π, over_dropped (λ i. π (net.head i)) f g, over_dropped (λ i. π (net.tail i)) f g)

  -- a usable arc that is as long as the potentials' difference may be flipped
  pub certified_flip : (usable : ℕ → Bool) (π : ℕ → ℕ) → usable e ≡ true → Tight net π e → Certified net usable F π → Certified net usable G π
  certified_flip usable π u tight C = record {
    within = λ i k g. elim (cases_eq i e) [ inl q ↦ (ap usable q ∙ u) | inr d ↦ C.within i k (sym (off i d) ∙ g) ];
    used = λ i k g. elim (cases_eq i e) [
      | inl q ↦ omega (arith, tight, ap net.weight q, ap (λ j. π (net.tail j)) q, ap (λ j. π (net.head j)) q)
      | inr d ↦ C.used i k (sym (off i d) ∙ g)
    ];
    free = λ i k v g. elim (cases_eq i e) [
      | inl q ↦ omega (arith, tight, ap net.weight q, ap (λ j. π (net.tail j)) q, ap (λ j. π (net.head j)) q)
      | inr d ↦ C.free i k v (sym (off i d) ∙ g)
    ];
  }

pub carries_more : (net : Digraph) (F : ℕ → Bool) (v : ℕ) (A B : List ℕ) → Carries net F A B → Carries net F (v ∷ A) (v ∷ B)
carries_more net F v A B K π = omega (arith, K π)

pub carries_less : (net : Digraph) (F : ℕ → Bool) (v : ℕ) (A B : List ℕ) → Carries net F (v ∷ A) (v ∷ B) → Carries net F A B
carries_less net F v A B K π = omega (arith, K π)

-- nothing carries nothing
pub carries_none : (net : Digraph) → Carries net (λ _. false) [] []
carries_none net π = refl

pub certified_none : (net : Digraph) (usable : ℕ → Bool) → Certified net usable (λ _. false) (λ _. 0)
certified_none net usable = record {
  within = λ e l h. absurd (none h);
  used = λ e l h. absurd (none h);
  free = λ e l u h. omega arith;
}
  where
    none : false ≡ true → ⊥
    none h = let z : ◌≡◌ {A = ℕ} 0 1 = cc in omega arith

-- sets that agree arc by arc
pub over_same : (net : Digraph) (F G : ℕ → Bool) → ((i : ℕ) → G i ≡ F i) → (w : ℕ → ℕ) → over net G w ≡ over net F w
over_same net F G h w = up_to_same (λ i. cond (G i) (w i) 0) (λ i. cond (F i) (w i) 0) net.size (λ i l. ap (λ b. cond b (w i) 0) (h i))

pub carries_same : (net : Digraph) (F G : ℕ → Bool) (A B : List ℕ) → ((i : ℕ) → G i ≡ F i) → Carries net F A B → Carries net G A B
carries_same net F G A B h K π = omega (arith, K π, over_same net F G h (λ e. π (net.head e)), over_same net F G h (λ e. π (net.tail e)))

pub certified_same : (net : Digraph) (usable F G : ℕ → Bool) (π : ℕ → ℕ) → ((i : ℕ) → G i ≡ F i) → Certified net usable F π → Certified net usable G π
certified_same net usable F G π h C = record {
  within = λ e l g. C.within e l (sym (h e) ∙ g);
  used = λ e l g. C.used e l (sym (h e) ∙ g);
  free = λ e l u g. C.free e l u (sym (h e) ∙ g);
}
