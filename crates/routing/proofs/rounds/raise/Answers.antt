use Rattle.std.proofs.Common.{◌≡◌, ℕ, ◌+◌, ◌<◌, length, get_or, set, sym, refl, ◌∙◌, subst, inl, inr, arith}
use Rattle.std.proofs.lemmas.List.{get_or-set_same, get_or-set_other}
use Rattle.std.proofs.lemmas.Bool.{cases_eq}
use Rattle.routing.specs.Entries.{node_at, reach_at, pot}
use Rattle.routing.specs.Back.{lift}
use Rattle.routing.proofs.Places.{one_place}
use Rattle.routing.proofs.rounds.raise.Goals as goal

pub loop-entry-preserved : goal.loop-entry-preserved
loop-entry-preserved c =
    let xs = c.args.entries.now in
    let was = c.args.pots.now in
    let ps = c.loop-entry.pots in
    let k = c.loop-entry.entry-index in
    let u = node_at xs k in
    let y = get_or ps u 0 + c.rise.result in
    let long : length ps ≡ length was = omega arith in
    let lk : k < length xs = omega arith in
    let within : u < length was = c.requires.nodes k lk in
    rw c.from.ensures
    (let other : (j : ℕ) → j < length xs → (j ≡ k → ⊥) → pot (set ps u y) (node_at xs j) ≡ pot ps (node_at xs j) =
    λ j l d. get_or-set_other ps u (node_at xs j) y 0 (λ q. d (one_place xs u j k (c.requires.once u within) l lk q refl)) in (
      λ j l. elim (cases_eq j k) [
        | inl q ↦ subst (λ i. pot (set ps u y) (node_at xs i) ≡ pot was (node_at xs i) + lift (reach_at xs i) c.args.far) (sym q)
            (get_or-set_same ps u y 0 (omega arith) ∙ omega (arith, c.loop-entry.invariant.1 k (omega arith) lk, c.rise.ensures))
        | inr d ↦ (other j (omega arith) d ∙ c.loop-entry.invariant.0 j (omega arith))
      ],
      λ j l m. other j m (omega arith) ∙ c.loop-entry.invariant.1 j (omega arith) m,
    ))
