use Rattle.std.proofs.Common.{rules, arith, MatchBool, true, false, Bool, ℕ, ◌<◌, length}
use Rattle.std.specs.List.{AllWithin, HoldsAt}
use Rattle.std.proofs.lemmas.Iterator.{cases_from_all, YieldsList-from_slice}
use Rattle.graph.specs.Arcs.{Sound, Within, blank}
use Rattle.graph.proofs.Graphs.{sound_from_within, within_from_sound}
use Rattle.graph.proofs.limits.within_limits.Goals as goal

pub returns-then-arcs-le-MAX_ARCS : goal.returns-then-arcs-le-MAX_ARCS
returns-then-arcs-le-MAX_ARCS c =
    let n = c.args.nodes in
    let arcs = c.args.arcs.now in
    let P : Bool → Type 0 = λ r. MatchBool r (AllWithin (λ arc. Sound n arc) arcs 0 (length arcs)) ((k : ℕ) × (k < length arcs) × HoldsAt (λ arc. Sound n arc → ⊥) arcs k) → MatchBool r (Within n arcs) (Within n arcs → ⊥) in
    elim c.all.result as P [
      | true ↦ λ all. within_from_sound n arcs (omega arith) (omega arith) (omega arith) (λ e h. all e blank (omega arith) h)
      | false ↦ λ some w. some.2 blank (sound_from_within n arcs w some.0 some.1)
    ] (cases_from_all _ _ _ (λ arc. Sound n arc) (λ arc. Sound n arc → ⊥) c.all.ensures.ran (YieldsList-from_slice arcs cc) (λ x q k. search rules) (λ x q k. search rules))
