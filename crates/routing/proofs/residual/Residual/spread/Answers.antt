use Rattle.std.proofs.Common.{false, get_or, arith}
use Rattle.routing.proofs.Settles.{spreads}
use Rattle.routing.proofs.residual.Residual.spread.Goals as goal

pub relax_each-requires-2-clause-searching : goal.relax_each-requires-2-clause-searching
relax_each-requires-2-clause-searching c =
    let S = c.requires.settles in
    let C = c.relax_each.ensures.covers S.0 (λ _. false) S.2 in
    record { source = S.0; done = C.now_done; inside = omega (arith, S.1, c.relax_each.ensures.onward.long); settled = C.settled }

pub returns-clause-settles : goal.returns-clause-settles
returns-clause-settles c s S =
    let h = c.relax_each-2.new.heap in
    let C = c.relax_each.ensures.covers s (λ _. false) S in
    let D = c.relax_each-2.ensures.covers s C.now_done C.settled in
    spreads D.settled c.relax_each-2.ensures.here.stands c.leaving.ensures.lists c.entering.ensures.lists
    (λ p l. D.keeps (get_or c.leaving.result.now p 0) (C.covers p l)) D.covers
