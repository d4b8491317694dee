use Rattle.std.proofs.Common.{refl, ◌∙◌, arith}
use Rattle.routing.proofs.Fronts.{onward_none, onward_more}
use Rattle.routing.proofs.Settles.{covers_none, covers_more}
use Rattle.routing.proofs.residual.Residual.relax_each.Goals as goal

pub loop-e-init : goal.loop-e-init
loop-e-init c =
    let h = c.args.heap.now in (
      c.requires.here,
      onward_none h.items.now h.len,
      λ s done S. covers_none S,
      refl,
    )

pub relax-requires-clause-searching : goal.relax-requires-clause-searching
relax-requires-clause-searching c =
    let U = c.requires.searching in
    let C = c.loop-e.invariant.2 U.source U.done U.settled in
    record { source = U.source; done = C.now_done; inside = omega (arith, U.inside, c.loop-e.invariant.1.long); settled = C.settled }

pub loop-e-preserved : goal.loop-e-preserved
loop-e-preserved c =
    let h = c.args.heap.now in
    let f = c.loop-e.heap in
    let g = c.relax.new.heap in (
      c.relax.ensures.here,
      onward_more h.items.now h.len f.items.now f.len g.items.now g.len c.loop-e.invariant.1 c.relax.ensures.onward,
      λ s done S.
          let C = c.loop-e.invariant.2 s done S in
          covers_more C (let h = c.relax.ensures.settles s C.now_done in rw c.from.ensures at h),
      c.relax.ensures.same ∙ c.loop-e.invariant.3,
    )
