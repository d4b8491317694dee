use Rattle.std.proofs.Common.{sym, ap, ◌∙◌, subst, slice_get}
use Rattle.heap.specs.Calls.{Peeks}
use Rattle.heap.proofs.Sifting.{peeks}
use Rattle.heap.proofs.Heap.peek.Goals as goal

pub returns : goal.returns
returns g c =
    let h = c.args.self.now in
    let first = c.copied.ensures ∙ c.first.ensures.value ∙ ap (λ l. slice_get l 0) c.as_slice.ensures in
    subst (Peeks g.T.Ord.cmp h.items.now h.len) (sym first) (peeks g.met.T.Ord.total h.items.now h.len h.within h.ordered)
