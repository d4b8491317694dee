use Rattle.std.proofs.Common.{◌≡◌, ℕ, Bool}
use Rattle.routing.specs.Fronts.{Covers, Onward, Reaches, Settles}
use Rattle.routing.proofs.residual.Residual.relax_each.Given as goal

abbrev pub invariant-loop-e : goal.invariant-loop-e
invariant-loop-e l =
    Reaches l.self l.preds l.heap.items.now l.heap.len l.at
    × Onward l.initial.heap.items.now l.initial.heap.len l.heap.items.now l.heap.len
    × ((s : ℕ) (done : ℕ → Bool) → Settles l.self l.initial.preds l.initial.heap.items.now l.initial.heap.len s done →
    Covers l.self l.preds l.heap.items.now l.heap.len s l.arcs l.e-index done)
    × (l.heap.items.ghost_name ≡ l.initial.heap.items.ghost_name)
