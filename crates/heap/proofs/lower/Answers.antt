use Rattle.std.proofs.Common.{◌≡◌, true, get_or, sym, ap, ◌∙◌, arith}
use Rattle.std.proofs.lemmas.List.{get_or_default}
use Rattle.std.specs.Ordering.{is_lt}
use Rattle.heap.specs.Least.{before}
use Rattle.heap.proofs.Sifting.{lower_heaps}
use Rattle.heap.proofs.lower.Goals as goal

pub returns : goal.returns
returns g c =
    let xs = c.args.items.now in
    let n = c.args.len in
    let i = c.args.i in
    let x = c.args.x in
    let e = c.index-items-i.result in
    let sift = c.sift_up.ensures in
    let lower : (d : g.row.T.Denot) → before g.T.Ord.cmp x (get_or xs i d) ≡ true =
    λ d. ap (before g.T.Ord.cmp x) (get_or_default xs i d e (omega arith)) ∙ ap is_lt (sym c.cmp.ensures) ∙ sym c.if-not-is_lt.ensures in
    record {
      within = omega arith;
      lowered = record { place = omega arith; lower = lower; moved = sift.moved n (omega arith) };
      heap = lower_heaps g.met.T.Ord.total xs c.sift_up.new.items n i x (omega arith) (omega arith) lower sift.rises;
    }
