use Rattle.std.proofs.Common.{◌≡◌, ℕ, ◌<◌, true, List, length, get_or, set, Result, Ok, Err, sym, ap, ◌∙◌, subst, arith}
use Rattle.std.specs.Bool.{⊤}
use Rattle.std.proofs.lemmas.Bool.{both_ways}
use Rattle.heap.specs.Calls.{Lowered, Lowers}
use Rattle.heap.specs.Least.{before}
use Rattle.heap.specs.declared.LowerError.{LowerError}
use Rattle.routing.specs.Orders.{key_cmp}
use Rattle.routing.specs.declared.key.NodeKey.{NodeKey}
use Rattle.routing.specs.declared.key.Reach.TheVariants.{At, NotReached}
use Rattle.routing.specs.Entries.{blank}
use Rattle.routing.specs.Settle.{Settled}
use Rattle.routing.proofs.Ranks.{fresh_heap, not_lower, reached_first}
use Rattle.routing.proofs.Settles.{started, shuffled}
use Rattle.routing.proofs.explore.begin.Goals as goal

-- "not reached" gives way to any distance
lowered : (zs ys : List NodeKey) (s : ℕ) (r : Result ⊤ LowerError) (x : NodeKey) → s < length zs → before key_cmp x (get_or zs s blank) ≡ true →
    Lowers key_cmp zs (length zs) s x r ys → Lowered key_cmp zs (length zs) s x ys
lowered zs ys s (Ok u) x l first L = L
lowered zs ys s (Err e) x l first N = absurd (both_ways _ (not_lower zs (length zs) s x e l N.0) first)

pub invariant_of-heap : goal.invariant_of-heap
invariant_of-heap c =
    let zs = c.loop-node.entries in
    record { within = omega arith; ordered = fresh_heap zs (λ k l. c.loop-node.invariant k (omega arith)) }

pub returns-clause-settled : goal.returns-clause-settled
returns-clause-settled c net states pots preds done =
    let zs = c.loop-node.entries in
    let ys = c.lower.new.self.items.now in
    let s = c.args.source in
    let room : s < length zs = omega arith in
    let fresh : (k : ℕ) → k < length zs → get_or zs k blank ≡ record { reach = NotReached; node = k } = λ k l. c.loop-node.invariant k (omega arith) in
    let x : NodeKey = record { reach = At 0; node = s } in
    let told = subst (λ i. Lowers key_cmp zs (length zs) i x c.lower.result ys) c.from.ensures c.lower.ensures.lowers in
    let L = lowered zs ys s c.lower.result x room (ap (before key_cmp x) (fresh s room) ∙ reached_first s s 0) told in
    subst (λ n. Settled net states pots preds s ys n done) (sym c.lower.ensures.len)
    (shuffled preds s (set zs s x) ys (length zs) done (started s zs room fresh net states pots preds done) L.moved)
