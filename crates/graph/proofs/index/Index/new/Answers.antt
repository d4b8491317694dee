use Rattle.std.proofs.Common.{refl, ◌≡◌, ℕ, length, get_or, arith}
use Rattle.std.proofs.lemmas.Fn.{says_at}
use Rattle.std.proofs.lemmas.List.{append_assoc, append-nil}
use Rattle.graph.specs.Arcs.{blank}
use Rattle.graph.proofs.Listings.{by_node_more, of_node_more, starts_more, lists_done, lists_rise, lists_within}
use Rattle.graph.proofs.index.Index.new.Goals as goal

pub loop-number-preserved : goal.loop-number-preserved
loop-number-preserved g c =
    let ends : ℕ → ℕ = λ e. g.node_of (get_or c.args.arcs.now e blank) in
    let end : c.end.result ≡ ends c.loop-number.number = c.requires.1.1.1 _ _ (says_at g.F.Fn c.end.ensures refl) in
    grind (arith, of_node_more ends c.loop-node.node c.loop-number.number, append_assoc, append-nil)

pub loop-node-preserved : goal.loop-node-preserved
loop-node-preserved g c =
    let ends : ℕ → ℕ = λ e. g.node_of (get_or c.args.arcs.now e blank) in
    let m = length c.args.arcs.now in
    grind (arith, starts_more ends m c.loop-node.node, by_node_more ends m c.loop-node.node)

pub invariant_of-result : goal.invariant_of-result
invariant_of-result g c =
    let ends : ℕ → ℕ = λ e. g.node_of (get_or c.args.arcs.now e blank) in
    let m = length c.args.arcs.now in
    let n = c.args.nodes in
    let lists = lists_done ends m n _ c.len-2.result c.loop-node.first.items c.loop-node.order.items c.push-2.new.self.items (omega arith) c.loop-node.invariant (cc) c.in_ok-push-3.ensures.items in
    record { upward = lists_rise ends m n _ _ lists; bounded = lists_within ends m n _ _ lists }

pub returns : goal.returns
returns g c =
    let ends : ℕ → ℕ = λ e. g.node_of (get_or c.args.arcs.now e blank) in
    lists_done ends (length c.args.arcs.now) c.args.nodes _ c.len-2.result c.loop-node.first.items c.loop-node.order.items c.push-2.new.self.items (omega arith) c.loop-node.invariant (cc) c.in_ok-push-3.ensures.items
