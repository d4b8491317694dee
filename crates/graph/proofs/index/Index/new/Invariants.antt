use Rattle.std.proofs.Common.{ℕ, ◌≡◌, ◌++◌, length, get_or, vec_items}
use Rattle.graph.specs.Arcs.{blank}
use Rattle.graph.specs.Listing.{by_node, of_node, starts}
use Rattle.graph.proofs.index.Index.new.Given as goal

abbrev pub invariant-loop-node : goal.invariant-loop-node
invariant-loop-node g l =
    let ends : ℕ → ℕ = λ e. g.node_of (get_or l.arcs e blank) in
    (vec_items l.first ≡ starts ends (length l.arcs) l.node)
    × (vec_items l.order ≡ by_node ends (length l.arcs) l.node)

abbrev pub invariant-loop-number : goal.invariant-loop-number
invariant-loop-number g l =
    vec_items l.order ≡ vec_items l.initial.order ++ of_node (λ e. g.node_of (get_or l.arcs e blank)) l.node l.number
