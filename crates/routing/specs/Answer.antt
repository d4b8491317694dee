-- What the search for a pair answers, for every network, choice of usable links, two nodes and buffers.
use Rattle.std.specs.Prelude.{◌≡◌, ℕ, ◌+◌, ◌*◌, Bool, cond, ◌&&◌, List, length, Some, None, Ok, Err, Option, Result, ◌==◌, nat_le, nat_lt, slice_index_or}
use Rattle.network.specs.declared.link.Link.{Link}
use Rattle.network.specs.declared.network.Network.{Network}
use Rattle.network.specs.Limits.{blank as no_link}
use Rattle.network.specs.Networks.{link_list, node_count}
use Rattle.paths.specs.Pairs.{Digraph, NoPair}
use Rattle.routing.specs.declared.key.NodeKey.{NodeKey}
use Rattle.routing.specs.declared.key.Reach.TheVariants.{NotReached}
use Rattle.routing.specs.declared.path.Pair.{Pair}
use Rattle.routing.specs.declared.search.SearchFault.{SearchFault}
use Rattle.routing.specs.declared.search.SearchFault.TheVariants.{NoSuchNode, SameNode, ShortBuffer}
use Rattle.routing.specs.Found.{Best}

-- links as the arcs of a graph: a link leads from its tail to its head and weighs its cost
abbrev pub link_graph : List Link → Digraph
link_graph links = record {
  size = length links;
  tail = λ e. (slice_index_or links e no_link).tail;
  head = λ e. (slice_index_or links e no_link).head;
  weight = λ e. (slice_index_or links e no_link).cost;
}

-- why there is no search, the first that applies; buffers are measured by how many words and entries they have
abbrev pub refusal : ℕ → ℕ → ℕ → ℕ → ℕ → ℕ → Option SearchFault
refusal nodes links s t words entries =
    cond (nat_lt s nodes && nat_lt t nodes)
    (cond (s == t) (Some SameNode)
    (cond (nat_le (6 * nodes + 2 * links) words && nat_le nodes entries) None (Some ShortBuffer)))
    (Some NoSuchNode)

-- refused, or no pair exists over the usable links, or the best one is found
abbrev pub Answers : Network → (ℕ → Bool) → ℕ → ℕ → ℕ → ℕ → Result (Option Pair) SearchFault → Type 0
Answers net usable s t words entries (Err f) = refusal (node_count net) (length (link_list net)) s t words entries ≡ Some f
Answers net usable s t words entries (Ok None) =
    (refusal (node_count net) (length (link_list net)) s t words entries ≡ None) × NoPair (link_graph (link_list net)) usable s t
Answers net usable s t words entries (Ok (Some p)) =
    (refusal (node_count net) (length (link_list net)) s t words entries ≡ None) × Best (link_graph (link_list net)) usable s t p

-- an entry as the search leaves it
abbrev pub no_entry : NodeKey
no_entry = record { reach = NotReached; node = 0 }
