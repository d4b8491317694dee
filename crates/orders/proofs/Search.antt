-- A search over the links with room for an order as the answer to the order.
use Rattle.std.proofs.Common.{◌≡◌, ℕ, ◌<◌, List, Bool, length, Some, None, Ok, Option, sym}
use Rattle.std.specs.Option.{ok_or}
use Rattle.network.specs.declared.network.Network.{Network}
use Rattle.network.specs.Networks.{link_list}
use Rattle.paths.proofs.Agree.{cheapest_same, no_pair_same}
use Rattle.routing.specs.declared.path.Pair.{Pair}
use Rattle.routing.specs.Answer.{Answers, link_graph}
use Rattle.routing.specs.Found.{allowed, links_of}
use Rattle.orders.specs.declared.order.Reserve.{Reserve}
use Rattle.orders.specs.declared.refusal.Refusal.{Refusal}
use Rattle.orders.specs.declared.refusal.Refusal.TheVariants.{NoPair}
use Rattle.orders.specs.Orders.{Quoted, room_for}

-- past every check, what was found or not found over links that are allowed as they have room is the answer
pub quoted_found : (net : Network) (o : Reserve) (fault : Option Refusal) (w k : ℕ) (flags : List Bool) (found : Option Pair) → fault ≡ None →
    ((e : ℕ) → e < length (link_list net) → allowed flags e ≡ room_for (link_list net) o.amount e) →
    Answers net (allowed flags) o.source o.target w k (Ok found) → Quoted net o fault (ok_or found NoPair)
quoted_found net o fault w k flags None fit same A =
    (fit, no_pair_same (link_graph (link_list net)) (allowed flags) (room_for (link_list net) o.amount) o.source o.target (λ e l. sym (same e l)) A.1)
quoted_found net o fault w k flags (Some p) fit same A = (
  fit,
  record {
    cheapest = cheapest_same (link_graph (link_list net)) (allowed flags) (room_for (link_list net) o.amount) o.source o.target (λ e l. sym (same e l)) (links_of p.working) (links_of p.protecting) A.1.cheapest;
    costs = A.1.costs;
    cheaper = A.1.cheaper;
    lower = A.1.lower;
  },
)
