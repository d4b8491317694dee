use Rattle.std.proofs.Common.{◌≡◌, ℕ, ◌<◌, length, None, arith}
use Rattle.std.proofs.lemmas.Grind.{common_steps}
use Rattle.network.specs.Networks.{link_list}
use Rattle.routing.specs.Found.{allowed}
use Rattle.orders.specs.Orders.{fault_of, room_for}
use Rattle.orders.proofs.Search.{quoted_found}
use Rattle.orders.proofs.quotes.quote.Goals as goal

pub returns-clause-answer : goal.returns-clause-answer
returns-clause-answer c =
    let net = c.args.network.now in
    let o = c.args.order in
    let flags = c.with_room-usable.result in
    let w = length c.args.words.now in
    let k = length c.args.entries.now in
    let fit : fault_of net o c.args.serial w k ≡ None = grind (arith, common_steps) in
    let same : (e : ℕ) → e < length (link_list net) → allowed flags e ≡ room_for (link_list net) o.amount e = rw c.links.ensures.value at c.with_room-usable.ensures in
    rw c.ok_or.ensures.value (quoted_found net o _ w k flags _ fit same c.in_ok-find_pair.ensures.answer)
