use Rattle.std.proofs.Common.{◌≡◌, ℕ, ◌<◌, length}
use Rattle.routing.specs.Found.{allowed}
use Rattle.orders.specs.Orders.{room_for}
use Rattle.orders.proofs.quotes.with_room.Given as goal

abbrev pub invariant-loop-e : goal.invariant-loop-e
invariant-loop-e l = (length l.usable ≡ 128) × ((k : ℕ) → k < l.e → allowed l.usable k ≡ room_for l.links l.amount k)
