use Rattle.std.proofs.Common.{◌≡◌, length}
use Rattle.line.specs.Held.{held}
use Rattle.orders.specs.Orders.{left}
use Rattle.orders.proofs.Logs.{SoFar}
use Rattle.orders.proofs.runs.log_orders.Given as goal

abbrev pub invariant-loop-order : goal.invariant-loop-order
invariant-loop-order l = record {
  network : l.provisioner.network.now ≡ l.network;
  whole : l.orders.whole ≡ l.fn.orders.whole;
  so_far : SoFar l.network l.fn.orders.whole (left l.fn.orders) l.provisioner.serial (left l.orders) (held l.provisioner.log);
}

abbrev pub decreases-loop-order : goal.decreases-loop-order
decreases-loop-order l = length (left l.orders)
