use Rattle.std.proofs.Common.{rules}
use Rattle.orders.proofs.Logs.{so_far-end, so_far-order}
use Rattle.orders.proofs.runs.log_orders.Goals as goal

pub loop-order-preserved : goal.loop-order-preserved
loop-order-preserved c =
    let before = c.loop-order.invariant in
    let logged = rw before.network at c.in_ok-answer-in-Ok.ensures.logged in
    record {
      network = search rules;
      whole = search rules;
      so_far = rw c.next_order.ensures.rest (so_far-order _ c.in-Ok.order before.so_far (cc) logged);
    }

pub returns : goal.returns
returns c = so_far-end _ c.loop-order.invariant.so_far cc
