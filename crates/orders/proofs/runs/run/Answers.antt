use Rattle.std.proofs.Common.{◌≡◌, take, drop, sym, ◌∙◌, inr}
use Rattle.std.proofs.lemmas.Result.{IfOk-weaker}
use Rattle.line.specs.Held.{held}
use Rattle.network.specs.Format.{extent_of}
use Rattle.orders.specs.Log.{RunLog}
use Rattle.orders.specs.Orders.{left}
use Rattle.orders.proofs.runs.run.Goals as goal

pub returns-in-Ok : goal.returns-in-Ok
returns-in-Ok c =
    let words = c.in_ok-words.words.items in
    let front : c.split_at.result.0.now ≡ take (extent_of words) words = cc in
    let rest : left c.new-orders.result ≡ drop (extent_of words) words = cc in
    IfOk-weaker _ _ (λ line. RunLog c.args.input.now (held line))
    (λ line logged. record {
      words = words;
      are = c.in_ok-words.ensures;
      log = inr (c.in-Ok.network, sym front ∙ c.in-Ok.ensures.answer, rw (c.new-orders.ensures.whole, rest) at logged);
    }) c.log_orders.ensures
