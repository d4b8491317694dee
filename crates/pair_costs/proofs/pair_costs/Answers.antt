use Rattle.std.proofs.Common.{◌≡◌, ◌-◌, ◌*◌, ◌≤◌, length, ap, ◌∙◌, arith}
use Rattle.std.proofs.lemmas.List.{length-take}
use Rattle.std.proofs.lemmas.Slice.{drop-put_mid}
use Rattle.network.specs.Networks.{link_list, node_count}
use Rattle.pair_costs.proofs.Costs.{at_front}
use Rattle.pair_costs.proofs.pair_costs.Goals as goal

pub returns : goal.returns
returns c =
    let net = c.in-Ok.network in
    let n = node_count net in
    let places = c.from-nodes.result * c.from-nodes.result - 0 in
    let costs = c.args.costs.now in
    let square : places ≡ n * n = omega (arith, ap (λ x. x * x) (c.from-nodes.ensures ∙ c.nodes.ensures.value)) in
    let room : n * n ≤ length costs = omega (arith, c.if-costs-nodes.false, square) in
    let long : length c.fill.new.costs ≡ places = omega (arith, c.fill.auto.costs, length-take places costs, room, square) in (
      n,
      link_list net,
      c.in-Ok.ensures.only.accepted,
      record {
        room = room;
        table = at_front n (link_list net) _ _ (omega (arith, long, square)) c.fill.ensures;
        behind = drop-put_mid 0 places costs _ (n * n) (omega (arith, square)) (omega arith) long;
      },
    )
