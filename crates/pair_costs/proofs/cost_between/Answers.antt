use Rattle.std.proofs.Common.{◌≡◌, length, arith}
use Rattle.std.specs.Option.{option_map_or}
use Rattle.std.proofs.lemmas.Grind.{common_steps}
use Rattle.pair_costs.proofs.Costs.{found_costs}
use Rattle.pair_costs.proofs.cost_between.Goals as goal

pub returns : goal.returns
returns c =
    let cost : c.map_or.result ≡ option_map_or (λ p. p.cost) c.in-Ok.found 0 = grind (arith, common_steps, c.map_or.ensures) in
    found_costs c.args.network.now c.args.source c.args.target (length c.args.workspace.now.words) (length c.args.workspace.now.entries)
    c.args.network.now.sound c.requires.0 c.requires.1 c.in-Ok.found c.in-Ok.ensures.answer c.map_or.result cost
