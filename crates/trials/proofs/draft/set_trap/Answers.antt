use Rattle.std.proofs.Common.{◌≡◌, length, vec_items, ap, arith, rules}
use Rattle.std.proofs.lemmas.Result.{IfOk-weaker}
use Rattle.trials.proofs.Drawing.{at_least, trapped}
use Rattle.trials.proofs.Trapping.{misleads}
use Rattle.trials.proofs.draft.set_trap.Goals as goal

pub returns : goal.returns
returns c =
    let is : vec_items c.in_ok-links.links ≡ c.diamond.result = search rules in
    let five : length (vec_items c.in_ok-links.links) ≡ 5 = omega (arith, ap length is) in
    let grown = c.in_ok-add_links.ensures in
    let caught = trapped _ _ _ _ _ five (rw is c.diamond.ensures.trap) grown in
    let wrong = misleads _ caught (at_least _ _ _ _ _ _ grown five) in
    IfOk-weaker c.build.result _ _ (λ net built. (built.0, rw built.1 wrong)) c.build.ensures
