use Rattle.std.proofs.lemmas.Result.{IfOk-weaker}
use Rattle.trials.proofs.Drawing.{spread}
use Rattle.trials.proofs.draft.scatter.Goals as goal

pub returns : goal.returns
returns c =
    let shape = c.args.shape in
    let made = spread _ _ _ _ _ _ c.new-links.ensures.items shape.ends.0 shape.ends.1 c.requires.0 c.requires.1 c.in_ok-add_links.ensures in
    IfOk-weaker c.build.result _ _ (λ net built. (built.0, rw built.1 made)) c.build.ensures
