use Rattle.std.proofs.Common.{◌≤◌, length, ap, subst, arith}
use Rattle.std.proofs.lemmas.Result.{err_from_is_err_and}
use Rattle.network.specs.Reading.{GivesLink, words_of}
use Rattle.network.proofs.Collected.{collect_more, collect_all, network_there}
use Rattle.network.proofs.reader.Reader.collect.Goals as goal

pub loop-self-preserved : goal.loop-self-preserved
loop-self-preserved c =
    let inv = c.loop-self.invariant in
    let items = c.in_ok-push.ensures.items in
    let link = c.in_ok-link.ensures in
    let next = link.1 in
    let given = subst (λ ws. GivesLink c.args.nodes ws c.loop-self.self.place c.in_ok-link.link) inv.same link.0 in
    let long = ap length inv.same in
    record {
      same = rw next inv.same;
      odd = rw next (omega arith);
      within = rw next (omega (arith, c.requires.header.long));
      collected = rw (items, next) (collect_more _ _ _ _ _ (omega (arith, c.requires.header.long)) inv.collected given);
    }

pub returns-in_err-push : goal.returns-in_err-push
returns-in_err-push c =
    let p = err_from_is_err_and c.from_residual-in_err-push.result c.from_residual-in_err-push.ensures.1 in
    rw (p.1, p.2) (network_there _ _ c.requires.header c.requires.clean)

pub returns : goal.returns
returns c =
    let inv = c.loop-self.invariant in
    let past : length (words_of c.args.self.now) ≤ c.loop-self.self.place = omega (arith, ap length inv.same) in
    collect_all _ _ _ _ c.requires.header past inv.collected
