use Rattle.std.proofs.Common.{◌≡◌, length, None, ap, subst, arith}
use Rattle.std.proofs.lemmas.Result.{err_from_is_err_and}
use Rattle.network.specs.Reading.{link_fault}
use Rattle.network.proofs.Refused.{clean_more, refused_link}
use Rattle.network.proofs.reader.Reader.check.Goals as goal

pub loop-self-preserved : goal.loop-self-preserved
loop-self-preserved c =
    let inv = c.loop-self.invariant in
    let header = c.requires.header in
    let link = c.in_ok-link.ensures in
    let next = link.1 in
    let clean = subst (λ ws. link_fault c.args.nodes ws c.loop-self.self.place ≡ None) inv.same link.0.clean in
    record {
      same = rw next inv.same;
      odd = rw next (omega arith);
      within = rw next (omega (arith, ap length inv.same, header.long));
      clean = rw next (clean_more _ _ _ header inv.odd inv.clean clean);
    }

pub returns-in_err-link : goal.returns-in_err-link
returns-in_err-link c =
    let inv = c.loop-self.invariant in
    let p = err_from_is_err_and c.from_residual.result c.from_residual.ensures.1 in
    rw (p.1, p.2) (refused_link _ _ _ _ _ c.requires.header inv.odd inv.same inv.clean c.loop-self-test.true c.in_err-link.ensures)
