use Rattle.std.proofs.Common.{◌≡◌, ℕ, ◌+◌, ◌-◌, ◌<◌, Option, length, sym, ap, ◌∙◌, subst, arith, length-set}
use Rattle.std.proofs.lemmas.Grind.{common_steps}
use Rattle.routing.specs.Answer.{link_graph}
use Rattle.enumeration.specs.declared.trail.Trail.{Trail}
use Rattle.enumeration.specs.Least.{Least}
use Rattle.enumeration.specs.Walks.{completed_cost}
use Rattle.std.specs.Option.{option_map}
use Rattle.enumeration.proofs.Follow.{Before, fits, none_left, others_left, passed, taken}
use Rattle.enumeration.proofs.search.Search.+least_cost.Goals as goal
use Rattle.enumeration.proofs.search.Search.+least_cost.Goals.{then-leads_on, else-leads_on}

pub returns-then-more-eq0 : goal.returns-then-more-eq0
returns-then-more-eq0 t c =
    none_left (link_graph c.args.self.now.links.now) c.args.self.now.source c.args.self.now.target c.args.trail.now c.if-trail-self.true c.args.more c.if-more-eq0.true

pub returns-else-more-eq0 : goal.returns-else-more-eq0
returns-else-more-eq0 t c =
    others_left (link_graph c.args.self.now.links.now) c.args.self.now.source c.args.self.now.target c.args.trail.now c.if-trail-self.true c.args.more (c.args.more - 1)
    (omega arith) c.begin.result c.begin.ensures c.least_cost.result c.least_cost.ensures

pub map-requires : goal.map-requires
map-requires t c = λ x e κs l p r f.
    let search = c.args.self.now in
    let small : c.from-cost.result + x < 4294967296 =
    fits search.links.now search.limited search.source search.target c.args.more c.follow.new.self (omega arith)
    (ap (λ (x : Trail). length x.seen) c.follow.ensures ∙ length-set _ _ _ ∙ omega arith) c.least_cost-rest.result c.least_cost-rest.ensures
    x e c.from-cost.result (omega arith) in
    omega arith

pub loop-e-preserved : goal.loop-e-preserved
loop-e-preserved t c =
    let search = c.args.self.now in
    let net = link_graph search.links.now in
    let e = c.loop-e.e in
    let P : Option ℕ → Type 0 = λ o. Least (Before net search.source search.target c.args.more c.args.trail.now (e + 1)) (completed_cost net) o in
    elim c.if-leads_on.branch [
      | then-leads_on w ↦
          let dear : w.map.result ≡ option_map (λ k. w.from-cost.result + k) w.least_cost-rest.result = grind (arith, common_steps, w.map.ensures.cases) in
          subst P (sym w.best-is)
          (taken net search.source search.target c.args.more c.args.trail.now e (omega arith) (sym c.leads_on.ensures ∙ w.if-leads_on.true) c.loop-e.best c.loop-e.invariant
          w.follow.new.self w.follow.ensures w.least_cost-rest.result w.least_cost-rest.ensures
          w.from-cost.result w.from-cost.ensures w.map.result dear w.lower-best.result w.lower-best.ensures)
      | else-leads_on w ↦ subst P (sym w.best-is) (passed net search.source search.target c.args.more c.args.trail.now e c.loop-e.best (sym c.leads_on.ensures ∙ w.if-leads_on.false) c.loop-e.invariant)
    ]
