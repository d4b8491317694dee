use Rattle.std.proofs.Common.{◌≡◌, false, get_or, set, length-set, sym, ap, refl, subst, inl, inr, ◌∙◌, arith}
use Rattle.std.proofs.lemmas.List.{get_or-set_other}
use Rattle.heap.specs.Least.{before}
use Rattle.heap.proofs.Moves.{rest_at}
use Rattle.routing.specs.Orders.{key_cmp, NoFarther}
use Rattle.routing.specs.declared.key.NodeKey.{NodeKey}
use Rattle.routing.specs.declared.key.Reach.TheVariants.{At}
use Rattle.routing.specs.Entries.{blank, reach_at}
use Rattle.routing.proofs.Ranks.{no_farther, nearer, not_lower}
use Rattle.routing.proofs.Places.{one_place}
use Rattle.routing.proofs.explore.offer.Goals as goal

pub returns-in_default-clause-offered : goal.returns-in_default-clause-offered
returns-in_default-clause-offered c = inl (record { entries = refl; linked = refl; near = λ k l q. absurd (c.in_default.ensures k l q) })

pub returns-in-Ok-clause-offered : goal.returns-in-Ok-clause-offered
returns-in-Ok-clause-offered c =
    let xs = c.args.heap.now.items.now in
    let i = c.in-Some.i in
    let at = c.in-Some.ensures in
    let key : NodeKey = record { reach = At c.args.far; node = c.args.node } in
    let L = c.in-Ok.ensures.lowers in
    inr (record {
      i = i;
      below = at.0;
      node = at.1;
      nearer = nearer key (get_or xs i blank) (L.lower blank);
      moved = L.moved;
      linked = ap (λ v. set c.args.preds.now v c.args.arc) c.from.ensures;
    })

pub returns-in-Ok-clause-onward : goal.returns-in-Ok-clause-onward
returns-in-Ok-clause-onward c =
    let xs = c.args.heap.now.items.now in
    let i = c.in-Some.i in
    let at = c.in-Some.ensures in
    let key : NodeKey = record { reach = At c.args.far; node = c.args.node } in
    let L = c.in-Ok.ensures.lowers in
    record {
      as_many = c.in-Ok.ensures.len;
      kept = λ k l. rest_at c.args.heap.now.len (set xs i key) c.lower.new.self.items.now L.moved k blank l ∙ get_or-set_other xs i k key blank (omega arith);
      long = L.moved.len ∙ length-set xs i key;
    }

pub returns-in_default-lower-clause-offered : goal.returns-in_default-lower-clause-offered
returns-in_default-lower-clause-offered c =
    let xs = c.args.heap.now.items.now in
    let n = c.args.heap.now.len in
    let i = c.in-Some.i in
    let at = c.in-Some.ensures in
    let key : NodeKey = record { reach = At c.args.far; node = c.args.node } in
    let N = c.in_default-lower.ensures.lowers in
    let kept : before key_cmp key (get_or xs i blank) ≡ false = not_lower xs n i key c.in_default-lower.field-0 at.0 N.0 in
    inl (record {
      entries = N.1;
      linked = refl;
      near = λ k l q.
          let z = one_place xs c.args.node k i c.requires.1 (omega arith) (omega arith) q at.1 in
          subst (λ a. NoFarther (reach_at xs a) (At c.args.far)) (sym z) (no_farther (get_or xs i blank) key kept);
    })
