-- What is kept over several steps.
use Rattle.std.proofs.Common.{ℕ, Bool, List, refl, sym, subst, ◌∙◌, arith}
use Rattle.routing.specs.declared.explore.Finished.{Finished}
use Rattle.routing.specs.declared.key.NodeKey.{NodeKey}
use Rattle.routing.specs.declared.residual.Residual.{Residual}
use Rattle.routing.specs.Entries.{node_at}
use Rattle.routing.specs.Fronts.{Onward, Reaches, Settles}
use Rattle.routing.specs.Settle.{Fit, Leads, Offered, Settled, more}
use Rattle.routing.specs.Views.{net_of}
use Rattle.routing.proofs.Settles.{offered}

pub onward_none : (xs : List NodeKey) (n : ℕ) → Onward xs n xs n
onward_none xs n = record { as_many = refl; kept = λ k l. refl; long = refl }

pub onward_more : (xs : List NodeKey) (n : ℕ) (ys : List NodeKey) (m : ℕ) (zs : List NodeKey) (k : ℕ) → Onward xs n ys m → Onward ys m zs k → Onward xs n zs k
onward_more xs n ys m zs k P Q =
    let same = P.as_many in
    record {
      as_many = Q.as_many ∙ P.as_many;
      kept = λ i l. Q.kept i (omega arith) ∙ P.kept i l;
      long = Q.long ∙ P.long;
    }

-- an arc that leads away from the node that was finished last is relaxed when its other end has been offered what it gives
pub goes_on : {r : Residual} {preds preds' : List ℕ} {xs ys : List NodeKey} {n m s : ℕ} {at : Finished} {done : ℕ → Bool} {e v y : ℕ} →
    Settles r preds xs n s done → Reaches r preds xs n at → Onward xs n ys m →
    Leads (net_of r.graph.now) r.states.now r.pots.now e (node_at xs n) v at.far y → Offered xs preds n v y e ys preds' →
    Settles r preds' ys m s (more done e)
goes_on {r} {preds} {preds'} {xs} {ys} {n} {m} {s} {at} {done} {e} {v} {y} S here on ld o =
    subst (λ k. Settled (net_of r.graph.now) r.states.now r.pots.now preds' s ys k (more done e)) (sym on.as_many)
    (offered S (subst (Fit (net_of r.graph.now) r.states.now r.pots.now) (sym here.all) r.fit) here.inside (here.linked ∙ sym here.all) here.stands.at ld o)
