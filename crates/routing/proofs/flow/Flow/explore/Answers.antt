use Rattle.std.proofs.Common.{◌≡◌, ℕ, true, false, List, length, sym, refl, subst, ◌∙◌, arith, rules}
use Rattle.paths.specs.Pairs.{Digraph}
use Rattle.routing.specs.declared.key.NodeKey.{NodeKey}
use Rattle.routing.specs.declared.state.State.{State}
use Rattle.routing.specs.Views.{net_of}
use Rattle.routing.specs.Settle.{Arrived, Fit, Missed, Settled}
use Rattle.routing.proofs.Settles.{popped, missed_popped, unreached_rest, missed_kept, severed, arrived}
use Rattle.routing.proofs.flow.Flow.explore.Goals as goal

-- what the lent slice holds when the heap is gone
rests : {net : Digraph} {states : List State} {pots preds : List ℕ} {s t : ℕ} {xs xs' : List NodeKey} {len len' far : ℕ} →
    xs ≡ xs' → len ≡ len' → Arrived net states pots preds s t xs len far → Arrived net states pots preds s t xs' len' far
rests {net} {states} {pots} {preds} {s} {t} {xs} {xs'} {len} {len'} {far} q r A =
    subst (λ (b : List NodeKey). Arrived net states pots preds s t b len' far) q (subst (λ k. Arrived net states pots preds s t xs k far) r A)

pub loop-key-init : goal.loop-key-init
loop-key-init c = (
  c.begin-heap.ensures.settled (net_of c.args.self.now.task.graph.now) c.args.self.now.states c.args.self.now.pots.now c.args.preds.now (λ _. true),
  λ k l m q. omega arith,
  omega (arith, c.requires.sizes.1),
  refl,
)

pub returns-in_default-reach : goal.returns-in_default-reach
returns-in_default-reach c =
    let f = c.args.self.now in
    let told = c.in-Some.ensures.pops in
    let long : length c.loop-key.heap.items.now ≡ length c.pop.new.self.items.now = omega (arith, told.moved.len) in
    let u = unreached_rest c.loop-key.invariant.0 told c.in_default-reach.is f.task.target c.loop-key.invariant.1 in
    severed u.0 (subst (Fit (net_of f.task.graph.now) f.states f.pots.now) (sym c.loop-key.invariant.2 ∙ long) c.requires.fit) (omega arith) (omega arith) u.1 u.2

pub returns-then-key-self : goal.returns-then-key-self
returns-then-key-self c =
    let f = c.args.self.now in
    let told = c.in-Some.ensures.pops in
    let long : length c.loop-key.heap.items.now ≡ length c.pop.new.self.items.now = omega (arith, told.moved.len) in
    let p = popped c.loop-key.invariant.0 told c.in-At.far c.in-At.is in
    let same_slice = c.in-Some.ensures.same ∙ c.loop-key.invariant.3 ∙ c.begin-heap.ensures.same in
    rests (search rules) (sym c.in-Some.ensures.len ∙ sym c.len-rest.ensures)
    (arrived p.0 p.1 c.if-key-self.true (subst (Fit (net_of f.task.graph.now) f.states f.pots.now) (sym c.loop-key.invariant.2 ∙ long) c.requires.fit)
    (omega arith) (omega (arith, told.top.some, c.loop-key.invariant.0.fits)))

pub spread-requires-clause-settles : goal.spread-requires-clause-settles
spread-requires-clause-settles c =
    let f = c.args.self.now in
    let told = c.in-Some.ensures.pops in
    let p = popped c.loop-key.invariant.0 told c.in-At.far c.in-At.is in (
      f.task.source,
      omega (arith, told.moved.len),
      subst (λ k. Settled (net_of f.task.graph.now) f.states f.pots.now c.loop-key.preds f.task.source c.pop.new.self.items.now k (λ _. false)) (sym c.in-Some.ensures.len) p.0,
    )

pub loop-key-preserved : goal.loop-key-preserved
loop-key-preserved c =
    let f = c.args.self.now in
    let s = f.task.source in
    let t = f.task.target in
    let ys = c.pop.new.self.items.now in
    let zs = c.spread.new.heap.items.now in
    let told = c.in-Some.ensures.pops in
    let on = c.spread.ensures.onward in
    let p = popped c.loop-key.invariant.0 told c.in-At.far c.in-At.is in
    let M = missed_popped c.loop-key.invariant.0 told t c.loop-key.invariant.1 c.if-key-self.false in (
      c.spread.ensures.settles s (subst (λ k. Settled (net_of f.task.graph.now) f.states f.pots.now c.loop-key.preds s ys k (λ _. false)) (sym c.in-Some.ensures.len) p.0),
      subst (λ k. Missed zs k t) (sym on.as_many) (missed_kept ys zs _ t on.kept on.long (subst (λ k. Missed ys k t) (sym c.in-Some.ensures.len) M)),
      on.long ∙ told.moved.len ∙ c.loop-key.invariant.2,
      c.spread.ensures.same ∙ c.in-Some.ensures.same ∙ c.loop-key.invariant.3,
    )

pub returns : goal.returns
returns c =
    let f = c.args.self.now in
    severed c.loop-key.invariant.0 (subst (Fit (net_of f.task.graph.now) f.states f.pots.now) (sym c.loop-key.invariant.2) c.requires.fit) (omega arith) (omega arith)
    (λ i l. absurd (omega (arith, c.in_default.ensures.pops.0))) c.loop-key.invariant.1
