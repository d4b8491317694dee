use Rattle.std.proofs.Common.{◌≡◌, ℕ, List, replicate, get_or, MatchOption, sym, ap, ◌∙◌, subst, inl, inr, arith}
use Rattle.std.proofs.lemmas.List.{get_or-replicate, get_or_past, length-replicate}
use Rattle.std.proofs.lemmas.Bool.{cases_lt}
use Rattle.graph.specs.Graphs.{node_count}
use Rattle.routing.specs.declared.task.Task.{Task}
use Rattle.routing.specs.Back.{CutOff, Rounded}
use Rattle.routing.specs.Entries.{pot}
use Rattle.routing.specs.Settle.{Fit}
use Rattle.routing.specs.Views.{net_of}
use Rattle.routing.proofs.Takes.{first_none, second_fit, doubles}
use Rattle.routing.proofs.flow.Flow.choose.Goals as goal

pub returns-in_err-round-clause-pair : goal.returns-in_err-round-clause-pair
returns-in_err-round-clause-pair c =
    let f = c.args.self.now in
    rw c.from_residual.ensures
    (first_none (net_of f.task.graph.now) f.states (node_count f.task.graph.now) f.task.source f.task.target c.requires.ready c.in_err-round.ensures.round.severed)

-- every potential is 0
level : (pots : List ℕ) (n : ℕ) → pots ≡ replicate n 0 → (v : ℕ) → pot pots v ≡ 0
level pots n q v = ap (λ (a : List ℕ). get_or a v 0) q ∙ elim (cases_lt v n) [
  | inl l ↦ get_or-replicate n v 0 0 l
  | inr l ↦ get_or_past (replicate n 0) v 0 (omega (arith, length-replicate {A = ℕ} n 0))
]

pub round-requires-2-clause-fit : goal.round-requires-2-clause-fit
round-requires-2-clause-fit c =
    let f = c.args.self.now in
    let g = c.round.new.self in
    let long = g.states_long in
    subst (λ (k : Task). Fit (net_of k.graph.now) g.states g.pots.now (node_count k.graph.now)) (sym c.in_ok-round.ensures.same)
    (second_fit (net_of f.task.graph.now) f.states (node_count f.task.graph.now) f.task.source f.task.target c.requires.ready c.fill.new.self g.states g.pots.now c.in_ok-round.ensures.round
    (level c.fill.new.self _ (c.fill.ensures.after (λ y e. e))) (omega (arith, c.requires.ready.links)) (g.pots_long ∙ ap (λ (k : Task). node_count k.graph.now) c.in_ok-round.ensures.same))

pub returns-clause-pair : goal.returns-clause-pair
returns-clause-pair c =
    let f = c.args.self.now in
    let g = c.round.new.self in
    let h = c.round-2.new.self in
    doubles (net_of f.task.graph.now) f.states (node_count f.task.graph.now) f.task.source f.task.target c.requires.ready c.fill.new.self g.states g.pots.now c.in_ok-round.ensures.round
    (level c.fill.new.self _ (c.fill.ensures.after (λ y e. e))) h.states h.pots.now c.round-2.result
    (subst (λ (k : Task). MatchOption c.round-2.result (CutOff (net_of k.graph.now) g.states g.pots.now h.states h.pots.now k.source k.target)
    (λ _. Rounded (net_of k.graph.now) g.states g.pots.now h.states h.pots.now (node_count k.graph.now) k.source k.target)) c.in_ok-round.ensures.same c.round-2.ensures.round)
