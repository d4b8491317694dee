-- From the chosen arcs to the answer.
use Rattle.std.proofs.Common.{◌≡◌, ℕ, zero, suc, ◌<◌, ◌≤◌, Bool, true, false, cond, eqb, ltb, ◌⊎◌, List, [], ◌∷◌, length, get_or, take, sym, refl, ap, ◌∙◌, inl, inr, arith}
use Rattle.std.specs.List.{AllByRecursion}
use Rattle.std.proofs.lemmas.List.{get_or_past}
use Rattle.std.proofs.lemmas.Bool.{eq-eqb, ne_eqb, ltb-true, ltb-false, cases_eq, cases_lt, cond-true, cond-false}
use Rattle.graph.specs.declared.graph.Graph.{Graph}
use Rattle.graph.specs.Graphs.{node_count}
use Rattle.paths.specs.Pairs.{Digraph, Absent, Walk, Cheapest, cost as cost_of}
use Rattle.paths.proofs.Agree.{cheapest_turned}
use Rattle.routing.specs.declared.path.Path.{Path}
use Rattle.routing.specs.declared.extract.Track.{Track}
use Rattle.routing.specs.declared.state.State.{State}
use Rattle.routing.specs.declared.state.State.TheVariants.{LeftOut, Free}
use Rattle.routing.specs.Entries.{is_chosen, may_serve, usable}
use Rattle.routing.specs.Found.{links_of, allowed, Best, precedes, paired}
use Rattle.routing.specs.Taking.{Ready, Marked}
use Rattle.routing.specs.Views.{net_of}

unchosen : (b : Bool) → is_chosen (cond b Free LeftOut) ≡ false
unchosen true = refl
unchosen false = refl

served : (b : Bool) → may_serve (cond b Free LeftOut) ≡ b
served true = refl
served false = refl

pub marked_ready : (g : Graph) (flags : List Bool) (states : List State) → length states ≡ 128 → Marked flags states → Ready (net_of g) states (node_count g)
marked_ready g flags states long M = record {
  small = g.small;
  links = g.few;
  stated = omega (arith, g.few);
  tails = λ e l. (g.sound e l).0;
  heads = λ e l. (g.sound e l).1;
  costs = λ e l. (g.sound e l).3;
  dear = λ e l. (g.sound e l).2;
  plain = λ e. elim (cases_lt e (length states)) [
    | inl l ↦ (ap is_chosen (M e l) ∙ unchosen (get_or flags e false))
    | inr l ↦ ap is_chosen (get_or_past states e LeftOut l)
  ];
}

pub marked_usable : (flags : List Bool) (states : List State) → Marked flags states → (e : ℕ) → e < length states → allowed flags e ≡ usable states e
marked_usable flags states M e l = sym (ap may_serve (M e l) ∙ served (get_or flags e false))

-- ---- the first links
some_link : (net : Digraph) (s t : ℕ) (ls : List ℕ) → Walk net s ls t → (s ≡ t → ⊥) → 0 < length ls
some_link net s t [] w d = absurd (d w)
some_link net s t (e ∷ ls) w d = omega arith

first_in : (p : Path) → 0 < length (links_of p) → get_or p.links 0 0 ≡ get_or (links_of p) 0 0
first_in p l = by p.len p.links l
  where
    by : (k : ℕ) (ls : List ℕ) → 0 < length (take k ls) → get_or ls 0 0 ≡ get_or (take k ls) 0 0
    by zero ls l = absurd (omega arith)
    by (suc k) [] l = absurd (omega arith)
    by (suc k) (x ∷ ls) l = refl

firsts_differ : (p q : List ℕ) → 0 < length p → 0 < length q → AllByRecursion (λ e. Absent e q) p → get_or p 0 0 ≡ get_or q 0 0 → ⊥
firsts_differ [] q l m a r = omega arith
firsts_differ (x ∷ p) [] l m a r = omega arith
firsts_differ (x ∷ p) (y ∷ q) l m a r = a.0.0 r

-- ---- which goes first
abbrev first : Track → ℕ
first a = get_or a.path.links 0 0

precedes_true : (a b : Track) → precedes a b ≡ true → (a.cost < b.cost) ⊎ ((a.cost ≡ b.cost) × (first a < first b))
precedes_true a b h = elim (cases_eq a.cost b.cost) [
  | inl q ↦ inr (q, ltb-true (first a) (first b) (sym (cond-true (eqb a.cost b.cost) (ltb (first a) (first b)) (ltb a.cost b.cost) (eq-eqb a.cost b.cost q)) ∙ h))
  | inr d ↦ inl (ltb-true a.cost b.cost (sym (cond-false (eqb a.cost b.cost) (ltb (first a) (first b)) (ltb a.cost b.cost) (ne_eqb a.cost b.cost d)) ∙ h))
]

precedes_false : (a b : Track) → precedes a b ≡ false → (b.cost < a.cost) ⊎ ((b.cost ≡ a.cost) × (first b ≤ first a))
precedes_false a b h = elim (cases_eq a.cost b.cost) [
  | inl q ↦ inr (sym q, ltb-false (first a) (first b) (sym (cond-true (eqb a.cost b.cost) (ltb (first a) (first b)) (ltb a.cost b.cost) (eq-eqb a.cost b.cost q)) ∙ h))
  | inr d ↦ inl (omega (arith, ltb-false a.cost b.cost (sym (cond-false (eqb a.cost b.cost) (ltb (first a) (first b)) (ltb a.cost b.cost) (ne_eqb a.cost b.cost d)) ∙ h)))
]

-- ---- the pair, with a as the working path
pub track_best : (net : Digraph) (U : ℕ → Bool) (s t : ℕ) (a b : Track) → (s ≡ t → ⊥) → Cheapest net U s t (links_of a.path) (links_of b.path) →
    a.cost ≡ cost_of net (links_of a.path) → b.cost ≡ cost_of net (links_of b.path) →
    (a.cost < b.cost) ⊎ ((a.cost ≡ b.cost) × (first a ≤ first b)) → Best net U s t (paired a b)
track_best net U s t a b d C ca cb h =
    let p = links_of a.path in
    let q = links_of b.path in
    let la = some_link net s t p C.pair.one.walk d in
    let lb = some_link net s t q C.pair.two.walk d in
    let fa = first_in a.path la in
    let fb = first_in b.path lb in
    let ne = firsts_differ p q la lb C.pair.apart in
    record {
      cheapest = C;
      costs = omega (arith, ca, cb);
      cheaper = elim h [ inl l ↦ omega (arith, ca, cb) | inr e ↦ omega (arith, ca, cb, e.0) ];
      lower = λ same. elim h [
        | inl l ↦ absurd (omega (arith, ca, cb, same))
        | inr e ↦ elim (cases_eq (get_or p 0 0) (get_or q 0 0)) [ inl z ↦ absurd (ne z) | inr z ↦ omega (arith, e.1, fa, fb) ]
      ];
    }

pub ranked_best : (net : Digraph) (U : ℕ → Bool) (s t : ℕ) (one two : Track) → (s ≡ t → ⊥) → Cheapest net U s t (links_of one.path) (links_of two.path) →
    one.cost ≡ cost_of net (links_of one.path) → two.cost ≡ cost_of net (links_of two.path) →
    Best net U s t (cond (precedes two one) (paired two one) (paired one two))
ranked_best net U s t one two d C c1 c2 = go (precedes two one) refl
  where
    go : (b : Bool) → precedes two one ≡ b → Best net U s t (cond b (paired two one) (paired one two))
    go true h = track_best net U s t two one d (cheapest_turned net U s t _ _ C) c2 c1 (elim (precedes_true two one h) [ inl l ↦ inl l | inr e ↦ inr (e.0, omega (arith, e.1)) ])
    go false h = track_best net U s t one two d C c1 c2 (precedes_false two one h)
