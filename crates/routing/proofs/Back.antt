-- The raised potentials, and the walk back.
use Rattle.std.proofs.Common.{◌≡◌, ℕ, ◌+◌, ◌-◌, ◌*◌, ◌<◌, ◌≤◌, true, false, List, ◌∷◌, length, get_or, set, sym, refl, ap, ◌∙◌, subst, inl, inr, arith}
use Rattle.std.proofs.lemmas.List.{get_or-set_same, get_or-set_other}
use Rattle.std.proofs.lemmas.Bool.{cases_eq, cases_lt, cond-true, cond-false}
use Rattle.routing.specs.Orders.{NoFarther}
use Rattle.routing.specs.declared.key.NodeKey.{NodeKey}
use Rattle.routing.specs.declared.key.Reach.{Reach}
use Rattle.routing.specs.declared.key.Reach.TheVariants.{At, NotReached}
use Rattle.routing.specs.declared.state.State.{State}
use Rattle.routing.specs.declared.state.State.TheVariants.{LeftOut, Free, Chosen}
use Rattle.paths.specs.Pairs.{Digraph}
use Rattle.paths.specs.Flow.{Certified, Carries}
use Rattle.paths.proofs.Augment.{Off, add_from, drop_from, certified_flip, carries_more}
use Rattle.routing.specs.Entries.{node_at, reach_at, place, state_at, is_chosen, may_serve, in_f, usable, pot}
use Rattle.routing.specs.Settle.{Fit, Leads, Settled, Arrived}
use Rattle.routing.specs.Back.{lift, Raised, toward, Step, Chain, Walking, Walked}
use Rattle.routing.proofs.Places.{place_at, place_is, one_place}
use Rattle.routing.proofs.Settles.{forth, backs, in_used, not_used, is_free, is_used}

pub lift_le : (r : Reach) (D : ℕ) → lift r D ≤ D
lift_le (At x) D = omega arith
lift_le NotReached D = omega arith

lift_short : (r : Reach) (D y : ℕ) → NoFarther r (At y) → lift r D ≤ y
lift_short (At x) D y h = omega arith
lift_short NotReached D y h = absurd h

lift_far : (r : Reach) (D : ℕ) → NoFarther (At D) r → lift r D ≡ D
lift_far (At x) D h = omega arith
lift_far NotReached D h = refl

lift_near : (r : Reach) (D x : ℕ) → r ≡ At x → NoFarther r (At D) → lift r D ≡ x
lift_near r D x q h = let l : NoFarther (At x) (At D) = subst (λ (a : Reach). NoFarther a (At D)) q h in ap (λ a. lift a D) q ∙ omega arith

module _ (net : Digraph) (states : List State) (pots pots' preds : List ℕ) (s t : ℕ) (xs : List NodeKey) (len D : ℕ)
    (A : Arrived net states pots preds s t xs len D) (F : Fit net states pots (length xs)) (R : Raised xs pots pots' D) where
  S : Settled net states pots preds s xs len (λ _. false)
  S = A.settled

  at_place : (v : ℕ) → v < length xs → (place xs v < length xs) × (node_at xs (place xs v) ≡ v)
  at_place v l = place_at xs v (S.once v l)

  pub raised_at : (v : ℕ) → v < length xs → pot pots' v ≡ pot pots v + lift (reach_at xs (place xs v)) D
  raised_at v l =
      let p = at_place v l in
      subst (λ w. pot pots' w ≡ pot pots w + lift (reach_at xs (place xs v)) D) p.1 (R (place xs v) p.0)

  -- an entry at len or before it is at least as far as t, one behind it at most
  late : (k : ℕ) → k ≤ len → lift (reach_at xs k) D ≡ D
  late k l = lift_far (reach_at xs k) D (subst (λ (a : Reach). NoFarther a (reach_at xs k)) A.stands.at (S.order k len l (omega arith) A.inside))

  early : (k x : ℕ) → len ≤ k → k < length xs → reach_at xs k ≡ At x → lift (reach_at xs k) D ≡ x
  early k x l kn at = lift_near (reach_at xs k) D x at (subst (NoFarther (reach_at xs k)) A.stands.at (S.order len k l l kn))

  -- the other end of an arc from a node finished before t
  relaxes : (e u v x y : ℕ) → u < length xs → v < length xs → len < place xs u → reach_at xs (place xs u) ≡ At x → Leads net states pots e u v x y → lift (reach_at xs (place xs v)) D ≤ y
  relaxes e u v x y lu lv l at ld =
      let p = at_place u lu in
      let q = at_place v lv in
      lift_short (reach_at xs (place xs v)) D y (S.relaxed (place xs u) e (place xs v) x y (omega arith) p.0 (λ z. absurd (omega arith)) q.0 at
      (subst (λ a. Leads net states pots e a (node_at xs (place xs v)) x y) (sym p.1) (subst (λ b. Leads net states pots e u b x y) (sym q.1) ld)))

  pub raised_certified : Certified net (usable states) (in_f states) (pot pots')
  raised_certified = record {
    within = F.certified.within;
    used = λ e l f.
        let u = net.head e in
        let v = net.tail e in
        let lu = F.heads e l in
        let lv = F.tails e l in
        let old = F.certified.used e l f in
        let ru = raised_at u lu in
        let rv = raised_at v lv in
        elim (cases_lt len (place xs u)) [
          | inl a ↦ (
              let g = S.finished (place xs u) (omega arith) (at_place u lu).0 in
              omega (
                arith,
                early (place xs u) g.0 (omega arith) (at_place u lu).0 g.1,
                relaxes e u v g.0 _ lu lv a g.1 (backs F g.0 l (is_used (state_at states e) f) refl refl),
              ))
          | inr b ↦ omega (arith, late (place xs u) b, lift_le (reach_at xs (place xs v)) D)
        ];
    free = λ e l us f.
        let u = net.tail e in
        let v = net.head e in
        let lu = F.tails e l in
        let lv = F.heads e l in
        let old = F.certified.free e l us f in
        let ru = raised_at u lu in
        let rv = raised_at v lv in
        elim (cases_lt len (place xs u)) [
          | inl a ↦ (
              let g = S.finished (place xs u) (omega arith) (at_place u lu).0 in
              omega (
                arith,
                early (place xs u) g.0 (omega arith) (at_place u lu).0 g.1,
                relaxes e u v g.0 _ lu lv a g.1 (forth F g.0 l (is_free (state_at states e) us f) refl refl),
              ))
          | inr b ↦ omega (arith, late (place xs u) b, lift_le (reach_at xs (place xs v)) D)
        ];
  }

  leads_step : (k e j x y : ℕ) → len ≤ k → k < j → j < length xs → reach_at xs j ≡ At x → reach_at xs k ≡ At y → Leads net states pots e (node_at xs j) (node_at xs k) x y → Step net states pots' xs k e
  leads_step k e j x y lk kj jn atj atk (inl f) =
      let fj = R j jn in
      let fk = R k (omega arith) in
      record {
        j = j;
        after = kj;
        fits = jn;
        within = f.within;
        state = inl f.state;
        from = cond-false (in_f states e) (net.head e) (net.tail e) (not_used states e f.state) ∙ f.from;
        to = cond-false (in_f states e) (net.tail e) (net.head e) (not_used states e f.state) ∙ f.to;
        tight = omega (arith, f.sum, ap (pot pots') f.from, ap (pot pots') f.to, early j x (omega arith) jn atj, early k y lk (omega arith) atk);
      }
  leads_step k e j x y lk kj jn atj atk (inr f) =
      let fj = R j jn in
      let fk = R k (omega arith) in
      record {
        j = j;
        after = kj;
        fits = jn;
        within = f.within;
        state = inr f.state;
        from = cond-true (in_f states e) (net.head e) (net.tail e) (in_used states e f.state) ∙ f.from;
        to = cond-true (in_f states e) (net.tail e) (net.head e) (in_used states e f.state) ∙ f.to;
        tight = omega (arith, f.sum, ap (pot pots') f.from, ap (pot pots') f.to, early j x (omega arith) jn atj, early k y lk (omega arith) atk);
      }

  pub chained : Chain net states pots' preds xs len s
  chained = record {
    nodes = S.nodes;
    once = S.once;
    step = λ k l kn ns.
        let g = S.finished k l kn in
        let r = S.ranked k g.0 l kn ns g.1 in
        leads_step k (get_or preds (node_at xs k) 0) r.j r.x g.0 l r.after r.fits r.at g.1 r.leads;
  }

  pub raised_low : (s < length xs) → (t < length xs) → (B : ℕ) → ((v : ℕ) → v < length xs → pot pots v ≤ B) → (v : ℕ) → v < length xs → pot pots' v ≤ 2 * B + 2097152
  raised_low ls lt B b v l = omega (arith, raised_at v l, lift_le (reach_at xs (place xs v)) D, A.short, b v l, b s ls)

-- ---- one step of the walk back
module _ {net : Digraph} {was : List State} {pots preds : List ℕ} {s t : ℕ} {xs : List NodeKey} {len : ℕ} (Ch : Chain net was pots preds xs len s)
    {states : List State} {v : ℕ} (W : Walking net was pots xs len t states v) (other : v ≡ s → ⊥) where
  here : (place xs v < length xs) × (node_at xs (place xs v) ≡ v)
  here = place_at xs v (Ch.once v W.node)

  pub link_back : Step net was pots xs (place xs v) (get_or preds v 0)
  link_back = subst (λ w. Step net was pots xs (place xs v) (get_or preds w 0)) here.1 (Ch.step (place xs v) W.behind here.0 (λ q. other (sym here.1 ∙ q)))

  abbrev e : ℕ
  e = get_or preds v 0

  now_was : state_at states e ≡ state_at was e
  now_was = W.kept e (place xs v) (omega arith) here.0 link_back.to

  module _ (x : State) (w : ℕ) (room : net.size ≤ length states) (serves : may_serve x ≡ true) (to : w ≡ node_at xs link_back.j) where
    abbrev states' : List State
    states' = set states e x

    there : place xs w ≡ link_back.j
    there = place_is xs w link_back.j (Ch.once w (omega (arith, to, Ch.nodes link_back.j link_back.fits))) link_back.fits (sym to)

    put : state_at states' e ≡ x
    put = get_or-set_same states e x LeftOut (omega (arith, link_back.within))

    left_alone : (i : ℕ) → (i ≡ e → ⊥) → state_at states' i ≡ state_at states i
    left_alone i d = get_or-set_other states e i x LeftOut d

    off : Off e (in_f states) (in_f states')
    off i d = ap is_chosen (left_alone i d)

    usable_was : usable was e ≡ true
    usable_was = elim link_back.state [ inl q ↦ ap may_serve q | inr q ↦ ap may_serve q ]

    pub closer : length xs - place xs w < length xs - place xs v
    closer = omega (arith, there, link_back.after, link_back.fits)

    pub walks : Certified net (usable was) (in_f states') (pot pots) →
        ((A B : List ℕ) → Carries net (in_f was) A B → Carries net (in_f states') (w ∷ A) (t ∷ B)) → Walking net was pots xs len t states' w
    walks C K =
        let after = link_back.after in
        let fits = link_back.fits in
        let at = there in
        record {
          node = omega (arith, to, Ch.nodes link_back.j fits);
          behind = omega (arith, W.behind);
          kept = λ i k l kn q. elim (cases_eq i e) [
            | inl z ↦ absurd (omega (arith, one_place xs (node_at xs k) k (place xs v) (Ch.once (node_at xs k) (Ch.nodes k kn)) kn here.0 refl (sym link_back.to ∙ ap (toward net was) (sym z) ∙ q)))
            | inr d ↦ (left_alone i d ∙ W.kept i k (omega arith) kn q)
          ];
          same = λ i. elim (cases_eq i e) [
            | inl z ↦ (ap (usable states') z ∙ ap may_serve put ∙ serves ∙ sym usable_was ∙ ap (usable was) (sym z))
            | inr d ↦ (ap may_serve (left_alone i d) ∙ W.same i)
          ];
          certified = C;
          carries = K;
        }

    certain : Certified net (usable was) (in_f states') (pot pots)
    certain = certified_flip net (in_f states) (in_f states') e link_back.within off (usable was) (pot pots) usable_was link_back.tight W.certified

  module _ (room : net.size ≤ length states) where
    -- an arc of F is taken out, and the walk goes on at its head
    pub used_to : state_at states e ≡ Chosen → net.head e ≡ node_at xs link_back.j
    used_to q = sym (cond-true (in_f was e) (net.head e) (net.tail e) (in_used was e (sym now_was ∙ q))) ∙ link_back.from

    pub used_step : state_at states e ≡ Chosen → Walking net was pots xs len t (set states e Free) (net.head e)
    used_step q =
        let h : state_at was e ≡ Chosen = sym now_was ∙ q in
        let at : net.tail e ≡ v = sym (cond-true (in_f was e) (net.tail e) (net.head e) (in_used was e h)) ∙ link_back.to ∙ here.1 in
        walks Free (net.head e) room refl (used_to q) (certain Free (net.head e) room refl (used_to q))
        (λ A B K. drop_from net (in_f states) (in_f (set states e Free)) e link_back.within (off Free (net.head e) room refl (used_to q)) A (t ∷ B)
        (in_used states e q) (not_used (set states e Free) e (put Free (net.head e) room refl (used_to q)))
        (λ π. omega (arith, W.carries A B K π, ap π at)))

    one : (state_at states e ≡ Chosen → ⊥) → state_at was e ≡ Free
    one d = elim link_back.state [ inl q ↦ q | inr q ↦ absurd (d (now_was ∙ q)) ]

    pub free_to : (state_at states e ≡ Chosen → ⊥) → net.tail e ≡ node_at xs link_back.j
    free_to d = sym (cond-false (in_f was e) (net.head e) (net.tail e) (not_used was e (one d))) ∙ link_back.from

    pub free_step : (state_at states e ≡ Chosen → ⊥) → Walking net was pots xs len t (set states e Chosen) (net.tail e)
    free_step d =
        let at : net.head e ≡ v = sym (cond-false (in_f was e) (net.tail e) (net.head e) (not_used was e (one d))) ∙ link_back.to ∙ here.1 in
        walks Chosen (net.tail e) room refl (free_to d) (certain Chosen (net.tail e) room refl (free_to d))
        (λ A B K. add_from net (in_f states) (in_f (set states e Chosen)) e link_back.within (off Chosen (net.tail e) room refl (free_to d)) A (t ∷ B)
        (not_used states e (now_was ∙ one d)) (in_used (set states e Chosen) e (put Chosen (net.tail e) room refl (free_to d)))
        (λ π. omega (arith, W.carries A B K π, ap π at)))

pub walk_starts : (net : Digraph) (was : List State) (pots preds : List ℕ) (s t : ℕ) (xs : List NodeKey) (len : ℕ) → Chain net was pots preds xs len s →
    Certified net (usable was) (in_f was) (pot pots) → len < length xs → node_at xs len ≡ t → Walking net was pots xs len t was t
walk_starts net was pots preds s t xs len Ch C l q =
    let lt : t < length xs = omega (arith, Ch.nodes len l) in
    record {
      node = lt;
      behind = omega (arith, place_is xs t len (Ch.once t lt) l q);
      kept = λ e k a b z. refl;
      same = λ e. refl;
      certified = C;
      carries = λ A B K. carries_more net (in_f was) t A B K;
    }

pub walk_ends : (net : Digraph) (was : List State) (pots : List ℕ) (s t : ℕ) (xs : List NodeKey) (len : ℕ) (states : List State) (v : ℕ) → Walking net was pots xs len t states v → v ≡ s → Walked net was pots states s t
walk_ends net was pots s t xs len states v W q = record {
  same = W.same;
  certified = W.certified;
  carries = λ A B K. subst (λ w. Carries net (in_f states) (w ∷ A) (t ∷ B)) q (W.carries A B K);
}
