-- How what is settled lasts from step to step.
use Rattle.std.proofs.Common.{◌≡◌, ℕ, suc, ◌+◌, ◌-◌, ◌*◌, ◌<◌, ◌≤◌, Bool, true, false, cond, eqb, ltb, ◌⊎◌, List, length, get_or, set, sym, refl, ap, ◌∙◌, subst, inl, inr, arith, length-set}
use Rattle.std.proofs.lemmas.List.{get_or-set_same, get_or-set_other}
use Rattle.std.proofs.lemmas.Bool.{both_ways, eq-eqb, ne_eqb, lt-ltb, le-ltb, ltb-true, cases_eq, cases_lt, cond-true, cond-false}
use Rattle.heap.specs.Least.{Moved}
use Rattle.heap.proofs.Moves.{rest_at}
use Rattle.heap.specs.Calls.{Popped}
use Rattle.routing.specs.Orders.{key_cmp, NoFarther}
use Rattle.routing.specs.declared.key.NodeKey.{NodeKey}
use Rattle.routing.specs.declared.key.Reach.{Reach}
use Rattle.routing.specs.declared.key.Reach.TheVariants.{At, NotReached}
use Rattle.routing.specs.declared.state.State.{State}
use Rattle.routing.specs.declared.state.State.TheVariants.{LeftOut, Free, Chosen}
use Rattle.paths.specs.Pairs.{Digraph}
use Rattle.paths.specs.Flow.{Certified}
use Rattle.graph.specs.Listing.{ListsArcs}
use Rattle.routing.specs.Entries.{blank, node_at, reach_at, place, state_at, is_chosen, may_serve, in_f, usable, pot}
use Rattle.routing.specs.Settle.{Fit, Leads, Came, Settled, Offered, Stands, Kept, Missed, Severed, Arrived, more, Covered}
use Rattle.routing.proofs.Ranks.{no_farther}
use Rattle.routing.proofs.Places.{in_order, place_at, entries_moved, entries_set, one_place, below_moved, all_moved}

-- ---- distances
pub far_trans : (a b c : Reach) → NoFarther a b → NoFarther b c → NoFarther a c
far_trans (At x) (At y) (At z) h k = omega arith
far_trans (At x) b NotReached h k = tt
far_trans (At x) NotReached (At z) h k = absurd k
far_trans NotReached (At y) c h k = absurd h
far_trans NotReached NotReached c h k = k

pub far_self : (a : Reach) → NoFarther a a
far_self (At x) = omega arith
far_self NotReached = tt

pub far_eq : (a b : Reach) → a ≡ b → NoFarther a b
far_eq a b q = subst (NoFarther a) q (far_self a)

-- ---- states of arcs
pub in_used : (states : List State) (e : ℕ) → state_at states e ≡ Chosen → in_f states e ≡ true
in_used states e q = ap is_chosen q

pub not_used : (states : List State) (e : ℕ) → state_at states e ≡ Free → in_f states e ≡ false
not_used states e q = ap is_chosen q

pub usable_one : (states : List State) (e : ℕ) → state_at states e ≡ Free → usable states e ≡ true
usable_one states e q = ap may_serve q

-- an arc that may be used and is not chosen is free
pub is_free : (a : State) → may_serve a ≡ true → is_chosen a ≡ false → a ≡ Free
is_free LeftOut u f = absurd (both_ways false refl u)
is_free Free u f = refl
is_free Chosen u f = absurd (both_ways true f refl)

pub is_used : (a : State) → is_chosen a ≡ true → a ≡ Chosen
is_used LeftOut u = absurd (both_ways false refl u)
is_used Free u = absurd (both_ways false refl u)
is_used Chosen u = refl

-- free is not chosen
pub not_both : (a : State) → a ≡ Free → a ≡ Chosen → ⊥
not_both a p q = both_ways (is_chosen a) (ap is_chosen p) (ap is_chosen q)

-- an entry that is y away
abbrev pub key : ℕ → ℕ → NodeKey
key v y = record { reach = At y; node = v }

-- a node that no entry behind len has: also when those are kept
pub missed_kept : (xs ys : List NodeKey) (len t : ℕ) → Kept xs ys len → length ys ≡ length xs → Missed xs len t → Missed ys len t
missed_kept xs ys len t K e M k l kn q = M k l (omega arith) (sym (ap (λ z. z.node) (K k l)) ∙ q)

-- ---- residual arcs
module _ {net : Digraph} {states : List State} {pots : List ℕ} where
  pub leads_later : (e u v x y : ℕ) → Certified net (usable states) (in_f states) (pot pots) → Leads net states pots e u v x y → x ≤ y
  leads_later e u v x y C (inl f) =
      omega (arith, f.sum, C.free e f.within (usable_one states e f.state) (not_used states e f.state), ap (pot pots) f.from, ap (pot pots) f.to)
  leads_later e u v x y C (inr b) =
      omega (arith, b.sum, C.used e b.within (in_used states e b.state), ap (pot pots) b.from, ap (pot pots) b.to)

  -- one arc, one end, one distance
  pub leads_same : (e u v w x y z : ℕ) → Leads net states pots e u v x y → Leads net states pots e u w x z → (v ≡ w) × (y ≡ z)
  leads_same e u v w x y z (inl f) (inl g) = let q : v ≡ w = sym f.to ∙ g.to in (q, omega (arith, f.sum, g.sum, ap (pot pots) q))
  leads_same e u v w x y z (inl f) (inr g) = absurd (not_both (state_at states e) f.state g.state)
  leads_same e u v w x y z (inr f) (inl g) = absurd (not_both (state_at states e) g.state f.state)
  leads_same e u v w x y z (inr f) (inr g) = let q : v ≡ w = sym f.to ∙ g.to in (q, omega (arith, f.sum, g.sum, ap (pot pots) q))

  pub leads_short : (e u v x y n : ℕ) → Fit net states pots n → Leads net states pots e u v x y → y + pot pots v ≤ x + pot pots u + 65535
  leads_short e u v x y n F (inl f) = omega (arith, f.sum, F.costs e f.within)
  leads_short e u v x y n F (inr f) = omega (arith, f.sum)

  pub came_less : (preds : List ℕ) (xs : List NodeKey) (lo lo' v y : ℕ) → lo' ≤ lo → Came net states pots preds xs lo v y → Came net states pots preds xs lo' v y
  came_less preds xs lo lo' v y l c = record { j = c.j; x = c.x; after = omega (arith, c.after); fits = c.fits; at = c.at; leads = c.leads }

  -- ---- 1. the first len in another order
  module _ (preds : List ℕ) (s : ℕ) (xs ys : List NodeKey) (len : ℕ) (done : ℕ → Bool) (S : Settled net states pots preds s xs len done) (m : Moved len xs ys) where
    long : length ys ≡ length xs
    long = m.len

    rest : (k : ℕ) → len ≤ k → get_or ys k blank ≡ get_or xs k blank
    rest k l = rest_at len xs ys m k blank l

    came_moved : (lo v y : ℕ) → len ≤ lo → Came net states pots preds xs lo v y → Came net states pots preds ys lo v y
    came_moved lo v y l c =
        let after = c.after in
        let fits = c.fits in
        let r = rest c.j (omega arith) in
        record {
          j = c.j;
          x = c.x;
          after = after;
          fits = omega (arith, long);
          at = ap (λ k. k.reach) r ∙ c.at;
          leads = subst (λ u. Leads net states pots (get_or preds v 0) u v c.x y) (sym (ap (λ k. k.node) r)) c.leads;
        }

    pub shuffled : Settled net states pots preds s ys len done
    shuffled =
        let fits = S.fits in
        let same = long in
        record {
          fits = omega arith;
          nodes = λ k l. omega (arith, all_moved (λ z. z.node < length xs) len xs ys fits m S.nodes k l);
          once = λ v l. entries_moved v len xs ys m ∙ S.once v (omega arith);
          start = all_moved (λ z. z.node ≡ s → z.reach ≡ At 0) len xs ys fits m S.start;
          order = λ i k le lk kn.
              subst (λ r. NoFarther r (reach_at ys i)) (sym (ap (λ z. z.reach) (rest k lk))) (elim (cases_lt i len) [
                | inl a ↦ below_moved (λ z. NoFarther (reach_at xs k) z.reach) len xs ys fits m (λ j b. S.order j k (omega arith) lk (omega arith)) i a
                | inr b ↦ subst (NoFarther (reach_at xs k)) (sym (ap (λ z. z.reach) (rest i b))) (S.order i k le lk (omega arith))
              ]);
          finished = λ k lk kn. let f = S.finished k lk (omega arith) in (f.0, ap (λ z. z.reach) (rest k lk) ∙ f.1);
          relaxed = λ j e k x y lj jn dn kn at ld.
              all_moved (λ z. Leads net states pots e (node_at xs j) z.node x y → NoFarther z.reach (At y)) len xs ys fits m
              (λ i il d. S.relaxed j e i x y lj (omega arith) dn il (sym (ap (λ z. z.reach) (rest j lj)) ∙ at) d) k kn
              (subst (λ u. Leads net states pots e u (node_at ys k) x y) (ap (λ z. z.node) (rest j lj)) ld);
          waiting = λ k y kl ns at. came_moved len (node_at ys k) y (omega arith)
              (below_moved (λ z. (z.node ≡ s → ⊥) → z.reach ≡ At y → Came net states pots preds xs len z.node y) len xs ys fits m (λ i il. S.waiting i y il) k kl ns at);
          ranked = λ k y lk kn ns at. came_moved (suc k) (node_at ys k) y (omega arith)
              (subst (λ z. (z.node ≡ s → ⊥) → z.reach ≡ At y → Came net states pots preds xs (suc k) z.node y) (sym (rest k lk)) (S.ranked k y lk (omega arith)) ns at);
          near = λ k y kl at. omega (arith, below_moved (λ z. z.reach ≡ At y → y + pot pots z.node ≤ pot pots s + 65535 * (length xs - len)) len xs ys fits m (λ i il. S.near i y il) k kl at);
          close = λ k y lk kn at. omega (arith, subst (λ z. z.reach ≡ At y → y + pot pots z.node ≤ pot pots s + 65535 * (length xs - suc k)) (sym (rest k lk)) (S.close k y lk (omega arith)) at);
        }

  -- ---- 2. the last of the first is finished
  pub finishes : (preds : List ℕ) (s : ℕ) (xs : List NodeKey) (len m x : ℕ) → len ≡ suc m → Settled net states pots preds s xs len (λ _. true) →
      reach_at xs m ≡ At x → ((i : ℕ) → i < len → NoFarther (reach_at xs m) (reach_at xs i)) → Settled net states pots preds s xs m (λ _. false)
  finishes preds s xs len m x q S at least =
      let fits = S.fits in
      record {
        fits = omega arith;
        nodes = S.nodes;
        once = S.once;
        start = S.start;
        order = λ i k le mk kn. elim (cases_lt k len) [
          | inl a ↦ (let z : m ≡ k = omega arith in subst (λ p. NoFarther (reach_at xs p) (reach_at xs i)) z (least i (omega arith)))
          | inr b ↦ S.order i k le b kn
        ];
        finished = λ k mk kn. elim (cases_lt k len) [
          | inl a ↦ (let z : k ≡ m = omega arith in (x, ap (reach_at xs) z ∙ at))
          | inr b ↦ S.finished k b kn
        ];
        relaxed = λ j e k x y mj jn dn kn at ld. elim (cases_lt j len) [
          | inl a ↦ absurd (both_ways false refl (dn (omega arith)))
          | inr b ↦ S.relaxed j e k x y b jn (λ _. refl) kn at ld
        ];
        waiting = λ k y km ns at. came_less preds xs len m (node_at xs k) y (omega arith) (S.waiting k y (omega arith) ns at);
        ranked = λ k y mk kn ns at. elim (cases_lt k len) [
          | inl a ↦ came_less preds xs len (suc k) (node_at xs k) y (omega arith) (S.waiting k y a ns at)
          | inr b ↦ S.ranked k y b kn ns at
        ];
        near = λ k y km at. omega (arith, S.near k y (omega arith) at);
        close = λ k y mk kn at. elim (cases_lt k len) [
          | inl a ↦ omega (arith, S.near k y a at)
          | inr b ↦ S.close k y b kn at
        ];
      }

  -- ---- 3. one arc more of the entry at len
  pub skips : (preds : List ℕ) (s : ℕ) (xs : List NodeKey) (len : ℕ) (done : ℕ → Bool) (e x : ℕ) → Settled net states pots preds s xs len done → reach_at xs len ≡ At x →
      ((k y : ℕ) → k < length xs → Leads net states pots e (node_at xs len) (node_at xs k) x y → NoFarther (reach_at xs k) (At y)) →
      Settled net states pots preds s xs len (more done e)
  skips preds s xs len done e x S here f = record {
    fits = S.fits;
    nodes = S.nodes;
    once = S.once;
    start = S.start;
    order = S.order;
    finished = S.finished;
    relaxed = λ j i k x' y lj jn dn kn at ld. elim (cases_eq j len) [
      | inl q ↦ elim (cases_eq i e) [
        | inl p ↦ (let z : At x ≡ At x' = sym here ∙ ap (reach_at xs) (sym q) ∙ at in
            let w : x' ≡ x = cc in
            f k y kn (subst (λ a. Leads net states pots a (node_at xs len) (node_at xs k) x y) p
            (subst (λ a. Leads net states pots i (node_at xs a) (node_at xs k) x y) q (subst (λ a. Leads net states pots i (node_at xs j) (node_at xs k) a y) w ld))))
        | inr p ↦ S.relaxed j i k x' y lj jn (λ z. sym (cond-false (eqb i e) true (done i) (ne_eqb i e p)) ∙ dn z) kn at ld
      ]
      | inr d ↦ S.relaxed j i k x' y lj jn (λ z. absurd (d z)) kn at ld
    ];
    waiting = S.waiting;
    ranked = S.ranked;
    near = S.near;
    close = S.close;
  }

  -- ---- 4. an entry of the first len comes nearer
  module _ (preds : List ℕ) (s : ℕ) (xs : List NodeKey) (len : ℕ) (done : ℕ → Bool) (i v x y e : ℕ) (S : Settled net states pots preds s xs len done)
      (F : Fit net states pots (length xs)) (below : i < len) (inside : len < length xs) (room : length preds ≡ length xs)
      (node : node_at xs i ≡ v) (here : reach_at xs len ≡ At x) (ld : Leads net states pots e (node_at xs len) v x y)
      (nearer : NoFarther (At y) (reach_at xs i)) where
    abbrev ys : List NodeKey
    ys = set xs i (key v y)

    abbrev preds' : List ℕ
    preds' = set preds v e

    long_w : length ys ≡ length xs
    long_w = length-set xs i (key v y)

    at_i : get_or ys i blank ≡ key v y
    at_i = get_or-set_same xs i (key v y) blank (omega arith)

    at_k : (k : ℕ) → (k ≡ i → ⊥) → get_or ys k blank ≡ get_or xs k blank
    at_k k d = get_or-set_other xs i k (key v y) blank d

    -- a node elsewhere is another node
    apart : (k : ℕ) → k < length xs → (k ≡ i → ⊥) → node_at xs k ≡ v → ⊥
    apart k l d q = d (one_place xs v k i (S.once v (omega (arith, S.nodes i (omega arith)))) l (omega arith) q node)

    each : (P : NodeKey → Type 0) (k : ℕ) → (k ≡ i → P (key v y)) → ((k ≡ i → ⊥) → P (get_or xs k blank)) → P (get_or ys k blank)
    each P k f g = elim (cases_eq k i) [
      | inl q ↦ subst P (sym (ap (λ a. get_or ys a blank) q ∙ at_i)) (f q)
      | inr d ↦ subst P (sym (at_k k d)) (g d)
    ]

    came_w : (lo w z : ℕ) → len ≤ lo → (w ≡ v → ⊥) → Came net states pots preds xs lo w z → Came net states pots preds' ys lo w z
    came_w lo w z l d c =
        let after = c.after in
        let fits = c.fits in
        let r = at_k c.j (omega arith) in
        record {
          j = c.j;
          x = c.x;
          after = after;
          fits = omega (arith, long_w);
          at = ap (λ k. k.reach) r ∙ c.at;
          leads = subst (λ a. Leads net states pots a (node_at ys c.j) w c.x z) (sym (get_or-set_other preds v w e 0 d))
              (subst (λ u. Leads net states pots (get_or preds w 0) u w c.x z) (sym (ap (λ k. k.node) r)) c.leads);
        }

    fresh_w : Came net states pots preds' ys len v y
    fresh_w =
        let r = at_k len (omega arith) in
        record {
          j = len;
          x = x;
          after = omega arith;
          fits = omega (arith, long_w);
          at = ap (λ k. k.reach) r ∙ here;
          leads = subst (λ a. Leads net states pots a (node_at ys len) v x y) (sym (get_or-set_same preds v e 0 (omega (arith, S.nodes i (omega arith)))))
              (subst (λ u. Leads net states pots e u v x y) (sym (ap (λ k. k.node) r)) ld);
        }

    later : x ≤ y
    later = leads_later e (node_at xs len) v x y F.certified ld

    behind : (k : ℕ) → len ≤ k → k < length xs → NoFarther (reach_at xs k) (At y)
    behind k lk kn = far_trans (reach_at xs k) (reach_at xs len) (At y) (S.order len k lk lk kn) (subst (λ r. NoFarther r (At y)) (sym here) later)

    at_zero : (b : Reach) → b ≡ At 0 → NoFarther (At y) b → At y ≡ At 0
    at_zero b q h = let l : NoFarther (At y) (At 0) = subst (NoFarther (At y)) q h in ap At (omega arith)

    pub improves : Settled net states pots preds' s ys len done
    improves =
        let fits = S.fits in
        let same = long_w in
        record {
          fits = omega arith;
          nodes = λ k l. each (λ z. z.node < length ys) k (λ _. omega (arith, S.nodes i (omega arith))) (λ _. omega (arith, S.nodes k (omega arith)));
          once = λ w l. entries_set w i xs (key v y) (omega arith) node ∙ S.once w (omega arith);
          start = λ k l. each (λ z. z.node ≡ s → z.reach ≡ At 0) k (λ q w. at_zero (reach_at xs i) (S.start i (omega arith) (node ∙ w)) nearer) (λ _. S.start k (omega arith));
          order = λ a k le lk kn. subst (λ r. NoFarther r (reach_at ys a)) (sym (ap (λ z. z.reach) (at_k k (omega arith))))
              (each (λ z. NoFarther (reach_at xs k) z.reach) a (λ _. behind k lk (omega arith)) (λ _. S.order a k le lk (omega arith)));
          finished = λ k lk kn. let f = S.finished k lk (omega arith) in (f.0, ap (λ z. z.reach) (at_k k (omega arith)) ∙ f.1);
          relaxed = λ j a k x' y' lj jn dn kn at d.
              let r = at_k j (omega arith) in
              let at' : reach_at xs j ≡ At x' = sym (ap (λ z. z.reach) r) ∙ at in
              each (λ z. Leads net states pots a (node_at xs j) z.node x' y' → NoFarther z.reach (At y')) k
              (λ q d. far_trans (At y) (reach_at xs i) (At y') nearer
              (S.relaxed j a i x' y' lj (omega arith) dn (omega arith) at' (subst (λ w. Leads net states pots a (node_at xs j) w x' y') (sym node) d)))
              (λ _ d. S.relaxed j a k x' y' lj (omega arith) dn (omega arith) at' d)
              (subst (λ u. Leads net states pots a u (node_at ys k) x' y') (ap (λ z. z.node) r) d);
          waiting = λ k z kl. each (λ w. (w.node ≡ s → ⊥) → w.reach ≡ At z → Came net states pots preds' ys len w.node z) k
              (λ q ns at. let w : y ≡ z = cc in subst (λ a. Came net states pots preds' ys len v a) w fresh_w)
              (λ d ns at. came_w len (node_at xs k) z (omega arith) (apart k (omega arith) d) (S.waiting k z kl ns at));
          ranked = λ k z lk kn. subst (λ w. (w.node ≡ s → ⊥) → w.reach ≡ At z → Came net states pots preds' ys (suc k) w.node z) (sym (at_k k (omega arith)))
              (λ ns at. came_w (suc k) (node_at xs k) z (omega arith) (apart k (omega arith) (omega arith)) (S.ranked k z lk (omega arith) ns at));
          near = λ k z kl. each (λ w. w.reach ≡ At z → z + pot pots w.node ≤ pot pots s + 65535 * (length ys - len)) k
              (λ q at. let w : y ≡ z = cc in omega (arith, leads_short e (node_at xs len) v x y (length xs) F ld, S.close len x (omega arith) inside here))
              (λ d at. omega (arith, S.near k z kl at));
          close = λ k z lk kn. subst (λ w. w.reach ≡ At z → z + pot pots w.node ≤ pot pots s + 65535 * (length ys - suc k)) (sym (at_k k (omega arith)))
              (λ at. omega (arith, S.close k z lk (omega arith) at));
        }

    -- and no entry of the node is farther
    pub improved_near : (k : ℕ) → k < len → node_at ys k ≡ v → NoFarther (reach_at ys k) (At y)
    improved_near k l = each (λ z. z.node ≡ v → NoFarther z.reach (At y)) k (λ _ _. omega arith) (λ d q. absurd (apart k (omega (arith, S.fits)) d q))

  -- ---- 5. an arc was offered
  pub near_all : (preds : List ℕ) (s : ℕ) (xs : List NodeKey) (len : ℕ) (done : ℕ → Bool) (e v x y : ℕ) → Settled net states pots preds s xs len done →
      Certified net (usable states) (in_f states) (pot pots) → len < length xs →
      reach_at xs len ≡ At x → Leads net states pots e (node_at xs len) v x y → ((k : ℕ) → k < len → node_at xs k ≡ v → NoFarther (reach_at xs k) (At y)) →
      (k z : ℕ) → k < length xs → Leads net states pots e (node_at xs len) (node_at xs k) x z → NoFarther (reach_at xs k) (At z)
  near_all preds s xs len done e v x y S C inside here ld near k z kn d =
      let q = leads_same e (node_at xs len) v (node_at xs k) x y z ld d in
      elim (cases_lt k len) [
        | inl a ↦ subst (λ w. NoFarther (reach_at xs k) (At w)) q.1 (near k a (sym q.0))
        | inr b ↦ far_trans (reach_at xs k) (reach_at xs len) (At z) (S.order len k b b kn)
            (subst (λ r. NoFarther r (At z)) (sym here) (leads_later e (node_at xs len) (node_at xs k) x z C d))
      ]

  pub offered : {preds preds' : List ℕ} {s : ℕ} {xs ys : List NodeKey} {len : ℕ} {done : ℕ → Bool} {e v x y : ℕ} → Settled net states pots preds s xs len done →
      Fit net states pots (length xs) → len < length xs → length preds ≡ length xs → reach_at xs len ≡ At x →
      Leads net states pots e (node_at xs len) v x y → Offered xs preds len v y e ys preds' →
      Settled net states pots preds' s ys len (more done e)
  offered {preds} {preds'} {s} {xs} {ys} {len} {done} {e} {v} {x} {y} S F inside room here ld (inl p) =
      subst (λ (q : List ℕ). Settled net states pots q s ys len (more done e)) (sym p.linked) (subst (λ (q : List NodeKey). Settled net states pots preds s q len (more done e)) (sym p.entries)
      (skips preds s xs len done e x S here (near_all preds s xs len done e v x y S F.certified inside here ld p.near)))
  offered {preds} {preds'} {s} {xs} {ys} {len} {done} {e} {v} {x} {y} S F inside room here ld (inr p) =
      let below = p.below in
      let i = p.i in
      let zs : List NodeKey = set xs i (key v y) in
      let same : length zs ≡ length xs = length-set xs i (key v y) in
      let r : get_or zs len blank ≡ get_or xs len blank = get_or-set_other xs i len (key v y) blank (omega arith) in
      let here' : reach_at zs len ≡ At x = ap (λ z. z.reach) r ∙ here in
      let ld' : Leads net states pots e (node_at zs len) v x y = subst (λ u. Leads net states pots e u v x y) (sym (ap (λ z. z.node) r)) ld in
      let W : Settled net states pots (set preds v e) s zs len done = improves preds s xs len done i v x y e S F below inside room p.node here ld p.nearer in
      let N = near_all (set preds v e) s zs len done e v x y W F.certified (omega arith) here' ld' (improved_near preds s xs len done i v x y e S F below inside room p.node here ld p.nearer) in
      subst (λ (q : List ℕ). Settled net states pots q s ys len (more done e)) (sym p.linked)
      (shuffled (set preds v e) s zs ys len (more done e) (skips (set preds v e) s zs len done e x W here' N) p.moved)

  -- ---- 6. one arc
  module _ {n : ℕ} (F : Fit net states pots n) {e : ℕ} (within : e < net.size) where
    forth_room : state_at states e ≡ Free → pot pots (net.head e) ≤ net.weight e + pot pots (net.tail e)
    forth_room q = F.certified.free e within (usable_one states e q) (not_used states e q)

    back_room : state_at states e ≡ Chosen → net.weight e + pot pots (net.tail e) ≤ pot pots (net.head e)
    back_room q = F.certified.used e within (in_used states e q)

  module _ {n : ℕ} (F : Fit net states pots n) {e u v : ℕ} (x : ℕ) (within : e < net.size) where
    pub forth : state_at states e ≡ Free → net.tail e ≡ v → u ≡ v → Leads net states pots e u (net.head e) x (x + (net.weight e + pot pots (net.tail e) - pot pots (net.head e)))
    forth q p h = inl (record { within = within; state = q; from = p ∙ sym h; to = refl; sum = omega (arith, forth_room F within q, ap (pot pots) (p ∙ sym h)) })

    pub backs : state_at states e ≡ Chosen → net.head e ≡ v → u ≡ v → Leads net states pots e u (net.tail e) x (x + (pot pots (net.head e) - pot pots (net.tail e) - net.weight e))
    backs q p h = inr (record { within = within; state = q; from = p ∙ sym h; to = refl; sum = omega (arith, back_room F within q, ap (pot pots) (p ∙ sym h)) })

    pub forth_not : state_at states e ≡ Free → (net.tail e ≡ v → ⊥) → u ≡ v → (w y : ℕ) → Leads net states pots e u w x y → ⊥
    forth_not q d h w y (inl f) = d (f.from ∙ h)
    forth_not q d h w y (inr b) = not_both (state_at states e) q b.state

    pub back_not : state_at states e ≡ Chosen → (net.head e ≡ v → ⊥) → u ≡ v → (w y : ℕ) → Leads net states pots e u w x y → ⊥
    back_not q d h w y (inl f) = not_both (state_at states e) f.state q
    back_not q d h w y (inr b) = d (b.from ∙ h)

  module _ {n : ℕ} (F : Fit net states pots n) {e u : ℕ} (x : ℕ) (within : e < net.size) where
    pub out_not : (state_at states e ≡ Free → ⊥) → (state_at states e ≡ Chosen → ⊥) → (w y : ℕ) → Leads net states pots e u w x y → ⊥
    out_not a b w y (inl f) = a f.state
    out_not a b w y (inr g) = b g.state

  pub passes : {preds : List ℕ} {s : ℕ} {xs : List NodeKey} {len : ℕ} {done : ℕ → Bool} {e v x : ℕ} → Settled net states pots preds s xs len done → Stands xs len v x →
      ((w y : ℕ) → Leads net states pots e (node_at xs len) w x y → ⊥) → Settled net states pots preds s xs len (more done e)
  passes {preds} {s} {xs} {len} {done} {e} {v} {x} S h none =
      skips preds s xs len done e x S h.at (λ k y l d. absurd (none (node_at xs k) y d))

  -- the distance of the entry at len, with room for one arc more
  pub short : (preds : List ℕ) (s : ℕ) (xs : List NodeKey) (len : ℕ) (done : ℕ → Bool) (v x : ℕ) → Settled net states pots preds s xs len done → Fit net states pots (length xs) → s < length xs → len < length xs → Stands xs len v x →
      x + pot pots v ≤ 1075838976
  short preds s xs len done v x S F ls l h =
      omega (arith, S.close len x (omega arith) l h.at, ap (pot pots) h.of, F.low s ls, F.small)

  -- ---- 7. the nearest entry leaves the heap
  module _ {preds : List ℕ} {s : ℕ} {xs ys : List NodeKey} {len : ℕ} {r : NodeKey} (S : Settled net states pots preds s xs len (λ _. true))
      (P : Popped key_cmp xs len r ys) where
    m : Moved len xs ys
    m = P.moved

    is : get_or ys (len - 1) blank ≡ r
    is = P.behind blank

    first : (i : ℕ) → i < len → NoFarther r.reach (reach_at ys i)
    first = below_moved (λ z. NoFarther r.reach z.reach) len xs ys S.fits m (λ i l. no_farther r (get_or xs i blank) (P.top.least i blank l))

    pub popped : (x : ℕ) → r.reach ≡ At x → Settled net states pots preds s ys (len - 1) (λ _. false) × Stands ys (len - 1) r.node x
    popped x at =
        let q : reach_at ys (len - 1) ≡ r.reach = ap (λ z. z.reach) is in (
          finishes preds s ys len (len - 1) x (omega (arith, P.top.some)) (shuffled preds s xs ys len (λ _. true) S m) (q ∙ at) (λ i l. subst (λ a. NoFarther a (reach_at ys i)) (sym q) (first i l)),
          record { at = q ∙ at; of = ap (λ z. z.node) is },
        )

    pub missed_popped : (t : ℕ) → Missed xs len t → (r.node ≡ t → ⊥) → Missed ys (len - 1) t
    missed_popped t M d k l kn q = elim (cases_eq k (len - 1)) [
      | inl e ↦ d (sym (ap (λ z. z.node) is) ∙ ap (node_at ys) (sym e) ∙ q)
      | inr e ↦ M k (omega arith) (omega (arith, m.len)) (sym (ap (λ z. z.node) (rest_at len xs ys m k blank (omega arith))) ∙ q)
    ]

    pub unreached_rest : r.reach ≡ NotReached → (t : ℕ) → Missed xs len t → Settled net states pots preds s ys len (λ _. true) × ((i : ℕ) → i < len → NoFarther NotReached (reach_at ys i)) × Missed ys len t
    unreached_rest at t M = (
      shuffled preds s xs ys len (λ _. true) S m,
      λ i l. subst (λ a. NoFarther a (reach_at ys i)) at (first i l),
      λ k l kn q. M k l (omega (arith, m.len)) (sym (ap (λ z. z.node) (rest_at len xs ys m k blank l)) ∙ q),
    )

  -- ---- 8. nothing more is reached
  module _ {preds : List ℕ} {s t : ℕ} {xs : List NodeKey} {len : ℕ} (S : Settled net states pots preds s xs len (λ _. true)) (F : Fit net states pots (length xs))
      (ls : s < length xs) (lt : t < length xs) (none : (i : ℕ) → i < len → NoFarther NotReached (reach_at xs i)) (M : Missed xs len t) where
    abbrev seen : ℕ → Bool
    seen v = ltb len (suc (place xs v))

    is_seen : (v : ℕ) → len ≤ place xs v → seen v ≡ true
    is_seen v l = lt-ltb len (suc (place xs v)) (omega arith)

    seen_is : (v : ℕ) → seen v ≡ true → len ≤ place xs v
    seen_is v h = omega (arith, ltb-true len (suc (place xs v)) h)

    -- what is reached is finished
    reached : (k : ℕ) (b : Reach) → NoFarther (reach_at xs k) b → NoFarther b (At 0) ⊎ ((x : ℕ) × (b ≡ At x)) → len ≤ k
    reached k b h w = elim (cases_lt k len) [ inl a ↦ absurd (stuck (reach_at xs k) b (none k a) h w) | inr l ↦ l ]
      where
        stuck : (a b : Reach) → NoFarther NotReached a → NoFarther a b → NoFarther b (At 0) ⊎ ((x : ℕ) × (b ≡ At x)) → ⊥
        stuck (At y) b n h w = n
        stuck NotReached (At x) n h w = h
        stuck NotReached NotReached n h (inl w) = w
        stuck NotReached NotReached n h (inr w) = let q = w.1 in let z : ◌≡◌ {A = ℕ} 0 1 = cc in omega arith

    goes : (e u v y x : ℕ) → len ≤ place xs u → u < length xs → v < length xs → reach_at xs (place xs u) ≡ At x → Leads net states pots e u v x y → seen v ≡ true
    goes e u v y x l lu lv at ld =
        let pu = place_at xs u (S.once u lu) in
        let pv = place_at xs v (S.once v lv) in
        is_seen v (reached (place xs v) (At y)
        (S.relaxed (place xs u) e (place xs v) x y l pu.0 (λ _. refl) pv.0 at
        (subst (λ a. Leads net states pots e a (node_at xs (place xs v)) x y) (sym pu.1) (subst (λ b. Leads net states pots e u b x y) (sym pv.1) ld)))
        (inr (y, refl)))

    pub severed : Severed net states s t
    severed = (
      seen,
      record {
        start = is_seen s (reached (place xs s) (At 0) (far_eq (reach_at xs (place xs s)) (At 0) (S.start (place xs s) (place_at xs s (S.once s ls)).0 (place_at xs s (S.once s ls)).1)) (inr (0, refl)));
        end = elim (cases_lt (place xs t) len) [
          | inl a ↦ le-ltb len (suc (place xs t)) (omega arith)
          | inr b ↦ absurd (M (place xs t) b (place_at xs t (S.once t lt)).0 (place_at xs t (S.once t lt)).1)
        ];
        within = F.certified.within;
        out = λ e l u f h.
            let p = seen_is (net.tail e) h in
            let g = S.finished (place xs (net.tail e)) p (place_at xs (net.tail e) (S.once (net.tail e) (F.tails e l))).0 in
            goes e (net.tail e) (net.head e) _ g.0 p (F.tails e l) (F.heads e l) g.1 (forth F g.0 l (is_free (state_at states e) u f) refl refl);
        back = λ e l f h.
            let p = seen_is (net.head e) h in
            let g = S.finished (place xs (net.head e)) p (place_at xs (net.head e) (S.once (net.head e) (F.heads e l))).0 in
            goes e (net.head e) (net.tail e) _ g.0 p (F.heads e l) (F.tails e l) g.1 (backs F g.0 l (is_used (state_at states e) f) refl refl);
      },
    )

  -- ---- 9. t is finished
  pub arrived : {preds : List ℕ} {s t v : ℕ} {xs : List NodeKey} {len far : ℕ} → Settled net states pots preds s xs len (λ _. false) → Stands xs len v far → v ≡ t →
      Fit net states pots (length xs) → s < length xs → len < length xs → Arrived net states pots preds s t xs len far
  arrived {preds} {s} {t} {v} {xs} {len} {far} S h q F ls l =
      let h' : Stands xs len t far = record { at = h.at; of = h.of ∙ q } in
      record {
        inside = l;
        stands = h';
        settled = S;
        short = omega (arith, S.close len far (omega arith) l h.at, ap (pot pots) h'.of, F.small);
      }

  -- ---- 10. all arcs of the entry at len
  pub covers_none : {preds : List ℕ} {s : ℕ} {xs : List NodeKey} {len : ℕ} {arcs : List ℕ} {done : ℕ → Bool} → Settled net states pots preds s xs len done → Covered net states pots preds s xs len arcs 0 done
  covers_none {preds} {s} {xs} {len} {arcs} {done} S = record { now_done = done; settled = S; keeps = λ i h. h; covers = λ p l. absurd (omega arith) }

  pub covers_more : {preds preds' : List ℕ} {s : ℕ} {xs ys : List NodeKey} {len len' : ℕ} {arcs : List ℕ} {k : ℕ} {done : ℕ → Bool} (C : Covered net states pots preds s xs len arcs k done) →
      (Settled net states pots preds s xs len C.now_done → Settled net states pots preds' s ys len' (more C.now_done (get_or arcs k 0))) →
      Covered net states pots preds' s ys len' arcs (k + 1) done
  covers_more {preds} {preds'} {s} {xs} {ys} {len} {len'} {arcs} {k} {done} C f = record {
    now_done = more C.now_done (get_or arcs k 0);
    settled = f C.settled;
    keeps = λ i h. kept i (C.keeps i h);
    covers = λ p l. elim (cases_eq p k) [
      | inl q ↦ (ap (λ a. more C.now_done (get_or arcs k 0) (get_or arcs a 0)) q ∙ cond-true (eqb (get_or arcs k 0) (get_or arcs k 0)) true (C.now_done (get_or arcs k 0)) (eq-eqb (get_or arcs k 0) (get_or arcs k 0) refl))
      | inr d ↦ kept (get_or arcs p 0) (C.covers p (omega arith))
    ];
  }
    where
      kept : (i : ℕ) → C.now_done i ≡ true → more C.now_done (get_or arcs k 0) i ≡ true
      kept i h = go (eqb i (get_or arcs k 0)) h
        where
          go : (b : Bool) → C.now_done i ≡ true → cond b true (C.now_done i) ≡ true
          go true h = refl
          go false h = h

  pub spreads : {preds : List ℕ} {s : ℕ} {xs : List NodeKey} {len v x : ℕ} {done : ℕ → Bool} {leaving entering : List ℕ} → Settled net states pots preds s xs len done → Stands xs len v x →
      ListsArcs net.tail net.size v leaving → ListsArcs net.head net.size v entering →
      ((p : ℕ) → p < length leaving → done (get_or leaving p 0) ≡ true) →
      ((p : ℕ) → p < length entering → done (get_or entering p 0) ≡ true) →
      Settled net states pots preds s xs len (λ _. true)
  spreads {preds} {s} {xs} {len} {v} {x} {done} {leaving} {entering} S h L E f g = record {
    fits = S.fits;
    nodes = S.nodes;
    once = S.once;
    start = S.start;
    order = S.order;
    finished = S.finished;
    relaxed = λ j e k x' y lj jn dn kn at ld. S.relaxed j e k x' y lj jn (λ q. all e k j x' y q ld) kn at ld;
    waiting = S.waiting;
    ranked = S.ranked;
    near = S.near;
    close = S.close;
  }
    where
      all : (e k j x' y : ℕ) → j ≡ len → Leads net states pots e (node_at xs j) (node_at xs k) x' y → done e ≡ true
      all e k j x' y q (inl d) = let l = L.complete e d.within (d.from ∙ ap (node_at xs) q ∙ h.of) in ap done (sym l.2) ∙ f l.0 l.1
      all e k j x' y q (inr d) = let l = E.complete e d.within (d.from ∙ ap (node_at xs) q ∙ h.of) in ap done (sym l.2) ∙ g l.0 l.1

-- ---- the start: each node has its entry, and s alone is reached
module _ (s : ℕ) (zs : List NodeKey) (within : s < length zs) (fresh : (k : ℕ) → k < length zs → get_or zs k blank ≡ record { reach = NotReached; node = k }) where
  abbrev ws : List NodeKey
  ws = set zs s (key s 0)

  long_s : length ws ≡ length zs
  long_s = length-set zs s (key s 0)

  each_s : (P : NodeKey → Type 0) (k : ℕ) → k < length ws → (k ≡ s → P (key s 0)) → ((k ≡ s → ⊥) → P (record { reach = NotReached; node = k })) → P (get_or ws k blank)
  each_s P k l f g = elim (cases_eq k s) [
    | inl q ↦ subst P (sym (ap (λ a. get_or ws a blank) q ∙ get_or-set_same zs s (key s 0) blank within)) (f q)
    | inr d ↦ subst P (sym (get_or-set_other zs s k (key s 0) blank d ∙ fresh k (omega (arith, long_s)))) (g d)
  ]

  unreached : (x : ℕ) → NotReached ≡ At x → ⊥
  unreached x q = let z : ◌≡◌ {A = ℕ} 0 1 = cc in omega arith

  pub started : (net : Digraph) (states : List State) (pots preds : List ℕ) (done : ℕ → Bool) → Settled net states pots preds s ws (length zs) done
  started net states pots preds done =
      let same = long_s in
      record {
        fits = omega arith;
        nodes = λ k l. each_s (λ z. z.node < length ws) k l (λ q. omega arith) (λ d. omega arith);
        once = λ v l. entries_set v s zs (key s 0) within (ap (λ z. z.node) (fresh s within))
            ∙ in_order zs 0 v (λ k l. ap (λ z. z.node) (fresh k l) ∙ omega arith) (omega arith) (omega arith);
        start = λ k l. each_s (λ z. z.node ≡ s → z.reach ≡ At 0) k l (λ _ _. refl) (λ d q. absurd (d q));
        order = λ i k le lk kn. absurd (omega arith);
        finished = λ k lk kn. absurd (omega arith);
        relaxed = λ j e k x y lj jn dn kn at ld. absurd (omega arith);
        waiting = λ k y kl. each_s (λ z. (z.node ≡ s → ⊥) → z.reach ≡ At y → Came net states pots preds ws (length zs) z.node y) k (omega arith)
            (λ q ns at. absurd (ns refl)) (λ d ns at. absurd (unreached y at));
        ranked = λ k y lk kn ns at. absurd (omega arith);
        near = λ k y kl. each_s (λ z. z.reach ≡ At y → y + pot pots z.node ≤ pot pots s + 65535 * (length ws - length zs)) k (omega arith)
            (λ q at. let w : 0 ≡ y = cc in omega arith) (λ d at. absurd (unreached y at));
        close = λ k y lk kn at. absurd (omega arith);
      }
