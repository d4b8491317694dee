-- Two rounds, and what they show.
use Rattle.std.proofs.Common.{◌≡◌, ℕ, zero, suc, ◌+◌, ◌<◌, ◌≤◌, Bool, true, false, List, [], ◌∷◌, ◌++◌, map, length, set, Some, None, Option, MatchOption, sym, refl, ap, ◌∙◌, inl, inr, arith}
use Rattle.std.specs.List.{AllByRecursion}
use Rattle.std.proofs.lemmas.List.{get_or-set_same, get_or-set_other, length_push}
use Rattle.std.proofs.ByRecursion.{All-weaker, All-push}
use Rattle.std.proofs.lemmas.Bool.{cases_eq}
use Rattle.paths.specs.Pairs.{Digraph, sum, Absent, Distinct, Walk, nodes, NoPair, Cheapest}
use Rattle.paths.specs.Flow.{up_to, Certified, Carries}
use Rattle.paths.proofs.Augment.{Off, carries_same, carries_none, carries_less, drop_from, over_dropped}
use Rattle.paths.proofs.Sums.{sum-append, sum-le-up_to}
use Rattle.paths.proofs.Rising.{rising_simple}
use Rattle.paths.proofs.Take.{leaves, cheapest}
use Rattle.paths.proofs.Cut.{no_pair, no_path}
use Rattle.routing.specs.declared.state.State.{State}
use Rattle.routing.specs.declared.state.State.TheVariants.{LeftOut, Free, Chosen}
use Rattle.routing.specs.Entries.{state_at, is_chosen, may_serve, in_f, usable, pot}
use Rattle.routing.specs.Settle.{Fit, Severed}
use Rattle.routing.specs.Back.{Rounded, CutOff}
use Rattle.routing.specs.Taking.{Ready, Doubled, Taken, Leading, Rising}
use Rattle.routing.proofs.Settles.{in_used, not_used}

module _ (net : Digraph) (was : List State) (n s t : ℕ) (N : Ready net was n) where
  none_in : (e : ℕ) → in_f was e ≡ false
  none_in e = N.plain e

  none_is : (e : ℕ) → in_f was e ≡ true → ⊥
  none_is e h = let f = none_in e in let z : ◌≡◌ {A = ℕ} 0 1 = cc in omega arith

  first_carries : Carries net (in_f was) [] []
  first_carries = carries_same net (λ _. false) (in_f was) [] [] none_in (carries_none net)

  pub first_none : Severed net was s t → NoPair net (usable was) s t
  first_none C p q P = no_path net (usable was) (in_f was) C.0 s t C.1 first_carries p P.one

  module _ (pots₀ : List ℕ) (states : List State) (pots : List ℕ) (R : Rounded net was pots₀ states pots n s t) (z : (v : ℕ) → pot pots₀ v ≡ 0) where
    pub second_fit : net.size ≤ length states → length pots ≡ n → Fit net states pots n
    second_fit l m = record {
      small = N.small;
      links = N.links;
      stated = l;
      noded = m;
      tails = N.tails;
      heads = N.heads;
      costs = N.costs;
      low = λ v l. omega (arith, R.low 0 (λ w m. omega (arith, z w)) v l);
      certified = record {
        within = λ e l h. R.walked.same e ∙ R.walked.certified.within e l h;
        used = R.walked.certified.used;
        free = λ e l u h. R.walked.certified.free e l (sym (R.walked.same e) ∙ u) h;
      };
    }

    one_carries : Carries net (in_f states) (s ∷ []) (t ∷ [])
    one_carries = R.walked.carries [] [] first_carries

    pub second_none : Severed net states s t → NoPair net (usable was) s t
    second_none (S, C) = no_pair net (usable was) (in_f states) S s t (record {
      start = C.start;
      end = C.end;
      within = λ e l h. sym (R.walked.same e) ∙ C.within e l h;
      out = λ e l u. C.out e l (R.walked.same e ∙ u);
      back = C.back;
    }) one_carries

    pub doubled : (states' : List State) (pots' : List ℕ) → Rounded net states pots states' pots' n s t → Doubled net was states' pots' s t
    doubled states' pots' Q = record {
      same = λ e. Q.walked.same e ∙ R.walked.same e;
      certified = record {
        within = λ e l h. sym (R.walked.same e) ∙ Q.walked.certified.within e l h;
        used = Q.walked.certified.used;
        free = λ e l u h. Q.walked.certified.free e l (R.walked.same e ∙ u) h;
      };
      carries = Q.walked.carries (s ∷ []) (t ∷ []) one_carries;
    }

    pub doubles : (states' : List State) (pots' : List ℕ) (r : Option (Unit {0})) → MatchOption r (CutOff net states pots states' pots' s t) (λ _. Rounded net states pots states' pots' n s t) →
        MatchOption r (NoPair net (usable was) s t) (λ _. Doubled net was states' pots' s t)
    doubles states' pots' (Some _) Q = doubled states' pots' Q
    doubles states' pots' None Q = second_none Q.severed

-- ---- an arc that leaves v
pub some_leaves : (net : Digraph) (states : List State) (v t : ℕ) → (v ≡ t → ⊥) → Leading net states v t → (e : ℕ) × (e < net.size) × (in_f states e ≡ true) × (net.tail e ≡ v)
some_leaves net states v t d L =
    leaves net (in_f states) v L.A (t ∷ L.B) (d, All-weaker (λ b. t ≡ b) (λ b. v ≡ b → ⊥) (λ b k r. d (r ∙ sym k)) L.B L.ends) L.leads

-- ---- one arc more
walk_push : (net : Digraph) (u : ℕ) (ls : List ℕ) (v e : ℕ) → Walk net u ls v → e < net.size → net.tail e ≡ v → Walk net u (ls ++ (e ∷ [])) (net.head e)
walk_push net u [] v e w l q = (l, q ∙ sym w, refl)
walk_push net u (x ∷ ls) v e w l q = (w.0, w.1, walk_push net (net.head x) ls v e w.2 l q)

module _ (net : Digraph) (was : List State) (s : ℕ) (ls : List ℕ) (v : ℕ) (states : List State) (T : Taken net was s ls v states)
    (e : ℕ) (within : e < net.size) (room : net.size ≤ length states) (used : state_at states e ≡ Chosen) (at : net.tail e ≡ v) where
  put : state_at (set states e Free) e ≡ Free
  put = get_or-set_same states e Free LeftOut (omega arith)

  left_alone : (i : ℕ) → (i ≡ e → ⊥) → state_at (set states e Free) i ≡ state_at states i
  left_alone i d = get_or-set_other states e i Free LeftOut d

  off : Off e (in_f states) (in_f (set states e Free))
  off i d = ap is_chosen (left_alone i d)

  pub takes : Taken net was s (ls ++ (e ∷ [])) (net.head e) (set states e Free)
  takes =
      let F = in_f states in
      let G = in_f (set states e Free) in
      let f : in_f states e ≡ true = in_used states e used in
      let g : in_f (set states e Free) e ≡ false = not_used (set states e Free) e put in
      record {
        walk = walk_push net s ls v e T.walk within at;
        inside = All-push (λ i. in_f was i ≡ true) ls e T.inside (T.less e f);
        gone = All-push (λ i. in_f (set states e Free) i ≡ false) ls e
            (All-weaker (λ i. in_f states i ≡ false) (λ i. in_f (set states e Free) i ≡ false)
            (λ i h. elim (cases_eq i e) [ inl q ↦ (ap (in_f (set states e Free)) q ∙ g) | inr d ↦ (off i d ∙ h) ]) ls T.gone) g;
        less = λ i h. elim (cases_eq i e) [
          | inl q ↦ (ap (in_f was) q ∙ T.less e f)
          | inr d ↦ T.less i (sym (off i d) ∙ h)
        ];
        carries = λ A B K. drop_from net F G e within off A B f g (λ π. omega (arith, T.carries A B K π, ap π at));
        same = λ i. elim (cases_eq i e) [
          | inl q ↦ (ap (usable (set states e Free)) q ∙ ap may_serve put ∙ sym (ap may_serve used) ∙ ap (usable states) (sym q) ∙ T.same i)
          | inr d ↦ (ap may_serve (left_alone i d) ∙ T.same i)
        ];
        weighs = λ w. omega (arith, T.weighs w, over_dropped net F G e within off w f g, sum-append w ls (e ∷ []));
      }

-- ---- how long a walk along F can be
ones : (n : ℕ) → up_to (λ _. 1) n ≡ n
ones zero = refl
ones (suc n) = omega (arith, ones n)

sum_ones : (ls : List ℕ) → sum (λ _. 1) ls ≡ length ls
sum_ones [] = refl
sum_ones (x ∷ ls) = omega (arith, sum_ones ls)

heads_below : (net : Digraph) (n : ℕ) → ((e : ℕ) → e < net.size → net.head e < n) → (u : ℕ) (ls : List ℕ) (v : ℕ) → Walk net u ls v → AllByRecursion (λ x. x < n) (map net.head ls)
heads_below net n h u [] v w = tt
heads_below net n h u (e ∷ ls) v w = (h e w.0, heads_below net n h (net.head e) ls v w.2)

length-map' : (f : ℕ → ℕ) (ls : List ℕ) → length (map f ls) ≡ length ls
length-map' f [] = refl
length-map' f (x ∷ ls) = omega (arith, length-map' f ls)

pub rising_certified : (net : Digraph) (states : List State) (pots : List ℕ) → Rising net states pots → Certified net (in_f states) (in_f states) (pot pots)
rising_certified net states pots R = record {
  within = λ e l h. h;
  used = R.rise;
  free = λ e l h g. let z : ◌≡◌ {A = ℕ} 0 1 = cc in absurd (omega arith);
}

pub along_simple : (net : Digraph) (states : List State) (pots : List ℕ) → Rising net states pots → (s : ℕ) (ls : List ℕ) (v : ℕ) → Walk net s ls v → AllByRecursion (λ e. in_f states e ≡ true) ls → Distinct (nodes net s ls)
along_simple net states pots R = rising_simple net (in_f states) (in_f states) (pot pots) (rising_certified net states pots R) R.dear

pub along_short : (net : Digraph) (states : List State) (pots : List ℕ) → Rising net states pots → (s : ℕ) (ls : List ℕ) (v : ℕ) → s < length pots → Walk net s ls v → AllByRecursion (λ e. in_f states e ≡ true) ls → length ls < length pots
along_short net states pots R s ls v l w a =
    omega (
      arith,
      sum-le-up_to (λ _. 1) (length pots) (nodes net s ls) (along_simple net states pots R s ls v w a) (l, heads_below net (length pots) R.heads s ls v w),
      ones (length pots),
      sum_ones (nodes net s ls),
      length-map' net.head ls,
    )

pub taking_room : (net : Digraph) (was : List State) (pots : List ℕ) (s : ℕ) (ls : List ℕ) (v : ℕ) (states : List State) → Taken net was s ls v states → Rising net was pots → s < length pots →
    (e : ℕ) → e < net.size → state_at states e ≡ Chosen → net.tail e ≡ v → length ls + 1 < length pots
taking_room net was pots s ls v states T R l e within used at =
    omega (
      arith,
      along_short net was pots R s (ls ++ (e ∷ [])) (net.head e) l (walk_push net s ls v e T.walk within at)
          (All-push (λ i. in_f was i ≡ true) ls e T.inside (T.less e (in_used states e used))),
      length_push ls e,
    )

pub still_leading : (net : Digraph) (was : List State) (s t : ℕ) (ls : List ℕ) (v : ℕ) (states : List State) → Taken net was s ls v states → Leading net was s t → Leading net states v t
still_leading net was s t ls v states T L = record { A = L.A; B = L.B; ends = L.ends; leads = T.carries L.A (t ∷ L.B) L.leads }

pub taken_none : (net : Digraph) (was : List State) (s : ℕ) → Taken net was s [] s was
taken_none net was s = record {
  walk = refl;
  inside = tt;
  gone = tt;
  less = λ e h. h;
  carries = λ A B K. K;
  same = λ e. refl;
  weighs = λ w. omega arith;
}

-- ---- two paths
absent_off : (F : ℕ → Bool) (e : ℕ) (q : List ℕ) → F e ≡ false → AllByRecursion (λ i. F i ≡ true) q → Absent e q
absent_off F e [] h k = tt
absent_off F e (x ∷ q) h k = (λ r. (let g : F e ≡ true = ap F r ∙ k.0 in let z : ◌≡◌ {A = ℕ} 0 1 = cc in omega arith), absent_off F e q h k.1)

walk_usable : (net : Digraph) (usable F : ℕ → Bool) → ((e : ℕ) → e < net.size → F e ≡ true → usable e ≡ true) →
    (u : ℕ) (ls : List ℕ) (v : ℕ) → Walk net u ls v → AllByRecursion (λ e. F e ≡ true) ls → AllByRecursion (λ e. usable e ≡ true) ls
walk_usable net usable F h u [] v W a = tt
walk_usable net usable F h u (e ∷ ls) v W a = (h e W.0 a.0, walk_usable net usable F h (net.head e) ls v W.2 a.1)

module _ (net : Digraph) (was : List State) (n s t : ℕ) (N : Ready net was n) (states : List State) (pots : List ℕ) (D : Doubled net was states pots s t) (room : length pots ≡ n) where
  pub first_leading : Leading net states s t
  first_leading = record { A = s ∷ []; B = t ∷ []; ends = (refl, tt); leads = D.carries }

  pub first_rising : Rising net states pots
  first_rising = record {
    rise = D.certified.used;
    dear = λ e l h. N.dear e l;
    heads = λ e l. omega (arith, N.heads e l);
  }

  module _ (p : List ℕ) (states' : List State) (T : Taken net states s p t states') where
    one_left : Carries net (in_f states') (s ∷ []) (t ∷ [])
    one_left = carries_less net (in_f states') t (s ∷ []) (t ∷ []) (T.carries (s ∷ []) (t ∷ t ∷ []) D.carries)

    pub second_leading : Leading net states' s t
    second_leading = record { A = []; B = []; ends = tt; leads = one_left }

    pub second_rising : Rising net states' pots
    second_rising = record {
      rise = λ e l h. D.certified.used e l (T.less e h);
      dear = λ e l h. N.dear e l;
      heads = λ e l. omega (arith, N.heads e l);
    }

    pub found_pair : (q : List ℕ) (states'' : List State) → Taken net states' s q t states'' → Cheapest net (usable was) s t p q
    found_pair q states'' U =
        let inq : AllByRecursion (λ e. in_f states e ≡ true) q = All-weaker (λ e. in_f states' e ≡ true) (λ e. in_f states e ≡ true) T.less q U.inside in
        cheapest net (usable was) (in_f states) (pot pots) s t D.certified D.carries p q
        (record {
          one = record {
            walk = T.walk;
            allowed = walk_usable net (usable was) (in_f states) D.certified.within s p t T.walk T.inside;
            simple = along_simple net states pots first_rising s p t T.walk T.inside;
          };
          two = record {
            walk = U.walk;
            allowed = walk_usable net (usable was) (in_f states) D.certified.within s q t U.walk inq;
            simple = along_simple net states pots first_rising s q t U.walk inq;
          };
          apart = All-weaker (λ e. in_f states' e ≡ false) (λ e. Absent e q) (λ e h. absent_off (in_f states') e q h U.inside) p T.gone;
        })
        (omega (arith, T.weighs net.weight, U.weighs net.weight))
