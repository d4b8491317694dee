-- Trails that are followed link by link: what one link more adds, what is left at the target, and what is paid at most.
use Rattle.std.proofs.Common.{◌≡◌, ℕ, ◌+◌, ◌*◌, ◌<◌, ◌≤◌, Bool, true, false, not, ◌⊎◌, List, [], ◌∷◌, length, Some, None, Option, refl, sym, ap, ◌∙◌, subst, inl, inr, ⊎_elim, arith, length-set}
use Rattle.std.specs.Option.{option_map}
use Rattle.std.proofs.lemmas.List.Sums.{count_by-le-length}
use Rattle.std.proofs.lemmas.Bool.{both_ways, cases_eq}
use Rattle.network.specs.declared.link.Link.{Link}
use Rattle.paths.specs.Pairs.{Digraph, cost}
use Rattle.routing.specs.Answer.{link_graph}
use Rattle.enumeration.specs.declared.trail.Trail.{Trail}
use Rattle.enumeration.specs.Least.{Least, smaller}
use Rattle.enumeration.specs.Walks.{BeginsBelow, Completed, Each, Limited, Onward, begun, completed_cost, costs, followed, leads_on, left, only, unseen}
use Rattle.enumeration.proofs.Marks.{enters}
use Rattle.enumeration.proofs.Minimum.{least_more, least_same}
use Rattle.enumeration.proofs.Onward.{leads, length_only, others_complete}

-- ---- what is paid at most
module _ (links : List Link) (lim : Limited links) (s t : ℕ) where
  abbrev net : Digraph
  net = link_graph links

  -- a trail enters each node that is not seen at most once
  onward_cost : (trail : Trail) (ls : List ℕ) → length trail.seen ≡ 32 → Onward net trail ls t → cost net ls ≤ 65535 * unseen trail.seen
  onward_cost trail [] n w = omega arith
  onward_cost trail (e ∷ ls) n w =
      let h = lim.heads e w.0 in
      omega (
        arith,
        lim.costs e w.0,
        enters trail.seen (net.head e) (omega arith) (leads trail e (net.tail e) (net.head e) w.1).2,
        onward_cost (followed trail e (net.head e)) ls (simp length-set n) w.2,
      )

  each_cost : (free : List Bool) (qs : List (List ℕ)) → Each net s t free qs → costs net qs ≤ 2097120 * length qs
  each_cost free [] w = omega arith
  each_cost free (q ∷ qs) w =
      omega (arith, onward_cost (begun free s) q (length_only s) w.0, each_cost (left free q) qs w.1, count_by-le-length not (only s), length_only s)

  -- with one link more it is still a `u32`
  pub fits : (more : ℕ) (trail : Trail) → more < 256 → length trail.seen ≡ 32 → (o : Option ℕ) → Least (Completed net s t more trail) (completed_cost net) o →
      (c : ℕ) → o ≡ Some c → (w : ℕ) → w < 65536 → w + c < 4294967296
  fits more trail l n None h c is w k = cc
  fits more trail l n (Some d) h c is w k =
      let q = h.0.1 in
      let e : d ≡ c = cc in
      omega (arith, h.0.2, q.2, onward_cost trail h.0.0.0 n q.0, each_cost (left trail.free h.0.0.0) h.0.0.1 q.1, count_by-le-length not trail.seen)

-- ---- at the target
module _ (net : Digraph) (s t : ℕ) (trail : Trail) (here : trail.node ≡ t) where
  others_least : (fewer : ℕ) (o : Option ℕ) → Least (Completed net s t fewer (begun trail.free s)) (completed_cost net) o →
      Least (Completed net s t (fewer + 1) trail) (completed_cost net) o
  others_least fewer None h = λ x w. let k = others_complete net s t fewer trail x.0 x.1 w in h k.0 k.1
  others_least fewer (Some c) h =
      let y = h.0.0 in (
        (([], y.0 ∷ y.1), (here, (h.0.1.0, h.0.1.1), omega (arith, h.0.1.2)), omega (arith, h.0.2)),
        λ x w. let k = others_complete net s t fewer trail x.0 x.1 w in omega (arith, h.1 k.0 k.1, ap (costs net) k.2),
      )

  pub none_left : (more : ℕ) → more ≡ 0 → Least (Completed net s t more trail) (completed_cost net) (Some 0)
  none_left more e = ((([], []), (here, tt, sym e), refl), λ x w. omega arith)

  -- only the other paths are left to choose
  pub others_left : (more fewer : ℕ) → more ≡ fewer + 1 → (first : Trail) → first ≡ begun trail.free s → (o : Option ℕ) →
      Least (Completed net s t fewer first) (completed_cost net) o → Least (Completed net s t more trail) (completed_cost net) o
  others_left more fewer e first is o h =
      subst (λ (k : ℕ). Least (Completed net s t k trail) (completed_cost net) o) (sym e)
      (others_least fewer o (subst (λ (x : Trail). Least (Completed net s t fewer x) (completed_cost net) o) is h))

-- ---- by the first link
begins_more : (e : ℕ) (ls : List ℕ) → BeginsBelow e ls → BeginsBelow (e + 1) ls
begins_more e [] h = h
begins_more e (x ∷ ls) h = omega arith

module _ (net : Digraph) (s t more : ℕ) (trail : Trail) where
  -- what begins with a link below k
  abbrev pub Before : ℕ → List ℕ × List (List ℕ) → Type 0
  Before k x = BeginsBelow k x.0 × Completed net s t more trail x

  -- what is left once the link e is followed
  abbrev pub After : ℕ → List ℕ × List (List ℕ) → Type 0
  After e x = Completed net s t more (followed trail e (net.head e)) x

  abbrev Leads : ℕ → Type 0
  Leads e = leads_on trail e (net.tail e) (net.head e) ≡ true

  split : (e : ℕ) (ls : List ℕ) (qs : List (List ℕ)) → Before (e + 1) (ls, qs) →
      Before e (ls, qs) ⊎ ((y : List ℕ × List (List ℕ)) × After e y × (completed_cost net (ls, qs) ≡ net.weight e + completed_cost net y))
  split e [] qs h = absurd h.0
  split e (x ∷ ls) qs h =
      ⊎_elim
      (λ q. inr ((ls, qs), subst (λ (k : ℕ). After k (ls, qs)) q (h.1.0.2, h.1.1, h.1.2), omega (arith, ap net.weight q)))
      (λ n. inl (omega (arith, h.0), h.1)) (cases_eq x e)

  not_first : (e : ℕ) → (Leads e → ⊥) → (ls : List ℕ) (qs : List (List ℕ)) → Before (e + 1) (ls, qs) → Before e (ls, qs)
  not_first e shut [] qs h = absurd h.0
  not_first e shut (x ∷ ls) qs h =
      ⊎_elim (λ q. absurd (shut (subst (λ (k : ℕ). Leads k) q h.1.0.1))) (λ n. (omega (arith, h.0), h.1)) (cases_eq x e)

  pub passed : (e : ℕ) (best : Option ℕ) → leads_on trail e (net.tail e) (net.head e) ≡ false →
      Least (Before e) (completed_cost net) best → Least (Before (e + 1)) (completed_cost net) best
  passed e best shut a =
      least_same (Before e) (Before (e + 1)) (completed_cost net) (λ x k. (begins_more e x.0 k.0, k.1))
      (λ x k. not_first e (both_ways (leads_on trail e (net.tail e) (net.head e)) shut) x.0 x.1 k) best a

  module _ (e : ℕ) (inside : e < net.size) (leads : Leads e) (best : Option ℕ) (before : Least (Before e) (completed_cost net) best) where
    -- the cheapest so far, and the cheapest that begins with e
    pub taken : (trail' : Trail) → trail' ≡ followed trail e (net.head e) → (rest : Option ℕ) → Least (Completed net s t more trail') (completed_cost net) rest →
        (w : ℕ) → w ≡ net.weight e → (added : Option ℕ) → added ≡ option_map (λ c. w + c) rest → (least : Option ℕ) → least ≡ smaller best added →
        Least (Before (e + 1)) (completed_cost net) least
    taken trail' is rest after w weight added sum least lower =
        let after_e : Least (After e) (completed_cost net) rest = subst (λ (x : Trail). Least (Completed net s t more x) (completed_cost net) rest) is after in
        subst (λ (o : Option ℕ). Least (Before (e + 1)) (completed_cost net) o)
        (sym (lower ∙ ap (smaller best) (sum ∙ ap (λ k. option_map (λ c. k + c) rest) weight)))
        (least_more (Before e) (Before (e + 1)) (After e) (completed_cost net) (completed_cost net) (net.weight e)
        (λ x k. (begins_more e x.0 k.0, k.1)) (λ y w. ((e ∷ y.0, y.1), (omega arith, ((inside, leads, w.0), w.1, w.2)), omega arith))
        (λ x k. split e x.0 x.1 k) best rest before after_e)
