-- Following links with marks gives the paths and the pairs of paths, and no others.
use Rattle.std.proofs.Common.{◌≡◌, ℕ, ◌+◌, ◌<◌, Bool, true, false, List, [], ◌∷◌, map, length, get_or, set, replicate, refl, ap, ◌∙◌, arith, length-set}
use lib.ListN.{length-replicate}
use Rattle.std.specs.List.{AllByRecursion}
use Rattle.std.proofs.lemmas.Bool.Decides.{nat_tests}
use Rattle.paths.specs.Pairs.{Digraph, Absent, Distinct, Walk, Path, Pair, cost}
use Rattle.routing.specs.Found.{allowed}
use Rattle.enumeration.specs.declared.trail.Trail.{Trail}
use Rattle.enumeration.specs.Walks.{Completed, Each, Onward, begun, completed_cost, followed, leads_on, left, only}
use Rattle.enumeration.proofs.Marks.{clear_before, kept_clear, unset_after, unset_before, unset_first}

-- what it says of a link that it leads on
pub leads : (trail : Trail) (e u v : ℕ) → leads_on trail e u v ≡ true →
    (get_or trail.free e false ≡ true) × (u ≡ trail.node) × (get_or trail.seen v false ≡ false)
leads trail e u v h = (grind (arith, nat_tests), grind (arith, nat_tests), grind (arith, nat_tests))

leads_since : (trail : Trail) (e u v : ℕ) → get_or trail.free e false ≡ true → u ≡ trail.node → get_or trail.seen v false ≡ false →
    leads_on trail e u v ≡ true
leads_since trail e u v f t h = grind (arith, nat_tests)

-- ---- more free links
-- what is free is free in the other list too
abbrev Wider : List Bool → List Bool → Type 0
Wider free other = (e : ℕ) → get_or free e false ≡ true → get_or other e false ≡ true

wider_taken : (free other : List Bool) (e : ℕ) → Wider free other → Wider (set free e false) (set other e false)
wider_taken free other e h x k = let b = clear_before free e x k in kept_clear other e x b.0 (h x b.1)

wider_left : (free other : List Bool) (ls : List ℕ) → Wider free other → Wider (left free ls) (left other ls)
wider_left free other [] h = h
wider_left free other (e ∷ ls) h = wider_left (set free e false) (set other e false) ls (wider_taken free other e h)

left_wider : (free : List Bool) (ls : List ℕ) → Wider (left free ls) free
left_wider free [] x k = k
left_wider free (e ∷ ls) x k = (clear_before free e x (left_wider (set free e false) ls x k)).1

onward_wider : (net : Digraph) (trail : Trail) (other : List Bool) (ls : List ℕ) (t : ℕ) → Wider trail.free other → Onward net trail ls t →
    Onward net (record { free = other; seen = trail.seen; node = trail.node }) ls t
onward_wider net trail other [] t h w = w
onward_wider net trail other (e ∷ ls) t h w =
    let k = leads trail e (net.tail e) (net.head e) w.1 in (
      w.0,
      leads_since (record { free = other; seen = trail.seen; node = trail.node }) e (net.tail e) (net.head e) (h e k.0) k.1 k.2,
      onward_wider net (followed trail e (net.head e)) (set other e false) ls t (wider_taken trail.free other e h) w.2,
    )

each_wider : (net : Digraph) (s t : ℕ) (free other : List Bool) (qs : List (List ℕ)) → Wider free other → Each net s t free qs → Each net s t other qs
each_wider net s t free other [] h w = tt
each_wider net s t free other (q ∷ qs) h w =
    (onward_wider net (begun free s) other q t h w.0, each_wider net s t (left free q) (left other q) qs (wider_left free other q h) w.1)

-- what completes a trail has paths from the source that cost no more
pub others_complete : (net : Digraph) (s t fewer : ℕ) (trail : Trail) (ls : List ℕ) (qs : List (List ℕ)) → Completed net s t (fewer + 1) trail (ls, qs) →
    (x : List ℕ × List (List ℕ)) × Completed net s t fewer (begun trail.free s) x × (qs ≡ x.0 ∷ x.1)
others_complete net s t fewer trail ls [] w = absurd (omega (arith, w.2))
others_complete net s t fewer trail ls (q ∷ qs) w =
    let wide = left_wider trail.free ls in (
      (q, qs),
      (
        onward_wider net (begun (left trail.free ls) s) trail.free q t wide w.1.0,
        each_wider net s t (left (left trail.free ls) q) (left trail.free q) qs (wider_left (left trail.free ls) trail.free q wide) w.1.1,
        omega (arith, w.2),
      ),
      refl,
    )

-- ---- trails and paths
-- none of the nodes
abbrev Unseen : List Bool → List ℕ → Type 0
Unseen seen xs = AllByRecursion (λ x. get_or seen x false ≡ false) xs

unseen_before : (seen : List Bool) (x : ℕ) → x < length seen → (ys : List ℕ) → Unseen (set seen x true) ys → Absent x ys × Unseen seen ys
unseen_before seen x l [] a = (tt, tt)
unseen_before seen x l (y ∷ ys) a =
    let h = unset_before seen x y l a.0 in
    let k = unseen_before seen x l ys a.1 in
    ((h.0, k.0), (h.1, k.1))

unseen_after : (seen : List Bool) (x : ℕ) (ys : List ℕ) → Absent x ys → Unseen seen ys → Unseen (set seen x true) ys
unseen_after seen x [] n a = tt
unseen_after seen x (y ∷ ys) n a = (unset_after seen x y n.0 a.0, unseen_after seen x ys n.1 a.1)

unseen_first : (n : ℕ) (ys : List ℕ) → Unseen (replicate n false) ys
unseen_first n [] = tt
unseen_first n (y ∷ ys) = (unset_first n y, unseen_first n ys)

-- all the links are free
abbrev Free : List Bool → List ℕ → Type 0
Free free ls = AllByRecursion (λ e. get_or free e false ≡ true) ls

free_before : (free : List Bool) (e : ℕ) (ls : List ℕ) → Free (set free e false) ls → Absent e ls × Free free ls
free_before free e [] a = (tt, tt)
free_before free e (x ∷ ls) a =
    let h = clear_before free e x a.0 in
    let k = free_before free e ls a.1 in
    ((h.0, k.0), (h.1, k.1))

free_after : (free : List Bool) (e : ℕ) (ls : List ℕ) → Absent e ls → Free free ls → Free (set free e false) ls
free_after free e [] n a = tt
free_after free e (x ∷ ls) n a = (kept_clear free e x n.0 a.0, free_after free e ls n.1 a.1)

left_before : (free : List Bool) (p q : List ℕ) → Free (left free p) q → Free free q × AllByRecursion (λ e. Absent e q) p
left_before free [] q a = (a, tt)
left_before free (e ∷ p) q a =
    let r = left_before (set free e false) p q a in
    let b = free_before free e q r.0 in
    (b.1, (b.0, r.1))

left_after : (free : List Bool) (p q : List ℕ) → Free free q → AllByRecursion (λ e. Absent e q) p → Free (left free p) q
left_after free [] q a n = a
left_after free (e ∷ p) q a n = left_after (set free e false) p q (free_after free e q n.0 a) n.1

module _ (net : Digraph) where
  -- links to different nodes are different
  apart : (e : ℕ) (ls : List ℕ) → Absent (net.head e) (map net.head ls) → Absent e ls
  apart e [] n = tt
  apart e (x ∷ ls) n = (λ q. n.0 (ap net.head q), apart e ls n.1)

  -- a walk and what the marks say of it
  abbrev Parts : Trail → List ℕ → ℕ → Type 0
  Parts trail ls t =
      Walk net trail.node ls t × Free trail.free ls × Distinct (map net.head ls) × Unseen trail.seen (map net.head ls)

  module _ (heads : (e : ℕ) → e < net.size → net.head e < 32) where
    onward_parts : (trail : Trail) (ls : List ℕ) (t : ℕ) → length trail.seen ≡ 32 → Onward net trail ls t → Parts trail ls t
    onward_parts trail [] t k w = (w, tt, tt, tt)
    onward_parts trail (e ∷ ls) t k w =
        let h = leads trail e (net.tail e) (net.head e) w.1 in
        let r = onward_parts (followed trail e (net.head e)) ls t (simp length-set k) w.2 in
        let b = unseen_before trail.seen (net.head e) (omega (arith, heads e w.0)) (map net.head ls) r.3 in
        ((w.0, h.1, r.0), (h.0, (free_before trail.free e ls r.1).1), (b.0, r.2), (h.2, b.1))

  parts_onward : (trail : Trail) (ls : List ℕ) (t : ℕ) → Parts trail ls t → Onward net trail ls t
  parts_onward trail [] t p = p.0
  parts_onward trail (e ∷ ls) t p = (
    p.0.0,
    leads_since trail e (net.tail e) (net.head e) p.1.0 p.0.1 p.3.0,
    parts_onward (followed trail e (net.head e)) ls t
        (p.0.2, free_after trail.free e ls (apart e ls p.2.0) p.1.1, p.2.1, unseen_after trail.seen (net.head e) (map net.head ls) p.2.0 p.3.1),
  )

pub length_only : (s : ℕ) → length (only s) ≡ 32
length_only s = length-set (replicate 32 false) s true ∙ length-replicate 32 false

module _ (net : Digraph) (heads : (e : ℕ) → e < net.size → net.head e < 32) (s t : ℕ) (inside : s < 32) where
  -- from where only the source is seen, trails are paths
  onward_path : (free : List Bool) (ls : List ℕ) → Onward net (begun free s) ls t → Path net (allowed free) s ls t
  onward_path free ls w =
      let r = onward_parts net heads (begun free s) ls t (length_only s) w in
      record { walk = r.0; allowed = r.1; simple = ((unseen_before (replicate 32 false) s (omega (arith, length-replicate 32 false)) (map net.head ls) r.3).0, r.2) }

  path_onward : (free : List Bool) (ls : List ℕ) → Path net (allowed free) s ls t → Onward net (begun free s) ls t
  path_onward free ls P =
      parts_onward net (begun free s) ls t
      (P.walk, P.allowed, P.simple.1, unseen_after (replicate 32 false) s (map net.head ls) P.simple.0 (unseen_first 32 (map net.head ls)))

  -- and with one path more they are pairs
  pub completed_pair : (free : List Bool) (p : List ℕ) (qs : List (List ℕ)) → Completed net s t 1 (begun free s) (p, qs) →
      (q : List ℕ) × Pair net (allowed free) s t p q × (completed_cost net (p, qs) ≡ cost net p + cost net q)
  completed_pair free p [] w = absurd (omega (arith, w.2))
  completed_pair free p (q ∷ _ ∷ _) w = absurd (omega (arith, w.2))
  completed_pair free p (q ∷ []) w =
      let Q = onward_path (left free p) q w.1.0 in
      let b = left_before free p q Q.allowed in (
        q,
        record { one = onward_path free p w.0; two = record { walk = Q.walk; allowed = b.0; simple = Q.simple }; apart = b.1 },
        omega arith,
      )

  pub pair_completed : (free : List Bool) (p q : List ℕ) → Pair net (allowed free) s t p q → Completed net s t 1 (begun free s) (p, q ∷ [])
  pair_completed free p q P = (
    path_onward free p P.one,
    (path_onward (left free p) q (record { walk = P.two.walk; allowed = left_after free p q P.two.allowed P.apart; simple = P.two.simple }), tt),
    refl,
  )
