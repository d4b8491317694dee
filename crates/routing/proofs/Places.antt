-- Where entries are.
use Rattle.std.proofs.Common.{◌≡◌, ℕ, zero, suc, ◌+◌, ◌<◌, ◌≤◌, cond, eqb, List, [], ◌∷◌, length, get_or, take, set, sum_by, sym, refl, ap, ◌∙◌, subst, inl, inr, le_of_suc-le-suc, not-suc-le-zero, arith}
use Rattle.std.proofs.lemmas.List.{get_or_default}
use Rattle.std.proofs.lemmas.List.Sums.{sum_by-cons, sum_by-take-drop, sum_by-set}
use Rattle.std.proofs.lemmas.List.Sorted.{sum_by-IsPermutation}
use Rattle.std.proofs.lemmas.Bool.{eq-eqb, ne_eqb, cases_eq, cases_lt, cond-true, cond-false}
use Rattle.heap.specs.Least.{Moved}
use Rattle.heap.proofs.Moves.{each_moved, rest_at}
use Rattle.routing.specs.declared.key.NodeKey.{NodeKey}
use Rattle.routing.specs.Entries.{blank, node_at, mark, entries_of, place}

-- ---- counts
mark_is : (v : ℕ) (x : NodeKey) → x.node ≡ v → mark v x ≡ 1
mark_is v x q = cond-true (eqb x.node v) 1 0 (eq-eqb x.node v q)

mark_not : (v : ℕ) (x : NodeKey) → (x.node ≡ v → ⊥) → mark v x ≡ 0
mark_not v x q = cond-false (eqb x.node v) 1 0 (ne_eqb x.node v q)

entries_cons : (v : ℕ) (x : NodeKey) (xs : List NodeKey) → entries_of v (x ∷ xs) ≡ mark v x + entries_of v xs
unfolding entries_of
entries_cons v x xs = sum_by-cons (mark v) x xs

entries_nil : (v : ℕ) → entries_of v [] ≡ 0
unfolding entries_of
entries_nil v = refl

pub entries_moved : (v n : ℕ) (xs ys : List NodeKey) → Moved n xs ys → entries_of v ys ≡ entries_of v xs
unfolding entries_of
entries_moved v n xs ys m =
    omega (
      arith,
      sum_by-IsPermutation (mark v) (take n xs) (take n ys) m.items,
      sum_by-take-drop (mark v) xs n,
      sum_by-take-drop (mark v) ys n,
      ap (λ (l : List NodeKey). sum_by (mark v) l) m.rest,
    )

pub entries_set : (v i : ℕ) (xs : List NodeKey) (x : NodeKey) → i < length xs → node_at xs i ≡ x.node → entries_of v (set xs i x) ≡ entries_of v xs
unfolding entries_of
entries_set v i xs x l e =
    omega (arith, sum_by-set (mark v) xs i x blank l, ap {B = ℕ} (λ k. cond (eqb k v) 1 0) e)

some : (xs : List NodeKey) (v k : ℕ) → k < length xs → node_at xs k ≡ v → 1 ≤ entries_of v xs
some [] v k l q = absurd (not-suc-le-zero l)
some (x ∷ xs) v zero l q = omega (arith, entries_cons v x xs, mark_is v x q)
some (x ∷ xs) v (suc k) l q = omega (arith, entries_cons v x xs, some xs v k (le_of_suc-le-suc l) q)

-- ---- places
place_here : (x : NodeKey) (xs : List NodeKey) (v : ℕ) → x.node ≡ v → place (x ∷ xs) v ≡ 0
unfolding place
place_here x xs v q = cond-true (eqb x.node v) 0 (suc (place xs v)) (eq-eqb x.node v q)

place_there : (x : NodeKey) (xs : List NodeKey) (v : ℕ) → (x.node ≡ v → ⊥) → place (x ∷ xs) v ≡ suc (place xs v)
unfolding place
place_there x xs v q = cond-false (eqb x.node v) 0 (suc (place xs v)) (ne_eqb x.node v q)

pub place_at : (xs : List NodeKey) (v : ℕ) → entries_of v xs ≡ 1 → (place xs v < length xs) × (node_at xs (place xs v) ≡ v)
place_at [] v h = absurd (omega (arith, entries_nil v))
place_at (x ∷ xs) v h = elim (cases_eq x.node v) [
  | inl q ↦ (omega (arith, place_here x xs v q), ap (node_at (x ∷ xs)) (place_here x xs v q) ∙ q)
  | inr d ↦ (let r = place_at xs v (omega (arith, entries_cons v x xs, mark_not v x d)) in
      (omega (arith, place_there x xs v d, r.0), ap (node_at (x ∷ xs)) (place_there x xs v d) ∙ r.1))
]

pub place_is : (xs : List NodeKey) (v k : ℕ) → entries_of v xs ≡ 1 → k < length xs → node_at xs k ≡ v → place xs v ≡ k
place_is [] v k h l q = absurd (not-suc-le-zero l)
place_is (x ∷ xs) v zero h l q = place_here x xs v q
place_is (x ∷ xs) v (suc k) h l q = elim (cases_eq x.node v) [
  | inl e ↦ absurd (omega (arith, entries_cons v x xs, mark_is v x e, some xs v k (le_of_suc-le-suc l) q))
  | inr d ↦ (place_there x xs v d ∙ ap suc (place_is xs v k (omega (arith, entries_cons v x xs, mark_not v x d)) (le_of_suc-le-suc l) q))
]

pub one_place : (xs : List NodeKey) (v j k : ℕ) → entries_of v xs ≡ 1 → j < length xs → k < length xs → node_at xs j ≡ v → node_at xs k ≡ v → j ≡ k
one_place xs v j k h a b p q = sym (place_is xs v j h a p) ∙ place_is xs v k h b q

-- ---- nodes in their order
none_below : (xs : List NodeKey) (a v : ℕ) → ((k : ℕ) → k < length xs → node_at xs k ≡ k + a) → v < a → entries_of v xs ≡ 0
none_below [] a v f l = entries_nil v
none_below (x ∷ xs) a v f l =
    let h : x.node ≡ 0 + a = f 0 (omega arith) in
    omega (
      arith,
      entries_cons v x xs,
      mark_not v x (λ q. omega arith),
      none_below xs (a + 1) v (λ k m. let g : node_at xs k ≡ suc k + a = f (suc k) (omega arith) in omega arith) (omega arith),
    )

pub in_order : (xs : List NodeKey) (a v : ℕ) → ((k : ℕ) → k < length xs → node_at xs k ≡ k + a) → a ≤ v → v < a + length xs → entries_of v xs ≡ 1
in_order [] a v f l m = absurd (omega arith)
in_order (x ∷ xs) a v f l m =
    let h : x.node ≡ 0 + a = f 0 (omega arith) in
    let g : (k : ℕ) → k < length xs → node_at xs k ≡ k + (a + 1) = λ k m. let g : node_at xs k ≡ suc k + a = f (suc k) (omega arith) in omega arith in
    elim (cases_eq x.node v) [
      | inl q ↦ omega (arith, entries_cons v x xs, mark_is v x q, none_below xs (a + 1) v g (omega arith))
      | inr d ↦ omega (arith, entries_cons v x xs, mark_not v x d, in_order xs (a + 1) v g (omega arith) (omega arith))
    ]

-- ---- what holds of each entry
pub below_moved : (P : NodeKey → Type 0) (n : ℕ) (xs ys : List NodeKey) → n ≤ length xs → Moved n xs ys → ((k : ℕ) → k < n → P (get_or xs k blank)) → (k : ℕ) → k < n → P (get_or ys k blank)
below_moved P n xs ys le m f k l = each_moved P n xs ys le m (λ i d h. subst P (get_or_default xs i blank d (omega arith)) (f i h)) k blank l

pub all_moved : (P : NodeKey → Type 0) (n : ℕ) (xs ys : List NodeKey) → n ≤ length xs → Moved n xs ys → ((k : ℕ) → k < length xs → P (get_or xs k blank)) → (k : ℕ) → k < length ys → P (get_or ys k blank)
all_moved P n xs ys le m f k l =
    let e = m.len in
    elim (cases_lt k n) [
      | inl a ↦ below_moved P n xs ys le m (λ i h. f i (omega arith)) k a
      | inr b ↦ subst P (sym (rest_at n xs ys m k blank b)) (f k (omega arith))
    ]
