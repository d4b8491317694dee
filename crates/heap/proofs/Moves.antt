-- Lists whose first n are in another order, and the rest as it was.
use Rattle.std.proofs.Common.{◌≡◌, ℕ, zero, suc, ◌+◌, ◌-◌, ◌<◌, ◌≤◌, List, [], ◌∷◌, length, get_or, take, drop, set, sym, refl, ap, ◌∙◌, subst, not-suc-le-zero, arith, length-take, get_or-drop, get_or-take, drop-set-lt}
use lib.Seq.{take-set-lt}
use Rattle.std.specs.List.{swap}
use Rattle.std.proofs.lemmas.List.{get_or_default}
use Rattle.std.proofs.lemmas.List.Edits.{length-swap}
use Rattle.std.proofs.lemmas.List.Sorted.{IsPermutation-refl, IsPermutation-trans, IsPermutation-sym}
use Rattle.std.proofs.ByRecursion.{has_shuffled}
use Rattle.heap.specs.Least.{Moved, Holds}

-- `Moved` is an equivalence
pub still : {X : Type 0} (n : ℕ) (xs : List X) → Moved n xs xs
still n xs = record { items = IsPermutation-refl (take n xs); rest = refl; len = refl }

pub back : {X : Type 0} (n : ℕ) (xs ys : List X) → Moved n xs ys → Moved n ys xs
back n xs ys m = record { items = IsPermutation-sym _ _ m.items; rest = sym m.rest; len = sym m.len }

pub again : {X : Type 0} (n : ℕ) (xs ys zs : List X) → Moved n xs ys → Moved n ys zs → Moved n xs zs
again n xs ys zs s t = record {
  items = IsPermutation-trans _ _ _ s.items t.items;
  rest = t.rest ∙ s.rest;
  len = t.len ∙ s.len;
}

in_front : {X : Type 0} (n : ℕ) (xs : List X) (i : ℕ) → i < n → i < length xs → i < length (take n xs)
in_front n xs i a b = omega (arith, length-take n xs)

from_front : {X : Type 0} (n : ℕ) (xs : List X) (i : ℕ) → i < length (take n xs) → (i < n) × (i < length xs)
from_front n xs i a = (omega (arith, length-take n xs), omega (arith, length-take n xs))

take-exchanged : {X : Type 0} (n : ℕ) (xs : List X) (i j : ℕ) → i < n → j < n → i < length xs → take n (swap xs i j) ≡ swap (take n xs) i j
take-exchanged n [] i j a b p = absurd (not-suc-le-zero p)
take-exchanged zero (x ∷ xs) i j a b p = absurd (not-suc-le-zero a)
take-exchanged (suc n) (x ∷ xs) i j a b p =
    let l = x ∷ xs in
    take-set-lt (suc n) (set l i (get_or l j x)) j (get_or l i x) b ∙ ap (λ m. set m j (get_or l i x)) (take-set-lt (suc n) l i (get_or l j x) a)
    ∙ (λ t. set (set (take (suc n) l) i (sym (get_or-take (suc n) l j x b) t)) j (sym (get_or-take (suc n) l i x a) t))

drop-exchanged : {X : Type 0} (n : ℕ) (xs : List X) (i j : ℕ) → i < n → j < n → drop n (swap xs i j) ≡ drop n xs
drop-exchanged n [] i j a b = refl
drop-exchanged n (x ∷ xs) i j a b = simp drop-set-lt

-- two of the first n in each other's place
pub swapped : {X : Type 0} (n : ℕ) (xs ys : List X) (i j : ℕ) → i < n → j < n → i < length xs → j < length xs → ys ≡ swap xs i j → Moved n xs ys
swapped n xs ys i j a b p q e = record {
  items = record { moves = (i, j) ∷ []; below = (in_front n xs i a p, in_front n xs j b q, tt); is = ap (take n) e ∙ take-exchanged n xs i j a b p };
  rest = ap (drop n) e ∙ drop-exchanged n xs i j a b;
  len = ap length e ∙ length-swap xs i j;
}

-- what is behind the first n is as it was
pub rest_at : {X : Type 0} (n : ℕ) (xs ys : List X) → Moved n xs ys → (k : ℕ) (d : X) → n ≤ k → get_or ys k d ≡ get_or xs k d
rest_at {X} n xs ys m k d le =
    let e : n + (k - n) ≡ k = omega arith in
    ap (λ i. get_or ys i d) (sym e) ∙ sym (get_or-drop n ys (k - n) d) ∙ ap (λ (l : List X). get_or l (k - n) d) m.rest ∙ get_or-drop n xs (k - n) d ∙ ap (λ i. get_or xs i d) e

-- what was among the first n still is
pub holds_moved : {X : Type 0} (n : ℕ) (xs ys : List X) (x : X) → Moved n xs ys → Holds xs n x → Holds ys n x
holds_moved n xs ys x m h =
    let r = has_shuffled (take n xs) (take n ys) x m.items (h.0, in_front n xs h.0 h.1 h.2, λ d. get_or-take n xs h.0 d h.1 ∙ h.3 d) in
    let b = from_front n ys r.0 r.1 in
    (r.0, b.0, b.1, λ d. sym (get_or-take n ys r.0 d b.0) ∙ r.2 d)

-- what holds of each of the first n holds of each of them after
pub each_moved : {X : Type 0} (P : X → Type 0) (n : ℕ) (xs ys : List X) → n ≤ length xs → Moved n xs ys → ((k : ℕ) (d : X) → k < n → P (get_or xs k d)) → (k : ℕ) (d : X) → k < n → P (get_or ys k d)
each_moved P n xs ys le m f k d l =
    let long = m.len in
    let h = holds_moved n ys xs (get_or ys k d) (back n xs ys m) (k, l, omega arith, λ e. get_or_default ys k e d (omega arith)) in
    subst P (h.3 d) (f h.0 d h.1)
