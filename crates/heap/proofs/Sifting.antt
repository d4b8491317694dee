-- What each step of the heap keeps.
use Rattle.std.proofs.Common.{◌≡◌, ℕ, zero, suc, ◌+◌, ◌-◌, ◌*◌, ◌/◌, ◌<◌, ◌≤◌, Bool, true, false, List, [], ◌∷◌, length, get_or, set, take, slice_get, not-suc-le-zero, Ordering, refl, ap, ◌∙◌, ⊎_elim, arith, get_or-set_other, get_or-set_same}
use Rattle.std.specs.Cmp.{IsTotalOrder}
use Rattle.std.specs.List.{SwappedAt}
use Rattle.std.proofs.HeapSift.{ranks}
use Rattle.std.proofs.lemmas.Bool.{cases_eq}
use Rattle.heap.specs.Least.{before, IsHeap, Least}
use Rattle.heap.specs.Calls.{Peeks}
use Rattle.heap.specs.Sifted.{MayRise, MaySink, Tells, LeastChild, Rises, Sinks}

if_same : {C : Type 0} (a b : ℕ) → (a ≡ b → C) → ((a ≡ b → ⊥) → C) → C
if_same a b f g = ⊎_elim f g (cases_eq a b)

module _ {X : Type 0} {R : X → X → Ordering} (o : IsTotalOrder R) where
  not_after : (x y : X) → before R x y ≡ true → before R y x ≡ false
  not_after x y h = (ranks o).one_way x y h

  chain : (x y z : X) → before R x y ≡ false → before R y z ≡ false → before R x z ≡ false
  chain x y z h i = (ranks o).chain x y z h i

  itself : (x : X) (b : Bool) → before R x x ≡ b → before R x x ≡ false
  itself x true e = not_after x x e
  itself x false e = e

  -- in an order, equals stand for equals
  alike : {x y v w : X} → x ≡ v → y ≡ w → before R v w ≡ false → before R x y ≡ false
  alike p q h = (λ t. before R (p t) (q t)) ∙ h

  at_place : (xs : List X) (d : X) {i j : ℕ} → i ≡ j → get_or xs i d ≡ get_or xs j d
  at_place xs d e = ap (λ m. get_or xs m d) e

  same_place : (xs : List X) (d : X) {i j : ℕ} → i ≡ j → before R (get_or xs i d) (get_or xs j d) ≡ false
  same_place xs d {i} {j} e = alike (at_place xs d e) refl (itself (get_or xs j d) _ refl)

  -- an element changes places with its child c, which comes before it
  module _ (xs ys : List X) (j c n : ℕ) (low : j * 2 + 1 ≤ c) (high : c ≤ j * 2 + 2) (in_heap_lem : c < n) (s : SwappedAt xs ys j c) (came_before : (d : X) → before R (get_or xs c d) (get_or xs j d) ≡ true) where
    swapped_pair : (d : X) → before R (get_or ys c d) (get_or ys j d) ≡ false
    swapped_pair d = alike (s.1 d) (s.0 d) (not_after _ _ (came_before d))

    rises : MayRise R xs c n → MayRise R ys j n
    rises h = record {
      pairs = λ p k d a b l not_j. if_same k c
          (λ e. alike (at_place ys d e) (at_place ys d (omega arith)) (swapped_pair d))
          (λ not_c. if_same p c
          (λ e. alike (s.2 k d not_j not_c) (at_place ys d e ∙ s.1 d) (h.across j k d low high (omega arith) (omega arith) l))
          (λ q. if_same p j
          (λ e. alike (s.2 k d not_j not_c) (at_place ys d e ∙ s.0 d) (chain _ _ _ (h.pairs j k d (omega arith) (omega arith) l not_c) (not_after _ _ (came_before d))))
          (λ r. alike (s.2 k d not_j not_c) (s.2 p d r q) (h.pairs p k d a b l not_c))));
      across = λ p k d a b e f l.
          let above = h.pairs p j d a b (omega arith) (omega arith) in
          let same = s.2 p d (omega arith) (omega arith) in
          if_same k c
          (λ q. alike (at_place ys d q ∙ s.1 d) same above)
          (λ not_c. alike (s.2 k d (omega arith) not_c) same (chain _ _ _ (h.pairs j k d e f l not_c) above));
    }

    sinks : ((k : ℕ) (d : X) → j * 2 + 1 ≤ k → k ≤ j * 2 + 2 → k < n → before R (get_or xs k d) (get_or xs c d) ≡ false) → MaySink R xs j n → MaySink R ys c n
    sinks least h = record {
      pairs = λ p k d a b l not_c. if_same p j
          (λ e. if_same k c
          (λ q. alike (at_place ys d q) (at_place ys d e) (swapped_pair d))
          (λ q. alike (s.2 k d (omega arith) q) (at_place ys d e ∙ s.0 d) (least k d (omega arith) (omega arith) l)))
          (λ not_j. if_same k j
          (λ q. alike (at_place ys d q ∙ s.0 d) (s.2 p d not_j not_c) (h.across p c d (omega arith) (omega arith) low high in_heap_lem))
          (λ q. alike (s.2 k d q (omega arith)) (s.2 p d not_j not_c) (h.pairs p k d a b l not_j)));
      across = λ p k d a b e f l.
          alike (s.2 k d (omega arith) (omega arith)) (at_place ys d (omega arith) ∙ s.0 d) (h.pairs c k d e f l (omega arith));
    }

  -- the element that rose or sank has come to rest
  risen : (xs : List X) (j n : ℕ) → ((p : ℕ) (d : X) → p * 2 + 1 ≤ j → j ≤ p * 2 + 2 → before R (get_or xs j d) (get_or xs p d) ≡ false) → MayRise R xs j n → IsHeap R xs n
  unfolding IsHeap
  risen xs j n rests h = λ p k d a b l. if_same k j
      (λ e. alike (at_place xs d e) refl (rests p d (omega arith) (omega arith)))
      (h.pairs p k d a b l)

  sunk : (xs : List X) (j n : ℕ) → ((k : ℕ) (d : X) → j * 2 + 1 ≤ k → k ≤ j * 2 + 2 → k < n → before R (get_or xs k d) (get_or xs j d) ≡ false) → MaySink R xs j n → IsHeap R xs n
  unfolding IsHeap
  sunk xs j n rests h = λ p k d a b l. if_same p j
      (λ e. alike refl (at_place xs d e) (rests k d (omega arith) (omega arith) l))
      (h.pairs p k d a b l)

  pub heap_empty : (xs : List X) → IsHeap R xs 0
  unfolding IsHeap
  heap_empty xs = λ p k d a b l. absurd (omega arith)

  -- the top is the least: a chain of parents leads from each element to it
  top : (xs : List X) (n : ℕ) (d : X) → IsHeap R xs n → (fuel k : ℕ) → k ≤ fuel → k < n → before R (get_or xs k d) (get_or xs 0 d) ≡ false
  unfolding IsHeap
  top xs n d h zero k a l = same_place xs d (omega arith)
  top xs n d h (suc fuel) k a l = if_same k 0 (same_place xs d)
      (λ q. chain _ _ _ (h ((k - 1) / 2) k d (omega arith) (omega arith) l) (top xs n d h fuel ((k - 1) / 2) (omega arith) (omega arith)))

  pub top_least : (xs : List X) (n : ℕ) (x : X) → ((d : X) → x ≡ get_or xs 0 d) → IsHeap R xs n → Least R x xs n
  top_least xs n x e h = λ k d l. alike refl (e d) (top xs n d h k k (omega arith) l)

  -- `peek`
  pub peeks : (xs : List X) (n : ℕ) → n ≤ length xs → IsHeap R xs n → Peeks R xs n (slice_get (take n xs) 0)
  peeks xs zero le h = refl
  peeks [] (suc n) le h = absurd (not-suc-le-zero le)
  peeks (x ∷ xs) (suc n) le h = record { some = omega arith; first = λ d. refl; least = top_least (x ∷ xs) (suc n) x (λ d. refl) h }

  -- zs is the heap xs with one more element, another element at i, or another first
  rises_at_end : (xs zs : List X) (n : ℕ) → ((k : ℕ) (d : X) → k < n → get_or zs k d ≡ get_or xs k d) → IsHeap R xs n → MayRise R zs n (n + 1)
  unfolding IsHeap
  rises_at_end xs zs n same h = record {
    pairs = λ p k d a b l q. alike (same k d (omega arith)) (same p d (omega arith)) (h p k d a b (omega arith));
    across = λ p k d a b e f l. absurd (omega arith);
  }

  rises_at : (xs zs : List X) (i n : ℕ) → i < n → ((d : X) → before R (get_or zs i d) (get_or xs i d) ≡ true) → ((k : ℕ) (d : X) → (k ≡ i → ⊥) → get_or zs k d ≡ get_or xs k d) → IsHeap R xs n → MayRise R zs i n
  unfolding IsHeap
  rises_at xs zs i n within lower same h = record {
    pairs = λ p k d a b l q. if_same p i
        (λ e. alike (same k d q) (at_place zs d e) (chain _ _ _ (h i k d (omega arith) (omega arith) l) (not_after _ _ (lower d))))
        (λ r. alike (same k d q) (same p d r) (h p k d a b l));
    across = λ p k d a b e f l. alike (same k d (omega arith)) (same p d (omega arith)) (chain _ _ _ (h i k d e f l) (h p i d a b within));
  }

  sinks_at_top : (xs zs : List X) (n : ℕ) → ((k : ℕ) (d : X) → (k ≡ 0 → ⊥) → k < n - 1 → get_or zs k d ≡ get_or xs k d) → IsHeap R xs n → MaySink R zs 0 (n - 1)
  unfolding IsHeap
  sinks_at_top xs zs n same h = record {
    pairs = λ p k d a b l q. alike (same k d (omega arith) l) (same p d q (omega arith)) (h p k d a b (omega arith));
    across = λ p k d a b e f l. absurd (omega arith);
  }

module _ {X : Type 0} (R : X → X → Ordering) where
  -- `sift_up`: the element that began at i in xs is at j in ys
  pub Rising : List X → ℕ → List X → ℕ → Type 0
  Rising xs i ys j = (n : ℕ) → i < n → MayRise R xs i n → MayRise R ys j n

  -- `sift_down`: the element that began at 0 in xs is at j in ys
  pub Sinking : List X → ℕ → List X → ℕ → Type 0
  Sinking xs n ys j = MaySink R xs 0 n → MaySink R ys j n

module _ {X : Type 0} {R : X → X → Ordering} (o : IsTotalOrder R) where
  -- `least_child`
  pub only_child : (xs : List X) (j c n : ℕ) → c ≡ j * 2 + 1 → n ≤ c + 1 → LeastChild R xs j c n
  unfolding LeastChild
  only_child xs j c n e last = λ k d a b l. same_place o xs d (omega arith)

  pub left_child : (xs : List X) (j c n : ℕ) → c ≡ j * 2 + 1 → Tells R xs (c + 1) c false → LeastChild R xs j c n
  unfolding LeastChild
  left_child xs j c n e told = λ k d a b l. if_same k c (same_place o xs d)
      (λ q. alike o (at_place o xs d (omega arith)) refl (told d))

  pub right_child : (xs : List X) (j c n : ℕ) → c ≡ j * 2 + 1 → Tells R xs (c + 1) c true → LeastChild R xs j (c + 1) n
  unfolding LeastChild
  right_child xs j c n e told = λ k d a b l. if_same k (c + 1) (same_place o xs d)
      (λ q. alike o (at_place o xs d (omega arith)) refl (not_after o _ _ (told d)))

  -- `sift_up`
  pub rise_begins : (xs : List X) (i : ℕ) → Rising R xs i xs i
  unfolding Rising
  rise_begins xs i = λ n l h. h

  pub rise_steps : (xs ys zs : List X) (i j : ℕ) → 0 < j → j ≤ i → SwappedAt ys zs ((j - 1) / 2) j → Tells R ys j ((j - 1) / 2) true → Rising R xs i ys j → Rising R xs i zs ((j - 1) / 2)
  unfolding Rising
  rise_steps xs ys zs i j some le s told was = λ n l h. rises o ys zs ((j - 1) / 2) j n (omega arith) (omega arith) (omega arith) s told (was n l h)

  pub rise_tops : (xs ys : List X) (i j : ℕ) → j ≡ 0 → Rising R xs i ys j → Rises R xs i ys
  unfolding Rising Rises
  rise_tops xs ys i j z was = λ n l h. risen o ys j n (λ p d a b. absurd (omega arith)) (was n l h)

  pub rise_rests : (xs ys : List X) (i j : ℕ) → Tells R ys j ((j - 1) / 2) false → Rising R xs i ys j → Rises R xs i ys
  unfolding Rising Rises
  rise_rests xs ys i j told was = λ n l h. risen o ys j n (λ p d a b. alike o refl (at_place o ys d (omega arith)) (told d)) (was n l h)

  -- `sift_down`
  pub sink_begins : (xs : List X) (n : ℕ) → Sinking R xs n xs 0
  unfolding Sinking
  sink_begins xs n = λ h. h

  pub sink_steps : (xs ys zs : List X) (n j c : ℕ) → j * 2 + 1 ≤ c → c ≤ j * 2 + 2 → c < n → SwappedAt ys zs j c → LeastChild R ys j c n → Tells R ys c j true → Sinking R xs n ys j → Sinking R xs n zs c
  unfolding Sinking LeastChild
  sink_steps xs ys zs n j c low high l s least told was = λ h. sinks o ys zs j c n low high l s told least (was h)

  pub sink_rests : (xs ys : List X) (n j c : ℕ) → LeastChild R ys j c n → Tells R ys c j false → Sinking R xs n ys j → Sinks R xs n ys
  unfolding Sinking Sinks LeastChild
  sink_rests xs ys n j c least told was = λ h. sunk o ys j n (λ k d a b l. chain o _ _ _ (least k d a b l) (told d)) (was h)

  pub sink_ends : (xs ys : List X) (n j : ℕ) → n / 2 ≤ j → Sinking R xs n ys j → Sinks R xs n ys
  unfolding Sinking Sinks
  sink_ends xs ys n j leaf was = λ h. sunk o ys j n (λ k d a b l. absurd (omega arith)) (was h)

  -- `heapify`, `push`, `lower` and `pop`
  pub heap_grows : (xs ys : List X) (n : ℕ) → Rises R xs n ys → IsHeap R xs n → IsHeap R ys (n + 1)
  unfolding Rises
  heap_grows xs ys n rose h = rose (n + 1) (omega arith) (rises_at_end o xs xs n (λ k d l. refl) h)

  pub push_heaps : (xs ys : List X) (n : ℕ) (x : X) → Rises R (set xs n x) n ys → IsHeap R xs n → IsHeap R ys (n + 1)
  unfolding Rises
  push_heaps xs ys n x rose = λ h. rose (n + 1) (omega arith) (rises_at_end o xs (set xs n x) n (λ k d l. get_or-set_other xs n k x d (omega arith)) h)

  pub lower_heaps : (xs ys : List X) (n i : ℕ) (x : X) → i < n → n ≤ length xs → ((d : X) → before R x (get_or xs i d) ≡ true) → Rises R (set xs i x) i ys → IsHeap R xs n → IsHeap R ys n
  unfolding Rises
  lower_heaps xs ys n i x l le lower rose = λ h. rose n l (rises_at o xs (set xs i x) i n l
      (λ d. ap (λ (y : X). before R y (get_or xs i d)) (get_or-set_same xs i x d (omega arith)) ∙ lower d)
      (λ k d q. get_or-set_other xs i k x d q) h)

  pub pop_heaps : (xs zs ys : List X) (n : ℕ) → SwappedAt xs zs 0 (n - 1) → Sinks R zs (n - 1) ys → IsHeap R xs n → IsHeap R ys (n - 1)
  unfolding Sinks
  pop_heaps xs zs ys n s sank = λ h. sank (sinks_at_top o xs zs n (λ k d q l. s.2 k d q (omega arith)) h)
