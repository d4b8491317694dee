-- A binary heap in the first n elements of a list, the least first.
-- R answers how two elements compare; the heap takes the element type's `cmp`, a total order, for R.
use Rattle.std.specs.Prelude.{◌≡◌, ℕ, ◌+◌, ◌*◌, ◌<◌, ◌≤◌, Bool, false, List, length, take, drop, slice_index_or}
use Rattle.std.specs.declared.cmp.Ordering.{Ordering}
use Rattle.std.specs.Ordering.{is_lt}
use Rattle.std.specs.List.Sorted.{IsPermutation}
use Rattle.std.proofs.Props.{props}

module _ {X : Type 0} (R : X → X → Ordering) where
  -- x comes before y
  abbrev pub before : X → X → Bool
  before x y = is_lt (R x y)

  -- among the first n, no child comes before its parent; the children of p are at 2p + 1 and 2p + 2
  unfoldable pub IsHeap : List X → ℕ → Type 0
  IsHeap xs n = (p k : ℕ) (d : X) → p * 2 + 1 ≤ k → k ≤ p * 2 + 2 → k < n → before (slice_index_or xs k d) (slice_index_or xs p d) ≡ false

  -- none of the first n comes before x
  abbrev pub Least : X → List X → ℕ → Type 0
  Least x xs n = (k : ℕ) (d : X) → k < n → before (slice_index_or xs k d) x ≡ false

-- the order of a heap has one proof at most, so it may be a ghost field
pub IsHeap-prop : {X : Type 0} (R : X → X → Ordering) (xs : List X) (n : ℕ) → IsProp (IsHeap R xs n)
unfolding IsHeap
IsHeap-prop R xs n = Prim.hlevel props

-- ys has the first n of xs in some order, and the rest of xs as it is
pub record Moved {X : Type 0} (n : ℕ) (xs ys : List X) : Type 0 where
  pub items : IsPermutation (take n xs) (take n ys)
  pub rest : drop n ys ≡ drop n xs
  pub len : length ys ≡ length xs

-- x is among the first n
abbrev pub Holds : {X : Type 0} → List X → ℕ → X → Type 0
Holds {X} xs n x = (k : ℕ) × (k < n) × (k < length xs) × ((d : X) → slice_index_or xs k d ≡ x)
