-- What it is to sift one element up or down; it is at j, among the first n of xs.
use Rattle.std.specs.Prelude.{◌≡◌, ℕ, ◌+◌, ◌*◌, ◌<◌, ◌≤◌, Bool, false, List, ◌≢◌, slice_index_or}
use Rattle.std.specs.declared.cmp.Ordering.{Ordering}
use Rattle.heap.specs.Least.{before, IsHeap}

module _ {X : Type 0} (R : X → X → Ordering) where
  -- the children of j do not come before its parent
  abbrev pub Across : List X → ℕ → ℕ → Type 0
  Across xs j n = (p k : ℕ) (d : X) → p * 2 + 1 ≤ j → j ≤ p * 2 + 2 → j * 2 + 1 ≤ k → k ≤ j * 2 + 2 → k < n → before R (slice_index_or xs k d) (slice_index_or xs p d) ≡ false

  -- a heap, but that the element at j may come before its parent
  pub record MayRise (xs : List X) (j n : ℕ) : Type 0 where
    pub pairs : (p k : ℕ) (d : X) → p * 2 + 1 ≤ k → k ≤ p * 2 + 2 → k < n → (k ≢ j) → before R (slice_index_or xs k d) (slice_index_or xs p d) ≡ false
    pub across : Across xs j n

  -- a heap, but that children of the element at j may come before it
  pub record MaySink (xs : List X) (j n : ℕ) : Type 0 where
    pub pairs : (p k : ℕ) (d : X) → p * 2 + 1 ≤ k → k ≤ p * 2 + 2 → k < n → (p ≢ j) → before R (slice_index_or xs k d) (slice_index_or xs p d) ≡ false
    pub across : Across xs j n

  -- r says whether the element at a comes before the one at b
  abbrev pub Tells : List X → ℕ → ℕ → Bool → Type 0
  Tells xs a b r = (d : X) → before R (slice_index_or xs a d) (slice_index_or xs b d) ≡ r

  -- no child of j among the first n comes before the element at c
  unfoldable pub LeastChild : List X → ℕ → ℕ → ℕ → Type 0
  LeastChild xs j c n = (k : ℕ) (d : X) → j * 2 + 1 ≤ k → k ≤ j * 2 + 2 → k < n → before R (slice_index_or xs k d) (slice_index_or xs c d) ≡ false

  -- if xs was a heap but that the element at j may come before its parent, ys is a heap
  unfoldable pub Rises : List X → ℕ → List X → Type 0
  Rises xs j ys = (n : ℕ) → j < n → MayRise xs j n → IsHeap R ys n

  -- if xs was a heap but that children of the first may come before it, ys is a heap
  unfoldable pub Sinks : List X → ℕ → List X → Type 0
  Sinks xs n ys = MaySink xs 0 n → IsHeap R ys n
