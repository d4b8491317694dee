-- What each function of a slice and a length does: xs is the slice, n the length, r what it returns, and ys the slice after it.
-- xs may be any list. What follows only where its first n are a heap has that as a premise.
use Rattle.std.specs.Prelude.{◌≡◌, ℕ, ◌+◌, ◌-◌, ◌<◌, ◌≤◌, Bool, false, ◌⊎◌, List, length, MatchBool, Option, MatchOption, slice_index_or}
use Rattle.std.specs.declared.cmp.Ordering.{Ordering}
use Rattle.heap.specs.Least.{before, IsHeap, Least, Moved}
use Rattle.heap.specs.Calls.{Lowered, Pushed}

module _ {X : Type 0} (R : X → X → Ordering) where
  -- x is the first of n elements, and the least of them if they are a heap
  pub record First (xs : List X) (n : ℕ) (x : X) : Type 0 where
    pub some : 0 < n
    pub within : n ≤ length xs
    pub first : (d : X) → x ≡ slice_index_or xs 0 d
    pub least : IsHeap R xs n → Least R x xs n

  -- there is no first of n elements: n is 0, or xs is shorter
  abbrev pub NoTop : List X → ℕ → Type 0
  NoTop xs n = (n ≡ 0) ⊎ (length xs < n)

  -- `peek`: the first, or `None` where there is none
  abbrev pub PeeksIn : List X → ℕ → Option X → Type 0
  PeeksIn xs n r = MatchOption r (NoTop xs n) (First xs n)

  -- the first, x, went behind the other n - 1, which are a heap if the n were
  pub record PoppedIn (xs : List X) (n : ℕ) (x : X) (ys : List X) : Type 0 where
    pub first : First xs n x
    pub behind : (d : X) → slice_index_or ys (n - 1) d ≡ x
    pub moved : Moved n xs ys
    pub heap : IsHeap R xs n → IsHeap R ys (n - 1)

  -- `pop`: the first, taken out, or `None` where there is none, and nothing changed
  abbrev pub PopsIn : List X → ℕ → Option X → List X → Type 0
  PopsIn xs n r ys = MatchOption r (NoTop xs n × (ys ≡ xs)) (λ x. PoppedIn xs n x ys)

  -- x came to the first n, and the n + 1 are a heap if the n were
  pub record PushedIn (xs : List X) (n : ℕ) (x : X) (ys : List X) : Type 0 where
    pub pushed : Pushed R xs n x ys
    pub heap : IsHeap R xs n → IsHeap R ys (n + 1)

  -- `push`: true, and x is in, or false where xs has no room, and nothing changed
  abbrev pub PushesIn : List X → ℕ → X → Bool → List X → Type 0
  PushesIn xs n x r ys = MatchBool r (PushedIn xs n x ys) ((length xs ≤ n) × (ys ≡ xs))

  -- x took the place of the element at i, which it comes before, and the first n are a heap if they were
  pub record LoweredIn (xs : List X) (n i : ℕ) (x : X) (ys : List X) : Type 0 where
    pub within : n ≤ length xs
    pub lowered : Lowered R xs n i x ys
    pub heap : IsHeap R xs n → IsHeap R ys n

  -- i is not among the first n, xs is shorter, or x does not come before the element at i
  abbrev pub NotLowerIn : List X → ℕ → ℕ → X → Type 0
  NotLowerIn xs n i x = (n ≤ i) ⊎ ((length xs < n) ⊎ ((d : X) → before R x (slice_index_or xs i d) ≡ false))

  -- `lower`: true, and x is in the place, or false where it cannot be, and nothing changed
  abbrev pub LowersIn : List X → ℕ → ℕ → X → Bool → List X → Type 0
  LowersIn xs n i x r ys = MatchBool r (LoweredIn xs n i x ys) (NotLowerIn xs n i x × (ys ≡ xs))
