-- What each call does with a heap in the first n of xs: r is what it returns, and ys the list after it.
use Rattle.std.specs.Prelude.{◌≡◌, ℕ, ◌+◌, ◌-◌, ◌<◌, ◌≤◌, true, false, List, length, Option, MatchOption, Result, MatchResult, ⊤, slice_index_or, slice_set}
use Rattle.std.specs.declared.cmp.Ordering.{Ordering}
use Rattle.heap.specs.Least.{before, Least, Moved}
use Rattle.heap.specs.declared.Full.{Full}
use Rattle.heap.specs.declared.LowerError.{LowerError}
use Rattle.heap.specs.declared.LowerError.TheVariants.{NoElement, NotBefore}

-- `take_in`: the next m came to the first n, or `Full` where there are fewer, and nothing changed
abbrev pub TakesIn : {X : Type 0} → List X → ℕ → ℕ → Result ⊤ Full → List X → Type 0
TakesIn xs n m r ys = MatchResult r (λ _. (n + m ≤ length xs) × Moved (n + m) xs ys) (λ _. (length xs < n + m) × (ys ≡ xs))

module _ {X : Type 0} (R : X → X → Ordering) where
  -- x is the first of n elements, and the least of them
  pub record Top (xs : List X) (n : ℕ) (x : X) : Type 0 where
    pub some : 0 < n
    pub first : (d : X) → x ≡ slice_index_or xs 0 d
    pub least : Least R x xs n

  -- `peek`: the top, or `None` where there is no element
  abbrev pub Peeks : List X → ℕ → Option X → Type 0
  Peeks xs n r = MatchOption r (n ≡ 0) (Top xs n)

  -- the top x went behind the other n - 1
  pub record Popped (xs : List X) (n : ℕ) (x : X) (ys : List X) : Type 0 where
    pub top : Top xs n x
    pub behind : (d : X) → slice_index_or ys (n - 1) d ≡ x
    pub moved : Moved n xs ys

  -- `pop`: the top, taken out, or `None` where there is no element, and nothing changed
  abbrev pub Pops : List X → ℕ → Option X → List X → Type 0
  Pops xs n r ys = MatchOption r ((n ≡ 0) × (ys ≡ xs)) (λ x. Popped xs n x ys)

  -- x came to the first n
  pub record Pushed (xs : List X) (n : ℕ) (x : X) (ys : List X) : Type 0 where
    pub room : n < length xs
    pub moved : Moved (n + 1) (slice_set xs n x) ys

  -- `push`: x is in, or `Full` where xs has no room for it, and nothing changed
  abbrev pub Pushes : List X → ℕ → X → Result ⊤ Full → List X → Type 0
  Pushes xs n x r ys = MatchResult r (λ _. Pushed xs n x ys) (λ _. (length xs ≤ n) × (ys ≡ xs))

  -- x took the place of the element at i, which it comes before
  pub record Lowered (xs : List X) (n i : ℕ) (x : X) (ys : List X) : Type 0 where
    pub place : i < n
    pub lower : (d : X) → before R x (slice_index_or xs i d) ≡ true
    pub moved : Moved n (slice_set xs i x) ys

  -- why x cannot take the place of the element at i: there is none, or x does not come before it
  abbrev pub NotLower : List X → ℕ → ℕ → X → LowerError → Type 0
  NotLower xs n i x NoElement = n ≤ i
  NotLower xs n i x NotBefore = (i < n) × ((d : X) → before R x (slice_index_or xs i d) ≡ false)

  -- `lower`: x is in the place, or the error says why it cannot be, and nothing changed
  abbrev pub Lowers : List X → ℕ → ℕ → X → Result ⊤ LowerError → List X → Type 0
  Lowers xs n i x r ys = MatchResult r (λ _. Lowered xs n i x ys) (λ e. NotLower xs n i x e × (ys ≡ xs))
