-- How arcs are listed by one of their ends: `ends e` is the node at that end of the arc e, below size.
use Rattle.std.specs.Prelude.{◌≡◌, ℕ, ◌+◌, ◌<◌, List, map, filter, flat_map, length, slice_index, ◌==◌}
use Rattle.std.specs.List.{range_with_len}

-- the arcs of the node v, in rising order
abbrev pub of_node : (ℕ → ℕ) → ℕ → ℕ → List ℕ
of_node ends v size = filter (λ e. ends e == v) (range_with_len 0 size)

-- list is of the arcs of the node v: each of them stands in it, and no other arc
pub record ListsArcs (ends : ℕ → ℕ) (size v : ℕ) (list : List ℕ) : Type 0 where
  pub complete : (e : ℕ) → e < size → ends e ≡ v → (p : ℕ) × (p < length list) × (slice_index list p ≡ e)
  pub sound : (p : ℕ) → p < length list → (slice_index list p < size) × (ends (slice_index list p) ≡ v)

-- the arcs of the nodes below n, node by node
abbrev pub by_node : (ℕ → ℕ) → ℕ → ℕ → List ℕ
by_node ends size n = flat_map (λ v. of_node ends v size) (range_with_len 0 n)

-- where the arcs of each node below n begin in that list
abbrev pub starts : (ℕ → ℕ) → ℕ → ℕ → List ℕ
starts ends size n = map (λ v. length (by_node ends size v)) (range_with_len 0 n)

-- `first` and `order` are the index of the arcs of n nodes: where in `order` those of each node begin, and where the last ones stop
pub record Lists (ends : ℕ → ℕ) (size n : ℕ) (first order : List ℕ) : Type 0 where
  pub begins : first ≡ starts ends size (n + 1)
  pub numbers : order ≡ by_node ends size n
