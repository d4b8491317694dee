use Rattle.std.specs.Prelude.{◌≡◌, ℕ, ◌+◌, ◌<◌, ◌≤◌, List, length, slice_index}
use Rattle.graph.specs.declared.view.Sorted.{Sorted}

-- the arcs below count by one of their ends: those of the node v, below n, stand in order from first v up to first (v + 1)
pub record Indexed (count : ℕ) (ends : ℕ → ℕ) (first order : List ℕ) (n : ℕ) : Type 0 where
  pub firsts : length first ≡ n + 1
  pub upward : (v : ℕ) → v < n → slice_index first v ≤ slice_index first (v + 1)
  pub bounded : (v : ℕ) → v < n → slice_index first (v + 1) ≤ length order
  pub numbers : (p : ℕ) → p < length order → slice_index order p < count
  pub listed : (e : ℕ) → e < count → (p : ℕ) × (slice_index first (ends e) ≤ p) × (p < slice_index first (ends e + 1)) × (slice_index order p ≡ e)
  pub owned : (v p : ℕ) → v < n → slice_index first v ≤ p → p < slice_index first (v + 1) → ends (slice_index order p) ≡ v

-- s has the arcs below size by one of their ends, of n nodes
abbrev pub SortsBy : (ℕ → ℕ) → ℕ → Sorted → ℕ → Type 0
SortsBy ends size s n = Indexed size ends s.first.now s.order.now n
