use Rattle.std.specs.Prelude.{ℕ, ◌<◌, ◌≤◌, List, length, slice_index_or}
use Rattle.graph.specs.declared.arc.Arc.{Arc}

-- what is read past the last arc
abbrev pub blank : Arc
blank = record { tail = 0; head = 0; weight = 0 }

-- the node that the arc e leaves
abbrev pub tail_of : List Arc → ℕ → ℕ
tail_of arcs e = (slice_index_or arcs e blank).tail

-- the node that the arc e enters
abbrev pub head_of : List Arc → ℕ → ℕ
head_of arcs e = (slice_index_or arcs e blank).head

-- the weight of the arc e
abbrev pub weight_of : List Arc → ℕ → ℕ
weight_of arcs e = (slice_index_or arcs e blank).weight

-- an arc between two of n nodes, of a weight from 1 to 65,535
abbrev pub Sound : ℕ → Arc → Type 0
Sound n arc = (arc.tail < n) × (arc.head < n) × (0 < arc.weight) × (arc.weight ≤ 65535)

-- the limits of a graph of n nodes: 1 to 32 nodes, at most 128 arcs, each between two of the nodes and of a weight from 1 to 65,535
pub record Within (n : ℕ) (arcs : List Arc) : Type 0 where
  pub nodes : (1 ≤ n) × (n ≤ 32)
  pub few : length arcs ≤ 128
  pub tails : (e : ℕ) → e < length arcs → tail_of arcs e < n
  pub heads : (e : ℕ) → e < length arcs → head_of arcs e < n
  pub light : (e : ℕ) → e < length arcs → weight_of arcs e ≤ 65535
  pub dear : (e : ℕ) → e < length arcs → 0 < weight_of arcs e
