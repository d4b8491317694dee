-- What a search in a residual graph knows of the nodes, and keeps. Of the entries xs the first n are in the heap, and those
-- behind them are of the finished nodes; preds says by which arc each node was reached.
use Rattle.std.specs.Prelude.{◌≡◌, ℕ, ◌<◌, Bool, List, length}
use Rattle.graph.specs.Graphs.{node_count}
use Rattle.routing.specs.declared.explore.Finished.{Finished}
use Rattle.routing.specs.declared.key.NodeKey.{NodeKey}
use Rattle.routing.specs.declared.residual.Residual.{Residual}
use Rattle.routing.specs.Settle.{Covered, Kept, Settled, Stands, Underway}
use Rattle.routing.specs.Views.{net_of}

-- each node of the graph has an entry, and the one just behind the heap is of the node that was finished last
pub record Reaches (r : Residual) (preds : List ℕ) (xs : List NodeKey) (n : ℕ) (at : Finished) : Type 0 where
  pub all : length xs ≡ node_count r.graph.now
  pub linked : length preds ≡ node_count r.graph.now
  pub inside : n < length xs
  pub stands : Stands xs n at.node at.far

-- what is settled of a search from s, where of the node that was finished last the arcs of `done` are relaxed
abbrev pub Settles : Residual → List ℕ → List NodeKey → ℕ → ℕ → (ℕ → Bool) → Type 0
Settles r preds xs n s done = Settled (net_of r.graph.now) r.states.now r.pots.now preds s xs n done

-- the same of a search from some node
abbrev pub Searching : Residual → List ℕ → List NodeKey → ℕ → Type 0
Searching r preds xs n = Underway (net_of r.graph.now) r.states.now r.pots.now preds xs n

-- what is settled once the first k of a list of arcs are relaxed besides those of `done`
abbrev pub Covers : Residual → List ℕ → List NodeKey → ℕ → ℕ → List ℕ → ℕ → (ℕ → Bool) → Type 0
Covers r preds xs n s arcs k done = Covered (net_of r.graph.now) r.states.now r.pots.now preds s xs n arcs k done

-- no node more or less is finished, and those that were are as they were
pub record Onward (xs : List NodeKey) (n : ℕ) (ys : List NodeKey) (m : ℕ) : Type 0 where
  pub as_many : m ≡ n
  pub kept : Kept xs ys n
  pub long : length ys ≡ length xs
