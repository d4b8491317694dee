-- What one round of the search keeps true.
use Rattle.std.specs.Prelude.{◌≡◌, ℕ, suc, ◌+◌, ◌-◌, ◌*◌, ◌<◌, ◌≤◌, Bool, true, false, cond, ◌⊎◌, List, length, ◌==◌, ◌≢◌, slice_index, slice_index_or, slice_set}
use Rattle.routing.specs.Orders.{NoFarther}
use Rattle.routing.specs.declared.key.NodeKey.{NodeKey}
use Rattle.routing.specs.declared.key.Reach.TheVariants.{At}
use Rattle.routing.specs.declared.state.State.{State}
use Rattle.routing.specs.declared.state.State.TheVariants.{Free, Chosen}
use Rattle.heap.specs.Least.{Moved}
use Rattle.paths.specs.Pairs.{Digraph}
use Rattle.paths.specs.Flow.{Certified, Closed}
use Rattle.routing.specs.Entries.{blank, node_at, reach_at, entries_of, state_at, in_f, usable, pot}

-- a graph of n nodes with a state for each arc, and potentials that certify the chosen ones
pub record Fit (net : Digraph) (states : List State) (pots : List ℕ) (n : ℕ) : Type 0 where
  pub small : n ≤ 32
  pub links : net.size ≤ 128
  pub stated : net.size ≤ length states
  pub noded : length pots ≡ n
  pub tails : (e : ℕ) → e < net.size → net.tail e < n
  pub heads : (e : ℕ) → e < net.size → net.head e < n
  pub costs : (e : ℕ) → e < net.size → net.weight e ≤ 65535
  pub low : (v : ℕ) → v < n → pot pots v ≤ 1073741824
  pub certified : Certified net (usable states) (in_f states) (pot pots)

-- the arc e leads in the residual graph from u, which is x away, to v, which is then y away: free, forwards
pub record Forth (net : Digraph) (states : List State) (pots : List ℕ) (e u v x y : ℕ) : Type 0 where
  pub within : e < net.size
  pub state : state_at states e ≡ Free
  pub from : net.tail e ≡ u
  pub to : net.head e ≡ v
  pub sum : y + pot pots v ≡ x + net.weight e + pot pots u

pub record Back (net : Digraph) (states : List State) (pots : List ℕ) (e u v x y : ℕ) : Type 0 where
  pub within : e < net.size
  pub state : state_at states e ≡ Chosen
  pub from : net.head e ≡ u
  pub to : net.tail e ≡ v
  pub sum : y + net.weight e + pot pots v ≡ x + pot pots u

abbrev pub Leads : Digraph → List State → List ℕ → ℕ → ℕ → ℕ → ℕ → ℕ → Type 0
Leads net states pots e u v x y = Forth net states pots e u v x y ⊎ Back net states pots e u v x y

-- the node v, y away, was reached from an entry at lo or behind it
pub record Came (net : Digraph) (states : List State) (pots preds : List ℕ) (xs : List NodeKey) (lo v y : ℕ) : Type 0 where
  pub j : ℕ
  pub x : ℕ
  pub after : lo ≤ j
  pub fits : j < length xs
  pub at : reach_at xs j ≡ At x
  pub leads : Leads net states pots (slice_index preds v) (node_at xs j) v x y

-- the entries from len on are finished, in the order in which they left the heap from the last place on;
-- the arcs of all of them are relaxed, and of the one at len those of `done`
pub record Settled (net : Digraph) (states : List State) (pots preds : List ℕ) (s : ℕ) (xs : List NodeKey) (len : ℕ) (done : ℕ → Bool) : Type 0 where
  pub fits : len ≤ length xs
  pub nodes : (k : ℕ) → k < length xs → node_at xs k < length xs
  pub once : (v : ℕ) → v < length xs → entries_of v xs ≡ 1
  pub start : (k : ℕ) → k < length xs → node_at xs k ≡ s → reach_at xs k ≡ At 0
  pub order : (i k : ℕ) → i ≤ k → len ≤ k → k < length xs → NoFarther (reach_at xs k) (reach_at xs i)
  pub finished : (k : ℕ) → len ≤ k → k < length xs → (x : ℕ) × (reach_at xs k ≡ At x)
  pub relaxed : (j e k x y : ℕ) → len ≤ j → j < length xs → (j ≡ len → done e ≡ true) → k < length xs → reach_at xs j ≡ At x →
      Leads net states pots e (node_at xs j) (node_at xs k) x y → NoFarther (reach_at xs k) (At y)
  pub waiting : (k y : ℕ) → k < len → (node_at xs k ≢ s) → reach_at xs k ≡ At y → Came net states pots preds xs len (node_at xs k) y
  pub ranked : (k y : ℕ) → len ≤ k → k < length xs → (node_at xs k ≢ s) → reach_at xs k ≡ At y → Came net states pots preds xs (suc k) (node_at xs k) y
  pub near : (k y : ℕ) → k < len → reach_at xs k ≡ At y → y + pot pots (node_at xs k) ≤ pot pots s + 65535 * (length xs - len)
  pub close : (k y : ℕ) → len ≤ k → k < length xs → reach_at xs k ≡ At y → y + pot pots (node_at xs k) ≤ pot pots s + 65535 * (length xs - suc k)

-- a search from some node that is under way
pub record Underway (net : Digraph) (states : List State) (pots preds : List ℕ) (xs : List NodeKey) (len : ℕ) : Type 0 where
  pub source : ℕ
  pub done : ℕ → Bool
  pub inside : source < length xs
  pub settled : Settled net states pots preds source xs len done

-- what an offer of the node v at y by the arc e did: nothing, since the entry was no farther or not among the first len, or it came nearer
pub record Passed (xs : List NodeKey) (preds : List ℕ) (len v y e : ℕ) (ys : List NodeKey) (preds' : List ℕ) : Type 0 where
  pub entries : ys ≡ xs
  pub linked : preds' ≡ preds
  pub near : (k : ℕ) → k < len → node_at xs k ≡ v → NoFarther (reach_at xs k) (At y)

pub record Improved (xs : List NodeKey) (preds : List ℕ) (len v y e : ℕ) (ys : List NodeKey) (preds' : List ℕ) : Type 0 where
  pub i : ℕ
  pub below : i < len
  pub node : node_at xs i ≡ v
  pub nearer : NoFarther (At y) (reach_at xs i)
  pub moved : Moved len (slice_set xs i (record { reach = At y; node = v })) ys
  pub linked : preds' ≡ slice_set preds v e

abbrev pub Offered : List NodeKey → List ℕ → ℕ → ℕ → ℕ → ℕ → List NodeKey → List ℕ → Type 0
Offered xs preds len v y e ys preds' = Passed xs preds len v y e ys preds' ⊎ Improved xs preds len v y e ys preds'

-- the entry at k is of the node v, which is x away
pub record Stands (xs : List NodeKey) (k v x : ℕ) : Type 0 where
  pub at : reach_at xs k ≡ At x
  pub of : node_at xs k ≡ v

-- the entries from len on are as they were
abbrev pub Kept : List NodeKey → List NodeKey → ℕ → Type 0
Kept xs ys len = (k : ℕ) → len ≤ k → slice_index_or ys k blank ≡ slice_index_or xs k blank

-- no finished entry is of t
abbrev pub Missed : List NodeKey → ℕ → ℕ → Type 0
Missed xs len t = (k : ℕ) → len ≤ k → k < length xs → node_at xs k ≢ t

-- t is finished, far away, at len
pub record Arrived (net : Digraph) (states : List State) (pots preds : List ℕ) (s t : ℕ) (xs : List NodeKey) (len far : ℕ) : Type 0 where
  pub inside : len < length xs
  pub stands : Stands xs len t far
  pub settled : Settled net states pots preds s xs len (λ _. false)
  pub short : far + pot pots t ≤ pot pots s + 2097152

-- the residual graph does not lead from s to t
abbrev pub Severed : Digraph → List State → ℕ → ℕ → Type 0
Severed net states s t = (S : ℕ → Bool) × Closed net (usable states) (in_f states) S s t

-- one arc more
abbrev pub more : (ℕ → Bool) → ℕ → ℕ → Bool
more done e i = cond (i == e) true (done i)

-- what is settled once the first k of a list of arcs are relaxed besides those of done
pub record Covered (net : Digraph) (states : List State) (pots preds : List ℕ) (s : ℕ) (xs : List NodeKey) (len : ℕ) (arcs : List ℕ) (k : ℕ) (done : ℕ → Bool) : Type 0 where
  pub now_done : ℕ → Bool
  pub settled : Settled net states pots preds s xs len now_done
  pub keeps : (i : ℕ) → done i ≡ true → now_done i ≡ true
  pub covers : (p : ℕ) → p < k → now_done (slice_index arcs p) ≡ true
