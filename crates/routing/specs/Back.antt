-- What the walk back needs and keeps.
use Rattle.std.specs.Prelude.{◌≡◌, ℕ, ◌+◌, ◌*◌, ◌<◌, ◌≤◌, min, cond, ◌⊎◌, List, ◌∷◌, length, ◌≢◌, slice_index}
use Rattle.routing.specs.declared.key.NodeKey.{NodeKey}
use Rattle.routing.specs.declared.key.Reach.{Reach}
use Rattle.routing.specs.declared.key.Reach.TheVariants.{At, NotReached}
use Rattle.routing.specs.declared.state.State.{State}
use Rattle.routing.specs.declared.state.State.TheVariants.{Free, Chosen}
use Rattle.paths.specs.Pairs.{Digraph}
use Rattle.paths.specs.Flow.{Certified, Carries, Tight}
use Rattle.routing.specs.Settle.{Severed}
use Rattle.routing.specs.Entries.{node_at, reach_at, entries_of, place, state_at, in_f, usable, pot}

-- by how much the potential of a node rises
abbrev pub lift : Reach → ℕ → ℕ
lift (At x) far = min x far
lift NotReached far = far

abbrev pub Raised : List NodeKey → List ℕ → List ℕ → ℕ → Type 0
Raised xs pots pots' far = (k : ℕ) → k < length xs → pot pots' (node_at xs k) ≡ pot pots (node_at xs k) + lift (reach_at xs k) far

-- where a residual arc leads to
abbrev pub toward : Digraph → List State → ℕ → ℕ
toward net states e = cond (in_f states e) (net.tail e) (net.head e)

abbrev pub origin : Digraph → List State → ℕ → ℕ
origin net states e = cond (in_f states e) (net.head e) (net.tail e)

-- the arc e leads to the node of the entry k from that of an entry behind it
pub record Step (net : Digraph) (states : List State) (pots : List ℕ) (xs : List NodeKey) (k e : ℕ) : Type 0 where
  pub j : ℕ
  pub after : k < j
  pub fits : j < length xs
  pub within : e < net.size
  pub state : (state_at states e ≡ Free) ⊎ (state_at states e ≡ Chosen)
  pub from : origin net states e ≡ node_at xs j
  pub to : toward net states e ≡ node_at xs k
  pub tight : Tight net (pot pots) e

-- from each entry at len or behind it steps lead back to s
pub record Chain (net : Digraph) (states : List State) (pots preds : List ℕ) (xs : List NodeKey) (len s : ℕ) : Type 0 where
  pub nodes : (k : ℕ) → k < length xs → node_at xs k < length xs
  pub once : (v : ℕ) → v < length xs → entries_of v xs ≡ 1
  pub step : (k : ℕ) → len ≤ k → k < length xs → (node_at xs k ≢ s) → Step net states pots xs k (slice_index preds (node_at xs k))

-- the states now, with the walk at v; `was` are the states at its start
pub record Walking (net : Digraph) (was : List State) (pots : List ℕ) (xs : List NodeKey) (len t : ℕ) (states : List State) (v : ℕ) : Type 0 where
  pub node : v < length xs
  pub behind : len ≤ place xs v
  pub kept : (e k : ℕ) → place xs v ≤ k → k < length xs → toward net was e ≡ node_at xs k → state_at states e ≡ state_at was e
  pub same : (e : ℕ) → usable states e ≡ usable was e
  pub certified : Certified net (usable was) (in_f states) (pot pots)
  pub carries : (A B : List ℕ) → Carries net (in_f was) A B → Carries net (in_f states) (v ∷ A) (t ∷ B)

-- what the walk back from t to s leaves
pub record Walked (net : Digraph) (was : List State) (pots : List ℕ) (states : List State) (s t : ℕ) : Type 0 where
  pub same : (e : ℕ) → usable states e ≡ usable was e
  pub certified : Certified net (usable was) (in_f states) (pot pots)
  pub carries : (A B : List ℕ) → Carries net (in_f was) A B → Carries net (in_f states) (s ∷ A) (t ∷ B)

-- what a round leaves that reached t: F, certified by the new potentials, carries one more from s to t
pub record Rounded (net : Digraph) (was : List State) (pots₀ : List ℕ) (states : List State) (pots : List ℕ) (n s t : ℕ) : Type 0 where
  pub walked : Walked net was pots states s t
  pub low : (B : ℕ) → ((v : ℕ) → v < n → pot pots₀ v ≤ B) → (v : ℕ) → v < n → pot pots v ≤ 2 * B + 2097152

-- what a round leaves that did not reach t
pub record CutOff (net : Digraph) (was : List State) (pots₀ : List ℕ) (states : List State) (pots : List ℕ) (s t : ℕ) : Type 0 where
  pub severed : Severed net was s t
  pub still : states ≡ was
  pub level : pots ≡ pots₀
