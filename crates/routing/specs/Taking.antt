-- What a whole search is given and finds.
use Rattle.std.specs.Prelude.{◌≡◌, ℕ, ◌+◌, ◌<◌, ◌≤◌, Bool, true, false, cond, List, [], ◌∷◌, length, slice_index_or}
use Rattle.std.specs.List.{AllByRecursion}
use Rattle.routing.specs.declared.state.State.{State}
use Rattle.routing.specs.declared.state.State.TheVariants.{LeftOut, Free}
use Rattle.paths.specs.Pairs.{Digraph, sum, Walk}
use Rattle.paths.specs.Flow.{over, Certified, Carries}
use Rattle.routing.specs.Entries.{state_at, in_f, usable, pot}

-- a graph of n nodes, and which of its arcs may be used: none is chosen yet
pub record Ready (net : Digraph) (states : List State) (n : ℕ) : Type 0 where
  pub small : n ≤ 32
  pub links : net.size ≤ 128
  pub stated : net.size ≤ length states
  pub tails : (e : ℕ) → e < net.size → net.tail e < n
  pub heads : (e : ℕ) → e < net.size → net.head e < n
  pub costs : (e : ℕ) → e < net.size → net.weight e ≤ 65535
  pub dear : (e : ℕ) → e < net.size → 0 < net.weight e
  pub plain : (e : ℕ) → in_f states e ≡ false

-- each state is that of a free arc where the flag says so, else that of an arc left out
abbrev pub Marked : List Bool → List State → Type 0
Marked flags states = (e : ℕ) → e < length states → state_at states e ≡ cond (slice_index_or flags e false) Free LeftOut

-- F carries two from s to t, and the potentials certify it
pub record Doubled (net : Digraph) (was states : List State) (pots : List ℕ) (s t : ℕ) : Type 0 where
  pub same : (e : ℕ) → usable states e ≡ usable was e
  pub certified : Certified net (usable was) (in_f states) (pot pots)
  pub carries : Carries net (in_f states) (s ∷ s ∷ []) (t ∷ t ∷ [])

-- the arcs ls lead from s to v and were in F; what is left of F
pub record Taken (net : Digraph) (was : List State) (s : ℕ) (ls : List ℕ) (v : ℕ) (states : List State) : Type 0 where
  pub walk : Walk net s ls v
  pub inside : AllByRecursion (λ e. in_f was e ≡ true) ls
  pub gone : AllByRecursion (λ e. in_f states e ≡ false) ls
  pub less : (e : ℕ) → in_f states e ≡ true → in_f was e ≡ true
  pub carries : (A B : List ℕ) → Carries net (in_f was) (s ∷ A) B → Carries net (in_f states) (v ∷ A) B
  pub same : (e : ℕ) → usable states e ≡ usable was e
  pub weighs : (w : ℕ → ℕ) → sum w ls + over net (in_f states) w ≡ over net (in_f was) w

-- F leads from v to t, and perhaps more often from elsewhere to t
pub record Leading (net : Digraph) (states : List State) (v t : ℕ) : Type 0 where
  pub A : List ℕ
  pub B : List ℕ
  pub ends : AllByRecursion (λ b. t ≡ b) B
  pub leads : Carries net (in_f states) (v ∷ A) (t ∷ B)

-- potentials rise along F, and its arcs end at nodes
pub record Rising (net : Digraph) (states : List State) (pots : List ℕ) : Type 0 where
  pub rise : (e : ℕ) → e < net.size → in_f states e ≡ true → net.weight e + pot pots (net.tail e) ≤ pot pots (net.head e)
  pub dear : (e : ℕ) → e < net.size → in_f states e ≡ true → 0 < net.weight e
  pub heads : (e : ℕ) → e < net.size → net.head e < length pots
