-- Entries of nodes, states of arcs and potentials, read by number.
use Rattle.std.specs.Prelude.{ℕ, suc, Bool, true, false, cond, List, [], ◌∷◌, sum_by, ◌==◌, slice_index, slice_index_or}
use Rattle.routing.specs.declared.key.NodeKey.{NodeKey}
use Rattle.routing.specs.declared.key.Reach.{Reach}
use Rattle.routing.specs.declared.key.Reach.TheVariants.{At}
use Rattle.routing.specs.declared.state.State.{State}
use Rattle.routing.specs.declared.state.State.TheVariants.{LeftOut, Free, Chosen}

abbrev pub blank : NodeKey
blank = record { reach = At 0; node = 0 }

abbrev pub node_at : List NodeKey → ℕ → ℕ
node_at xs k = (slice_index_or xs k blank).node

abbrev pub reach_at : List NodeKey → ℕ → Reach
reach_at xs k = (slice_index_or xs k blank).reach

abbrev pub mark : ℕ → NodeKey → ℕ
mark v k = cond (k.node == v) 1 0

-- how many entries are of the node v
unfoldable pub entries_of : ℕ → List NodeKey → ℕ
entries_of v xs = sum_by (mark v) xs

-- where the first entry of the node v is
unfoldable pub place : List NodeKey → ℕ → ℕ
place [] v = 0
place (x ∷ xs) v = cond (x.node == v) 0 (suc (place xs v))

-- the state of the arc e; past the last arc, it is left out
abbrev pub state_at : List State → ℕ → State
state_at states e = slice_index_or states e LeftOut

abbrev pub is_chosen : State → Bool
is_chosen LeftOut = false
is_chosen Free = false
is_chosen Chosen = true

-- not left out
abbrev pub may_serve : State → Bool
may_serve LeftOut = false
may_serve Free = true
may_serve Chosen = true

-- the chosen arcs: the set F
abbrev pub in_f : List State → ℕ → Bool
in_f states e = is_chosen (state_at states e)

abbrev pub usable : List State → ℕ → Bool
usable states e = may_serve (state_at states e)

abbrev pub pot : List ℕ → ℕ → ℕ
pot pots v = slice_index pots v
