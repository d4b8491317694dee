-- Networks on which it is wrong to take the cheapest path first.
use Rattle.std.specs.Prelude.{◌≡◌, ℕ, ◌+◌, ◌<◌, ◌≤◌, Bool, true, ◌⊎◌, List, [], ◌∷◌, length, ◌≢◌, slice_index_or}
use Rattle.network.specs.declared.link.Link.{Link}
use Rattle.network.specs.Limits.{blank}
use Rattle.paths.specs.Pairs.{Cheapest, Path, cost}
use Rattle.routing.specs.Answer.{link_graph}

-- the link of the number e leads from u to v
abbrev pub Leads : List Link → ℕ → ℕ → ℕ → Type 0
Leads links e u v = ((slice_index_or links e blank).tail ≡ u) × ((slice_index_or links e blank).head ≡ v)

abbrev pub cost_at : List Link → ℕ → ℕ
cost_at links e = (slice_index_or links e blank).cost

-- The links 0, 1 and 2 lead from node 0 through 1 and 2 to 3. To go straight to 2, or straight from 1 to 3, costs more, and
-- without 0, 1 and 2 these two do not meet.
pub record Trap (links : List Link) : Type 0 where
  pub first : Leads links 0 0 1
  pub second : Leads links 1 1 2
  pub third : Leads links 2 2 3
  pub past_one : Leads links 3 0 2
  pub past_two : Leads links 4 1 3
  pub dearer_one : cost_at links 0 + cost_at links 1 < cost_at links 3
  pub dearer_two : cost_at links 1 + cost_at links 2 < cost_at links 4
  pub cheap : cost_at links 0 + cost_at links 4 + (cost_at links 3 + cost_at links 2) ≤ 40

-- a trap, with links behind it that cost more than the pair that it hides
pub record Trapped (links : List Link) : Type 0 where
  pub trap : Trap links
  pub dear : (e : ℕ) → 5 ≤ e → e < length links → 40 < cost_at links e

-- the links 0, 1 and 2 are the one cheapest path from node 0 to 3, and no cheapest pair has it
pub record Misleads (links : List Link) : Type 0 where
  pub cheapest_path : (usable : ℕ → Bool) (p : List ℕ) → Path (link_graph links) usable 0 p 3 →
      (p ≡ 0 ∷ 1 ∷ 2 ∷ []) ⊎ (cost (link_graph links) (0 ∷ 1 ∷ 2 ∷ []) < cost (link_graph links) p)
  pub in_no_pair : (usable : ℕ → Bool) → ((e : ℕ) → e < 5 → usable e ≡ true) → (p q : List ℕ) → Cheapest (link_graph links) usable 0 3 p q →
      (p ≢ 0 ∷ 1 ∷ 2 ∷ []) × (q ≢ 0 ∷ 1 ∷ 2 ∷ [])
