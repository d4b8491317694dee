-- The least of some costs, of which there may be none.
use Rattle.std.specs.Prelude.{◌≡◌, ℕ, ◌≤◌, min, Some, None, Option}

-- the answer is the least cost of what has the property, or none where nothing has it
abbrev pub Least : {X : Type 0} → (X → Type 0) → (X → ℕ) → Option ℕ → Type 0
Least {X} P cost None = (x : X) → P x → ⊥
Least {X} P cost (Some c) = ((x : X) × P x × (cost x ≡ c)) × ((x : X) → P x → c ≤ cost x)

-- the smaller of two costs, where a cost is missing the other
abbrev pub smaller : Option ℕ → Option ℕ → Option ℕ
smaller None b = b
smaller (Some x) None = Some x
smaller (Some x) (Some y) = Some (min x y)
