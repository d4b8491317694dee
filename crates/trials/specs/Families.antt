-- What families are called, and which links their networks may use.
use Rattle.std.specs.Prelude.{◌≡◌, ℕ, ◌<◌, Bool, true, List, codes}
use Rattle.routing.specs.Found.{allowed}
use Rattle.trials.specs.declared.draft.Kind.{Kind}
use Rattle.trials.specs.declared.draft.Kind.TheVariants.{Parallel, Scattered, Ties, Traps}
use Rattle.trials.specs.declared.families.Family.{Family}
use Rattle.trials.specs.declared.families.Family.TheVariants.{All, Outages}

-- all links are usable, but where there are outages
abbrev pub Undisturbed : Family → List Bool → Type 0
Undisturbed (All kind) usable = (e : ℕ) → e < 128 → allowed usable e ≡ true
Undisturbed Outages usable = Unit {0}

-- the name of a kind and of a family, as bytes
abbrev pub name_of_kind : Kind → List ℕ
name_of_kind Scattered = codes "random costs"
name_of_kind Ties = codes "ties"
name_of_kind Parallel = codes "parallel links"
name_of_kind Traps = codes "traps"

abbrev pub name_of : Family → List ℕ
name_of (All kind) = name_of_kind kind
name_of Outages = codes "outages"
