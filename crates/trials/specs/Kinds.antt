-- What the networks of each kind are like.
use Rattle.std.specs.Prelude.{ℕ, ◌≤◌, List, length}
use Rattle.network.specs.declared.link.Link.{Link}
use Rattle.trials.specs.declared.draft.Kind.{Kind}
use Rattle.trials.specs.declared.draft.Kind.TheVariants.{Scattered, Ties, Parallel, Traps}
use Rattle.trials.specs.Drafts.{CostsWithin}
use Rattle.trials.specs.Traps.{Misleads}

-- the nodes and links of a network are of a kind
abbrev pub OfKind : Kind → ℕ → List Link → Type 0
OfKind Scattered n links = (n ≤ 6) × CostsWithin 1 1000 links
OfKind Ties n links = (n ≤ 6) × CostsWithin 1 3 links
OfKind Parallel n links = (n ≤ 3) × (6 ≤ length links)
OfKind Traps n links = (n ≤ 6) × Misleads links
