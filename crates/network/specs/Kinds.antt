-- The numbers of the kinds of words.
use Rattle.std.specs.Prelude.{ℕ}
use Rattle.network.specs.declared.kind.Kind.{Kind}
use Rattle.network.specs.declared.kind.Kind.TheVariants.{Header, Ends, Limits}

abbrev pub number_of_kind : Kind → ℕ
number_of_kind Header = 1
number_of_kind Ends = 2
number_of_kind Limits = 3
