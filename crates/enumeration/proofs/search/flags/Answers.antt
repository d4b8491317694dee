use Rattle.enumeration.proofs.Marks.{copied}
use Rattle.enumeration.proofs.search.flags.Goals as goal

pub returns : goal.returns
returns c = λ e l. copied c.args.usable.now c.copy_from_slice.new.self c.min-known.result c.min-known.ensures c.copy_from_slice.ensures.after e l
