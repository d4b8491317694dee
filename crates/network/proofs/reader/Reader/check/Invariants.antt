use Rattle.std.proofs.Common.{◌≡◌, ◌-◌, ◌%◌, ◌≤◌, length}
use Rattle.network.specs.Reading.{words_of}
use Rattle.network.specs.Refusals.{CleanBelow}
use Rattle.network.proofs.reader.Reader.check.Given as goal

abbrev pub invariant-loop-self : goal.invariant-loop-self
invariant-loop-self l = record {
  same : words_of l.self ≡ words_of l.initial.self;
  odd : l.self.place % 2 ≡ 1;
  within : l.self.place ≤ length (words_of l.self);
  clean : CleanBelow (words_of l.initial.self) l.self.place;
}

abbrev pub decreases-loop-self : goal.decreases-loop-self
decreases-loop-self l = length (words_of l.self) - l.self.place
