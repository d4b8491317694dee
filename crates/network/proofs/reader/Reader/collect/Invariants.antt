use Rattle.std.proofs.Common.{◌≡◌, ◌-◌, ◌%◌, ◌≤◌, length, vec_items}
use Rattle.network.specs.Reading.{words_of}
use Rattle.network.proofs.Collected.{Collects}
use Rattle.network.proofs.reader.Reader.collect.Given as goal

abbrev pub invariant-loop-self : goal.invariant-loop-self
invariant-loop-self l = record {
  same : words_of l.self ≡ words_of l.initial.self;
  odd : l.self.place % 2 ≡ 1;
  within : l.self.place ≤ length (words_of l.self);
  collected : Collects l.nodes (words_of l.initial.self) l.self.place (vec_items l.links);
}

abbrev pub decreases-loop-self : goal.decreases-loop-self
decreases-loop-self l = length (words_of l.self) - l.self.place
