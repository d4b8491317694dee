use Rattle.std.proofs.Common.{◌≡◌, ◌+◌, ap, ◌∙◌, arith}
use Rattle.network.specs.declared.reader.Reader.{Reader}
use Rattle.network.specs.Reading.{past}
use Rattle.network.proofs.Words.{gives_link}
use Rattle.network.proofs.reader.Reader.link.Goals as goal

past_two : (r : Reader) → past (past r 1) 1 ≡ past r 2
past_two r = let two : r.place + 1 + 1 ≡ r.place + 2 = omega arith in ap (λ k. record r { place = k }) two

pub returns : goal.returns
returns c =
    let first = c.word.ensures in
    let second = c.word-2.ensures in
    let ends = rw first.value at c.in_ok-tail.ensures in
    let limits = rw (second.value, first.next) at c.in_ok-capacity.ensures in
    (gives_link _ _ _ _ ends limits, second.next ∙ (ap (λ r. past r 1) first.next ∙ past_two _))
