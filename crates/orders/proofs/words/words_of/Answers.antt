use Rattle.std.proofs.Common.{◌≡◌, IfOk, map, w32, rules, ap, ◌∙◌}
use Rattle.std.proofs.lemmas.Result.{IfOk-weaker}
use Rattle.std.specs.Int.{from_be_bytes}
use Rattle.orders.specs.Words.{IsWords}
use Rattle.orders.proofs.Bytes.{are_words}
use Rattle.orders.proofs.words.words_of.Goals as goal

pub returns : goal.returns
returns c =
    let made : IfOk c.collect.result (λ v. v.items ≡ map (λ b. from_be_bytes w32 b) c.as_chunks.result.0.now) = search rules in
    IfOk-weaker c.collect.result _ (λ v. IsWords c.args.bytes.now v.items)
    (λ v e. are_words c.args.bytes.now v.items (e ∙ ap (λ bs. map (λ b. from_be_bytes w32 b) bs) c.as_chunks.ensures.front)) made
