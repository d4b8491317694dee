use Rattle.std.proofs.Common.{◌≡◌, ℕ, ◌+◌, ◌*◌, ◌<◌, ◌≤◌, ◌++◌, length, drop, arith}
use Rattle.std.proofs.lemmas.List.{length-set}
use Rattle.network.specs.Format.{header_word, network_words}
use Rattle.network.specs.Networks.{link_list, node_count}
use Rattle.network.proofs.Put.{put_more, put_all}
use Rattle.network.proofs.Lawful.{written_back}
use Rattle.network.proofs.network.Network.write.Goals as goal

pub loop-e-preserved : goal.loop-e-preserved
loop-e-preserved c =
    let room : 2 * c.loop-e.e + 3 ≤ length c.loop-e.words = omega (arith, c.loop-e.auto.words, length-set {A = ℕ}) in
    put_more _ _ _ _ _ _ c.loop-e-test.true room c.ends_word.ensures c.limits_word.ensures c.loop-e.invariant

pub returns : goal.returns
returns c =
    let net = c.args.self.now in
    let same = c.links-links.ensures.value in
    let all : c.loop-e.e ≡ length c.links-links.result.now = omega arith in
    let some : 0 < length c.args.words.now = omega arith in
    let header : c.header_word.result ≡ header_word c.args.self.now.nodes (length c.links-links.result.now) = cc in
    let put = put_all _ _ _ _ _ _ all header some c.loop-e.invariant in
    let count : 1 + 2 * length c.links-links.result.now ≡ 1 + 2 * length (link_list net) = cc in
    let words : c.loop-e.words ≡ network_words (node_count net) (link_list net) ++ drop (1 + 2 * length c.links-links.result.now) c.args.words.now = cc in
    record { answer = (count, words); back = written_back (node_count net) (link_list net) _ _ _ net.sound (count, words) }
