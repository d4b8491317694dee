-- Words that are written two at a time.
use Rattle.std.proofs.Common.{◌≡◌, ℕ, ◌+◌, ◌*◌, ◌<◌, ◌≤◌, List, ◌∷◌, ◌++◌, length, get_or, take, drop, set, sym, ap, ◌∙◌, arith}
use Rattle.std.proofs.lemmas.List.{drop-set-lt, get_or-set_other, get_or-set_same, length-set, take-append-drop, take-set-le, take_all, take_more}
use Rattle.network.specs.declared.link.Link.{Link}
use Rattle.network.specs.Format.{ends_word, limits_word, link_words, header_word, network_words}
use Rattle.network.specs.Limits.{blank}
use Rattle.network.proofs.Collected.{front_more}

-- The words are a first one and those of the first e links, and then those that were there before.
pub record Puts (links : List Link) (before words : List ℕ) (e : ℕ) : Type 0 where
  pub front : take (2 * e + 1) words ≡ get_or before 0 0 ∷ link_words (take e links)
  pub behind : (k : ℕ) → 2 * e + 1 ≤ k → drop k words ≡ drop k before

-- one link more
pub put_more : (links : List Link) (before words : List ℕ) (e a b : ℕ) → e < length links → 2 * e + 3 ≤ length words
    → a ≡ ends_word (get_or links e blank) → b ≡ limits_word (get_or links e blank)
    → Puts links before words e → Puts links before (set (set words (2 * e + 1) a) (2 * e + 2) b) (e + 1)
put_more links before words e a b lt room ends limits so_far =
    let p = 2 * e + 1 in
    let after = set (set words (2 * e + 1) a) (2 * e + 2) b in
    let long : length after ≡ length words = length-set (set words p a) (2 * e + 2) b ∙ length-set words p a in
    let front : take p after ≡ take p words = take-set-le p (set words p a) (2 * e + 2) b (omega arith) ∙ take-set-le p words p a (omega arith) in
    let first : get_or after p 0 ≡ a =
    get_or-set_other (set words p a) (2 * e + 2) p b 0 (λ same. omega arith) ∙ get_or-set_same words p a 0 (omega arith) in
    let next : 2 * e + 2 ≡ p + 1 = omega arith in
    let room_left : 2 * e + 2 < length (set words p a) = omega (arith, length-set words p a) in
    let second : get_or after (p + 1) 0 ≡ b = ap (λ k. get_or after k 0) (sym next) ∙ get_or-set_same (set words p a) (2 * e + 2) b 0 room_left in
    let more = front_more after p _ (take e links) (get_or links e blank) (omega arith) (front ∙ so_far.front) (first ∙ ends) (second ∙ limits) in
    let taken = take_more links e blank lt in
    let place : p + 2 ≡ 2 * (e + 1) + 1 = omega arith in
    record {
      front = cc;
      behind = λ k far. drop-set-lt k (set words p a) (2 * e + 2) b (omega arith) ∙ (drop-set-lt k words p a (omega arith) ∙ so_far.behind k (omega arith));
    }

-- all links
pub put_all : (n w : ℕ) (links : List Link) (before words : List ℕ) (e : ℕ) → e ≡ length links → w ≡ header_word n (length links) → 0 < length before
    → Puts links (set before 0 w) words e → words ≡ network_words n links ++ drop (1 + 2 * length links) before
put_all n w links before words e all is some done =
    let whole = take_all e links (omega arith) in
    let first = get_or-set_same before 0 w 0 some in
    let front = done.front in
    let behind = done.behind (2 * e + 1) (omega arith) ∙ drop-set-lt (2 * e + 1) before 0 w (omega arith) in
    let parts = take-append-drop (2 * e + 1) words in
    let place : 2 * e + 1 ≡ 1 + 2 * length links = omega arith in
    cc
