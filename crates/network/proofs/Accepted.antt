-- The words of a network: their header is good, none has a fault, and no other network has them.
use Rattle.std.proofs.Common.{◌≡◌, ℕ, zero, suc, ◌+◌, ◌-◌, ◌*◌, ◌/◌, ◌%◌, ◌<◌, ◌≤◌, List, [], ◌∷◌, length, get_or, None, sym, refl, ap, ◌∙◌, subst, inl, inr, arith}
use Rattle.std.proofs.lemmas.Bool.{cases_eq}
use Rattle.network.specs.declared.link.Link.{Link}
use Rattle.network.specs.Format.{bits, ends_word, limits_word, link_words, header_word, network_words}
use Rattle.network.specs.Limits.{Sound, SoundLink, blank}
use Rattle.network.specs.Reading.{GivesNodes}
use Rattle.network.specs.Refusals.{CleanBelow, word_fault, ends_fault, limits_fault}
use Rattle.network.proofs.Collected.{length-words}
use Rattle.network.proofs.Refused.{odd_place, even_place}
use Rattle.network.proofs.Words.{ends_clean, limits_clean}

-- the header of a network's words is good, and gives its nodes
pub gives_nodes : (n : ℕ) (links : List Link) → Sound n links → GivesNodes (network_words n links) n
gives_nodes n links sound =
    let many = length-words links in
    record {
      header = record {
        first = omega arith;
        nodes_above = omega arith;
        nodes_below = omega arith;
        links_above = omega arith;
        links_below = omega arith;
      };
      long = omega arith;
      nodes = omega arith;
    }

-- each of the links is one of a network of n nodes
abbrev pub AllSound : ℕ → List Link → Type 0
AllSound n links = (e : ℕ) → e < length links → SoundLink n (get_or links e blank)

-- the two words of the link e
at_link : (xs : List Link) (e : ℕ) → e < length xs
    → (get_or (link_words xs) (2 * e) 0 ≡ ends_word (get_or xs e blank)) × (get_or (link_words xs) (2 * e + 1) 0 ≡ limits_word (get_or xs e blank))
at_link [] e lt = absurd (omega arith)
at_link (x ∷ xs) zero lt = (refl, refl)
at_link (x ∷ xs) (suc e) lt =
    let later = at_link xs e (omega arith) in
    let k : 2 * suc e ≡ suc (suc (2 * e)) = omega arith in
    let l : 2 * suc e + 1 ≡ suc (suc (2 * e + 1)) = omega arith in
    (ap (λ i. get_or (link_words (x ∷ xs)) i 0) k ∙ later.0, ap (λ i. get_or (link_words (x ∷ xs)) i 0) l ∙ later.1)

-- the words of a sound link have no fault
ends_sound : (n p : ℕ) (x : Link) → n ≤ 32 → SoundLink n x → ends_fault n p (ends_word x) ≡ None
ends_sound n p x small sound =
    let tail : bits (ends_word x) 27 22 ≡ x.tail = omega arith in
    let head : bits (ends_word x) 21 16 ≡ x.head = omega arith in
    ends_clean n p (ends_word x) record {
      second = omega arith;
      tail = omega arith;
      head = omega arith;
      apart = λ same. sound.apart (sym tail ∙ (same ∙ head));
      cost = omega arith;
    }

limits_sound : (n p : ℕ) (x : Link) → SoundLink n x → limits_fault p (limits_word x) ≡ None
limits_sound n p x sound = limits_clean p (limits_word x) record {
  third = omega arith;
  capacity = omega arith;
  ceiling = omega arith;
  zero = omega arith;
}

-- after any first word, the two words of the link e have no fault
link_clean : (n h : ℕ) (xs : List Link) (e : ℕ) → n ≤ 32 → AllSound n xs → e < length xs
    → (word_fault n (suc (2 * e)) (get_or (h ∷ link_words xs) (suc (2 * e)) 0) ≡ None)
    × (word_fault n (suc (2 * e) + 1) (get_or (h ∷ link_words xs) (suc (2 * e) + 1) 0) ≡ None)
link_clean n h xs e small all lt =
    let p = suc (2 * e) in
    let odd : suc (2 * e) % 2 ≡ 1 = omega arith in
    let next : suc (2 * e) + 1 ≡ suc (2 * e + 1) = omega arith in
    let second = ap (λ i. get_or (h ∷ link_words xs) i 0) next ∙ (at_link xs e lt).1 in (
      odd_place n p _ odd ∙ (ap (λ w. ends_fault n p w) (at_link xs e lt).0 ∙ ends_sound n p (get_or xs e blank) small (all e lt)),
      even_place n p _ odd ∙ (ap (λ w. limits_fault (p + 1) w) second ∙ limits_sound n (p + 1) (get_or xs e blank) (all e lt)),
    )

-- no link word of a network's words has a fault
pub network_clean : (n : ℕ) (links : List Link) → Sound n links → CleanBelow (network_words n links) (length (network_words n links))
network_clean n links sound p lt from =
    let many = length-words links in
    let both = link_clean n (header_word n (length links)) links ((p - 1) / 2) sound.nodes_below sound.each (omega arith) in
    let place : ℕ → Type 0 = λ i. word_fault n i (get_or (network_words n links) i 0) ≡ None in
    let clean : word_fault n p (get_or (network_words n links) p 0) ≡ None = elim (cases_eq (p % 2) 1) [
      | inl odd ↦ let here : suc (2 * ((p - 1) / 2)) ≡ p = omega arith in subst place here both.0
      | inr even ↦ let here : suc (2 * ((p - 1) / 2)) + 1 ≡ p = omega arith in subst place here both.1
    ] in
    subst (λ m. word_fault m p (get_or (network_words n links) p 0) ≡ None) (gives_nodes n links sound).nodes clean

-- links with the same words are the same
abbrev by_fields : Link → Link
by_fields x = record { tail = x.tail; head = x.head; cost = x.cost; capacity = x.capacity; ceiling = x.ceiling }

same_link : (m n : ℕ) (x y : Link) → m ≤ 32 → n ≤ 32 → SoundLink m x → SoundLink n y
    → ends_word x ≡ ends_word y → limits_word x ≡ limits_word y → x ≡ y
same_link m n x y small little a b ends limits =
    let tail : x.tail ≡ y.tail = omega arith in
    let head : x.head ≡ y.head = omega arith in
    let cost : x.cost ≡ y.cost = omega arith in
    let capacity : x.capacity ≡ y.capacity = omega arith in
    let ceiling : x.ceiling ≡ y.ceiling = omega arith in
    let fields : by_fields x ≡ by_fields y = cc in
    fields

pub same_links : (m n : ℕ) (xs ys : List Link) → m ≤ 32 → n ≤ 32 → AllSound m xs → AllSound n ys → link_words xs ≡ link_words ys → xs ≡ ys
same_links m n [] [] small little a b words = refl
same_links m n [] (y ∷ ys) small little a b words = cc
same_links m n (x ∷ xs) [] small little a b words = cc
same_links m n (x ∷ xs) (y ∷ ys) small little a b words =
    let ends : ends_word x ≡ ends_word y = cc in
    let limits : limits_word x ≡ limits_word y = cc in
    let later : link_words xs ≡ link_words ys = cc in
    let here = same_link m n x y small little (a 0 (omega arith)) (b 0 (omega arith)) ends limits in
    let rest = same_links m n xs ys small little (λ e lt. a (suc e) (omega arith)) (λ e lt. b (suc e) (omega arith)) later in
    cc
