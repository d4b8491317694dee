-- From words without fault to the links whose words they are.
use Rattle.std.proofs.Common.{◌≡◌, ℕ, zero, suc, ◌+◌, ◌*◌, ◌%◌, ◌≤◌, List, [], ◌∷◌, ◌++◌, length, get_or, take, sym, refl, ap, ◌∙◌, subst, append_assoc, arith, shr-shr}
use Rattle.std.specs.List.{AllByRecursion}
use Rattle.std.proofs.ByRecursion.{All-get_or, All-push}
use Rattle.std.proofs.lemmas.List.{take_all, take_more}
use Rattle.network.specs.declared.fault.Fault.TheVariants.{NoMemory}
use Rattle.network.specs.declared.link.Link.{Link}
use Rattle.network.specs.Format.{bits, kind, ends_word, limits_word, link_words, header_word, network_words, nodes_in, links_in}
use Rattle.network.specs.Limits.{Sound, SoundLink, blank}
use Rattle.network.specs.Reading.{GivesLink, GivesNodes}
use Rattle.network.specs.Refusals.{Refuses, CleanBelow}
use Rattle.network.proofs.Refused.{odd_place, even_place}
use Rattle.network.proofs.Words.{gives_link}

-- two words for each link
pub length-words : (xs : List Link) → length (link_words xs) ≡ 2 * length xs
length-words [] = refl
length-words (x ∷ xs) = let h = length-words xs in omega arith

-- the words of one link more at the end
words_push : (xs : List Link) (x : Link) → link_words (xs ++ x ∷ []) ≡ link_words xs ++ ends_word x ∷ limits_word x ∷ []
words_push [] x = refl
words_push (y ∷ ys) x = ap (λ l. ends_word y ∷ limits_word y ∷ l) (words_push ys x)

-- the words below a place are a first one and those of the links; with the next two words, those of one link more
pub front_more : (ws : List ℕ) (p h : ℕ) (xs : List Link) (x : Link) → p + 2 ≤ length ws → take p ws ≡ h ∷ link_words xs
    → get_or ws p 0 ≡ ends_word x → get_or ws (p + 1) 0 ≡ limits_word x → take (p + 2) ws ≡ h ∷ link_words (xs ++ x ∷ [])
front_more ws p h xs x room front ends limits =
    let one = take_more ws p 0 (omega arith) in
    let two = take_more ws (p + 1) 0 (omega arith) in
    let next : p + 1 + 1 ≡ p + 2 = omega arith in
    let grouped = append_assoc (take p ws) (ends_word x ∷ []) (limits_word x ∷ []) in
    let push = words_push xs x in
    cc

-- the words below place p are a first one and those of the links, which are sound among n nodes
pub record Collects (n : ℕ) (ws : List ℕ) (p : ℕ) (links : List Link) : Type 0 where
  pub front : take p ws ≡ get_or ws 0 0 ∷ link_words links
  pub sound : AllByRecursion (SoundLink n) links

-- none yet
pub collect_none : (n : ℕ) (ws : List ℕ) → 1 ≤ length ws → Collects n ws 1 []
collect_none n ws some = record { front = take_more ws 0 0 some; sound = tt }

-- one link more
pub collect_more : (n : ℕ) (ws : List ℕ) (p : ℕ) (xs : List Link) (x : Link) → p + 2 ≤ length ws → Collects n ws p xs → GivesLink n ws p x
    → Collects n ws (p + 2) (xs ++ x ∷ [])
collect_more n ws p xs x room so_far given = record {
  front = front_more ws p _ xs x room so_far.front given.ends given.limits;
  sound = All-push (SoundLink n) xs x so_far.sound given.sound;
}

-- a word of kind 1 is the header of what its fields give
header_fields : (w n m : ℕ) → kind w ≡ 1 → n ≡ bits w 27 16 → m ≡ bits w 15 0 → w ≡ header_word n m
header_fields w n m first nodes links = omega (arith, shr-shr w 16 12)

-- all links: they make a network, and the words are its
pub collect_all : (n : ℕ) (ws : List ℕ) (p : ℕ) (links : List Link) → GivesNodes ws n → length ws ≤ p → Collects n ws p links
    → Sound n links × (ws ≡ network_words n links)
collect_all n ws p links given past so_far =
    let header = given.header in
    let whole = sym (take_all p ws past) ∙ so_far.front in
    let count : length links ≡ links_in ws = omega (arith, ap length whole, length-words links) in
    let first = header_fields (get_or ws 0 0) n (length links) header.first given.nodes count in (
      record {
        nodes_above = omega arith;
        nodes_below = omega arith;
        links_above = omega arith;
        links_below = omega arith;
        each = λ e lt. All-get_or (SoundLink n) links e blank lt so_far.sound;
      },
      cc,
    )

-- the link that two words give by their fields
abbrev link_of : ℕ → ℕ → Link
link_of a b = record { tail = bits a 27 22; head = bits a 21 16; cost = bits a 15 0; capacity = bits b 27 12; ceiling = bits b 11 5 }

-- words without fault are those of m links
links_there : (ws : List ℕ) (m : ℕ) → 2 * m + 1 ≤ length ws → CleanBelow ws (length ws) → (links : List Link) × Collects (nodes_in ws) ws (2 * m + 1) links
links_there ws zero room clean = ([], collect_none _ ws room)
links_there ws (suc m) room clean =
    let n = nodes_in ws in
    let p = 2 * m + 1 in
    let odd : (2 * m + 1) % 2 ≡ 1 = omega arith in
    let so_far = links_there ws m (omega arith) clean in
    let x = link_of (get_or ws p 0) (get_or ws (p + 1) 0) in
    let ends = sym (odd_place n p (get_or ws p 0) odd) ∙ clean p (omega arith) (omega arith) in
    let limits = sym (even_place n p (get_or ws (p + 1) 0) odd) ∙ clean (p + 1) (omega arith) (omega arith) in
    let given = gives_link n ws p x (ends, refl, refl, refl) (limits, refl, refl) in
    let next : 2 * m + 1 + 2 ≡ 2 * suc m + 1 = omega arith in
    (so_far.0 ++ x ∷ [], subst (λ q. Collects n ws q (so_far.0 ++ x ∷ [])) next (collect_more n ws p so_far.0 x (omega arith) so_far.1 given))

-- and so of some network
pub network_there : (ws : List ℕ) (n : ℕ) → GivesNodes ws n → CleanBelow ws (length ws) → Refuses ws NoMemory
network_there ws n given clean =
    let there = links_there ws (links_in ws) (omega arith) clean in
    let good : GivesNodes ws (nodes_in ws) = record { header = given.header; long = given.long; nodes = refl } in
    let whole = collect_all _ ws _ there.0 good (omega arith) there.1 in
    (nodes_in ws, there.0, whole.0, whole.1)
