-- The laws of the format.
use Rattle.std.proofs.Common.{◌≡◌, ℕ, ◌+◌, ◌*◌, ◌<◌, List, [], length, get_or, take, drop, Ok, sym, refl, ap, ◌∙◌, subst, inl, inr, arith}
use Rattle.std.proofs.lemmas.List.{take_at, drop_at, length-append}
use Rattle.std.proofs.lemmas.Bool.{cases_order}
use Rattle.network.specs.declared.fault.Fault.{Fault}
use Rattle.network.specs.declared.fault.Fault.TheVariants.{NoWord, Header, Length, Kind, Ends, Cost, Limits, NoMemory}
use Rattle.network.specs.declared.link.Link.{Link}
use Rattle.network.specs.Format.{bits, header_word, link_words, network_words, links_in, extent_of}
use Rattle.network.specs.Laws.{Accepts, Numbered, OneFault, OneAnswer, OneNetwork, OneList, ReadsAs, ReadsBack, RefusedFor, Cuts}
use Rattle.network.specs.Limits.{Sound}
use Rattle.network.specs.Reading.{GivesNodes}
use Rattle.network.specs.Writing.{Written}
use Rattle.network.specs.Refusals.{GoodHeader, FirstFault, Refuses, CleanBelow, fault_at}
use Rattle.network.proofs.Accepted.{gives_nodes, network_clean, same_links}
use Rattle.network.proofs.Collected.{length-words}

-- the four steps at which words are refused
data Step (ws : List ℕ) (f : Fault) : Type 0 where
  no_word : ws ≡ [] → f ≡ NoWord → Step ws f
  bad_header : 0 < length ws → (GoodHeader (get_or ws 0 0) → ⊥) → f ≡ Header → Step ws f
  bad_length : 0 < length ws → GoodHeader (get_or ws 0 0) → (length ws ≡ 1 + 2 * links_in ws → ⊥) → f ≡ Length (length ws) → Step ws f
  bad_word : (p : ℕ) → FirstFault ws p f → Step ws f

step : (ws : List ℕ) (f : Fault) → Numbered f → Refuses ws f → Step ws f
step ws NoWord numbered r = no_word r refl
step ws Header numbered r = bad_header r.0 r.1 refl
step ws (Length words) numbered r = bad_length r.0 r.1 r.2 (ap (λ k. Length k) r.3)
step ws (Kind place) numbered r = bad_word place r
step ws (Ends place) numbered r = bad_word place r
step ws (Cost place) numbered r = bad_word place r
step ws (Limits place) numbered r = bad_word place r
step ws NoMemory numbered r = absurd (numbered refl)

same_first : (ws : List ℕ) (p q : ℕ) (f g : Fault) → FirstFault ws p f → FirstFault ws q g → f ≡ g
same_first ws p q f g a b =
    elim (cases_order p q) [
      | inl same ↦ let here = a.here in let there = b.here in let at = ap (λ k. fault_at ws k) same in cc
      | inr other ↦ elim other [
        | inl below ↦ let none = b.before p below a.from in let some = a.here in cc
        | inr above ↦ let none = a.before q above b.from in let some = b.here in cc
      ]
    ]

-- no words, and some
filled : {ws : List ℕ} → ws ≡ [] → 0 < length ws → ⊥
filled none some = omega (arith, ap length none)

same_step : (ws : List ℕ) (f g : Fault) → Step ws f → Step ws g → f ≡ g
same_step ws f g (no_word a e) (no_word b d) = cc
same_step ws f g (no_word a e) (bad_header b bad d) = absurd (filled a b)
same_step ws f g (no_word a e) (bad_length b good wrong d) = absurd (filled a b)
same_step ws f g (no_word a e) (bad_word q h) = absurd (filled a (omega (arith, h.within)))
same_step ws f g (bad_header b bad e) (no_word a d) = absurd (filled a b)
same_step ws f g (bad_header b bad e) (bad_header a worse d) = cc
same_step ws f g (bad_header b bad e) (bad_length a good wrong d) = absurd (bad good)
same_step ws f g (bad_header b bad e) (bad_word q h) = absurd (bad h.header)
same_step ws f g (bad_length b good wrong e) (no_word a d) = absurd (filled a b)
same_step ws f g (bad_length b good wrong e) (bad_header a bad d) = absurd (bad good)
same_step ws f g (bad_length b good wrong e) (bad_length a fine long d) = cc
same_step ws f g (bad_length b good wrong e) (bad_word q h) = absurd (wrong h.long)
same_step ws f g (bad_word p h) (no_word a d) = absurd (filled a (omega (arith, h.within)))
same_step ws f g (bad_word p h) (bad_header a bad d) = absurd (bad h.header)
same_step ws f g (bad_word p h) (bad_length a good wrong d) = absurd (wrong h.long)
same_step ws f g (bad_word p h) (bad_word q k) = same_first ws p q f g h k

pub one_fault : OneFault
one_fault ws f g named titled a b = same_step ws f g (step ws f named a) (step ws g titled b)

-- words with a good header, of the right length, without fault, are at none of the four steps
no_step : (ws : List ℕ) (n : ℕ) (f : Fault) → GivesNodes ws n → CleanBelow ws (length ws) → Step ws f → ⊥
no_step ws n f given clean (no_word a e) = filled a (omega (arith, given.long))
no_step ws n f given clean (bad_header a bad e) = bad given.header
no_step ws n f given clean (bad_length a good wrong e) = wrong given.long
no_step ws n f given clean (bad_word p h) = let none = clean p h.within h.from in let some = h.here in cc

pub one_answer : OneAnswer
one_answer ws n links f accepted refused numbered =
    let same = sym accepted.words in
    let given = subst (λ vs. GivesNodes vs n) same (gives_nodes n links accepted.sound) in
    let clean = subst (λ vs. CleanBelow vs (length vs)) same (network_clean n links accepted.sound) in
    no_step ws n f given clean (step ws f numbered refused)

pub one_network : OneNetwork
one_network ws m n links others a b =
    let same = sym a.words ∙ b.words in
    let header : header_word m (length links) ≡ header_word n (length others) = cc in
    let words : link_words links ≡ link_words others = cc in
    let sa = a.sound in
    let sb = b.sound in
    (omega arith, same_links m n links others sa.nodes_below sb.nodes_below sa.each sb.each words)

pub one_list : OneList
one_list vs ws n links a b = a.words ∙ sym b.words

pub reads_as : (ws : List ℕ) (n : ℕ) (links : List Link) → Accepts ws n links → ReadsAs ws n links
reads_as ws n links a = record {
  accepted = a;
  only = λ m others b. one_network ws m n others links b a;
  kept = λ f refused numbered. one_answer ws n links f a refused numbered;
}

pub reads_back : ReadsBack
reads_back n links sound = reads_as (network_words n links) n links record { sound = sound; words = refl }

pub refused_for : (ws : List ℕ) (f : Fault) → Refuses ws f → RefusedFor ws f
refused_for ws f refused = record {
  refused = refused;
  only = λ numbered g other named. one_fault ws g f named numbered other refused;
  kept = λ numbered n links accepted. one_answer ws n links f accepted refused numbered;
}

pub cuts : Cuts
cuts ws n links later sound same =
    let first : get_or ws 0 0 ≡ header_word n (length links) = ap (λ vs. get_or vs 0 0) same in
    let count : links_in ws ≡ length links = ap (λ w. bits w 15 0) first ∙ omega arith in
    let all = ap length same ∙ length-append (network_words n links) later in
    let here : length (network_words n links) ≡ extent_of ws = omega (arith, length-words links) in (
      ap (λ vs. take (extent_of ws) vs) same ∙ take_at (network_words n links) later (extent_of ws) here,
      ap (λ vs. drop (extent_of ws) vs) same ∙ drop_at (network_words n links) later (extent_of ws) here,
    )

-- the words that were written read as the network
pub written_back : (n : ℕ) (links : List Link) (before after : List ℕ) (count : ℕ) → Sound n links
    → Written n links before (Ok count) after → ReadsAs (take count after) n links
written_back n links before after count sound (is, same) =
    let here : length (network_words n links) ≡ count = omega (arith, length-words links) in
    let front = ap (λ ws. take count ws) same ∙ take_at (network_words n links) (drop count before) count here in
    reads_as (take count after) n links record { sound = sound; words = front }
