-- From a fault of a link to a refusal of the words.
use Rattle.std.proofs.Common.{◌≡◌, ℕ, ◌+◌, ◌%◌, ◌<◌, ◌⊎◌, List, length, get_or, Some, None, Option, refl, ap, ◌∙◌, inl, inr, arith, below_more, eq-eqb}
use Rattle.std.proofs.lemmas.Bool.Decides.{nat_tests}
use Rattle.std.specs.Option.{option_or}
use Rattle.network.specs.declared.fault.Fault.{Fault}
use Rattle.network.specs.declared.fault.Fault.TheVariants.{NoWord, Header, Length, Kind, Ends, Cost, Limits, NoMemory}
use Rattle.network.specs.Format.{nodes_in}
use Rattle.network.specs.Refusals.{FirstFault, Refuses, CleanBelow, word_fault, ends_fault, limits_fault}
use Rattle.network.specs.Reading.{GivesNodes, link_fault}

-- the fault of a word is of the kind, the ends, the cost or the limits, at its place
refused_first : (ws : List ℕ) (p : ℕ) (f : Fault) → FirstFault ws p f → Refuses ws f
refused_first ws p NoWord h = absurd (let e = h.here in grind (arith, nat_tests))
refused_first ws p Header h = absurd (let e = h.here in grind (arith, nat_tests))
refused_first ws p (Length words) h = absurd (let e = h.here in grind (arith, nat_tests))
refused_first ws p (Kind place) h =
    let e = h.here in
    let same : p ≡ place = grind (arith, nat_tests) in
    rw same at h
refused_first ws p (Ends place) h =
    let e = h.here in
    let same : p ≡ place = grind (arith, nat_tests) in
    rw same at h
refused_first ws p (Cost place) h =
    let e = h.here in
    let same : p ≡ place = grind (arith, nat_tests) in
    rw same at h
refused_first ws p (Limits place) h =
    let e = h.here in
    let same : p ≡ place = grind (arith, nat_tests) in
    rw same at h
refused_first ws p NoMemory h = absurd (let e = h.here in grind (arith, nat_tests))

-- a link word at an odd place gives the ends
pub odd_place : (n p w : ℕ) → p % 2 ≡ 1 → word_fault n p w ≡ ends_fault n p w
odd_place n p w odd = rw (eq-eqb (p % 2) 1 odd) refl

-- and the one after it the limits
pub even_place : (n p w : ℕ) → p % 2 ≡ 1 → word_fault n (p + 1) w ≡ limits_fault (p + 1) w
even_place n p w odd = grind (arith, nat_tests)

-- two more link words without fault
pub clean_more : (ws : List ℕ) (n p : ℕ) → GivesNodes ws n → p % 2 ≡ 1 → CleanBelow ws p
    → link_fault n ws p ≡ None → CleanBelow ws (p + 2)
clean_more ws n p given odd below clean =
    let e : link_fault (nodes_in ws) ws p ≡ None = rw (← given.nodes) clean in
    let first : ends_fault (nodes_in ws) p (get_or ws p 0) ≡ None = grind arith in
    let second : limits_fault (p + 1) (get_or ws (p + 1) 0) ≡ None = grind arith in
    let one = below_more _ p below (λ _. odd_place (nodes_in ws) p (get_or ws p 0) odd ∙ first) in
    let two = below_more _ (p + 1) one (λ _. even_place (nodes_in ws) p (get_or ws (p + 1) 0) odd ∙ second) in
    λ k lt. two k (omega arith)

-- the first of two faults is that of the first word, or of the second where the first has none
first_of : (o later : Option Fault) (f : Fault) → option_or o later ≡ Some f → (o ≡ Some f) ⊎ ((o ≡ None) × (later ≡ Some f))
first_of (Some g) later f e = inl e
first_of None later f e = inr (refl, e)

-- the words are refused with the fault of the first link that has one
pub refused_link : (ws vs : List ℕ) (n p : ℕ) (f : Fault) → GivesNodes ws n → p % 2 ≡ 1 → vs ≡ ws → CleanBelow ws p → p < length vs
    → link_fault n vs p ≡ Some f → Refuses ws f
refused_link ws vs n p f given odd same below within e =
    let at_first = odd_place (nodes_in ws) p (get_or ws p 0) odd in
    let at_second = even_place (nodes_in ws) p (get_or ws (p + 1) 0) odd in
    let here : link_fault (nodes_in ws) ws p ≡ Some f = rw (← given.nodes, ← same) e in
    let long = ap length same in
    elim (first_of _ _ f here) [
      | inl h ↦ refused_first ws p f record {
        header = given.header;
        long = given.long;
        from = omega arith;
        within = omega arith;
        here = at_first ∙ h;
        before = below;
      }
      | inr h ↦ refused_first ws (p + 1) f record {
        header = given.header;
        long = given.long;
        from = omega arith;
        within = omega arith;
        here = at_second ∙ h.1;
        before = below_more _ p below (λ _. at_first ∙ h.0);
      }
    ]
