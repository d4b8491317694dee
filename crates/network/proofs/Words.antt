-- The two words of a link: what a word without fault says, and that a link's words have none.
use Rattle.std.proofs.Common.{◌≡◌, ℕ, ◌+◌, ◌<◌, ◌≤◌, List, get_or, None, arith, shr-shr}
use Rattle.std.proofs.lemmas.Bool.Decides.{nat_tests}
use Rattle.network.specs.declared.link.Link.{Link}
use Rattle.network.specs.Format.{bits, kind}
use Rattle.network.specs.Refusals.{ends_fault, limits_fault}
use Rattle.network.specs.Reading.{GivesEnds, GivesLimits, GivesLink}

-- a word of ends without fault
pub record CleanEnds (n w : ℕ) : Type 0 where
  pub second : kind w ≡ 2
  pub tail : bits w 27 22 < n
  pub head : bits w 21 16 < n
  pub apart : bits w 27 22 ≡ bits w 21 16 → ⊥
  pub cost : 1 ≤ bits w 15 0

clean_ends : (n p w : ℕ) → ends_fault n p w ≡ None → CleanEnds n w
clean_ends n p w e = record {
  second = grind (arith, nat_tests);
  tail = grind (arith, nat_tests);
  head = grind (arith, nat_tests);
  apart = λ same. grind (arith, nat_tests);
  cost = grind (arith, nat_tests);
}

-- a word of limits without fault
pub record CleanLimits (w : ℕ) : Type 0 where
  pub third : kind w ≡ 3
  pub capacity : 1 ≤ bits w 27 12
  pub ceiling : bits w 11 5 ≤ 64
  pub zero : bits w 4 0 ≡ 0

clean_limits : (p w : ℕ) → limits_fault p w ≡ None → CleanLimits w
clean_limits p w e = record {
  third = grind (arith, nat_tests);
  capacity = grind (arith, nat_tests);
  ceiling = grind (arith, nat_tests);
  zero = grind (arith, nat_tests);
}

pub ends_clean : (n p w : ℕ) → CleanEnds n w → ends_fault n p w ≡ None
ends_clean n p w h = grind (arith, nat_tests)

pub limits_clean : (p w : ℕ) → CleanLimits w → limits_fault p w ≡ None
limits_clean p w h = grind (arith, nat_tests)

-- the fields of two words without fault are a link whose words they are
pub gives_link : (n : ℕ) (ws : List ℕ) (p : ℕ) (x : Link) → GivesEnds n p (get_or ws p 0) (x.tail, x.head, x.cost)
    → GivesLimits (p + 1) (get_or ws (p + 1) 0) (x.capacity, x.ceiling) → GivesLink n ws p x
gives_link n ws p x ends limits =
    let a = clean_ends n p (get_or ws p 0) ends.0 in
    let b = clean_limits (p + 1) (get_or ws (p + 1) 0) limits.0 in
    record {
      clean = cc;
      sound = record {
        tail = omega arith;
        head = omega arith;
        apart = λ same. a.apart (omega arith);
        cost_above = omega arith;
        cost_below = omega arith;
        capacity_above = omega arith;
        capacity_below = omega arith;
        ceiling = omega arith;
      };
      ends = omega arith;
      limits = omega (arith, shr-shr (get_or ws (p + 1) 0) 5 7, shr-shr (get_or ws (p + 1) 0) 12 16);
    }
