-- The decimal of a number is one, and the only one.
use Rattle.std.proofs.Common.{◌≡◌, ℕ, zero, suc, ◌^◌, ◌<◌, List, length, get_or, decimal, sym, refl, ap, ◌∙◌, arith, rules}
use Rattle.std.proofs.lemmas.Fmt.{decimal_digit, decimal_nonempty, decimal-digits_value, digits_decimal, digits_value-decimal, first_decimal}
use Rattle.std.proofs.lemmas.Str.Parse.{IsNumeralModel, numerals_by_fold, tells_by_index}
use Rattle.line.specs.Decimals.{Digit, read_on, value, IsDecimal, TheDecimal}

-- digits at each place, read from left to right
numerals : IsNumeralModel (λ bytes. (i : ℕ) → i < length bytes → Digit (get_or bytes i 0)) value
numerals = numerals_by_fold _ tells_by_index read_on (search rules)

-- a zero stands first only in the decimal of 0
zero_first : (n : ℕ) → n < 2 ^ 64 → get_or (decimal n) 0 0 ≡ 48 → (n ≡ 0) × (length (decimal n) ≡ 1)
zero_first zero f e = (refl, ap length (decimal_digit 0 (omega arith)))
zero_first (suc n) f e = absurd (omega (arith, e, first_decimal (suc n) (omega arith) f))

-- the library's decimal is one
pub is_decimal : (n : ℕ) → n < 2 ^ 64 → IsDecimal n (decimal n)
is_decimal n f =
    record {
      digits = digits_decimal numerals n f;
      some = decimal_nonempty n f;
      reads = digits_value-decimal numerals n f;
      leads = zero_first n f;
    }

-- and every decimal of n is the library's
pub same_decimal : (n : ℕ) (bytes : List ℕ) → n < 2 ^ 64 → IsDecimal n bytes → bytes ≡ decimal n
same_decimal n bytes f d =
    let alone : get_or bytes 0 0 ≡ 48 → length bytes ≡ 1 = λ e. (d.leads e).1 in
    sym (decimal-digits_value numerals bytes d.digits d.some alone (omega (arith, d.reads))) ∙ ap decimal d.reads

pub the_decimal : (n : ℕ) → n < 2 ^ 64 → TheDecimal n (decimal n)
the_decimal n f = record { is = is_decimal n f; only = λ bytes d. same_decimal n bytes f d }
