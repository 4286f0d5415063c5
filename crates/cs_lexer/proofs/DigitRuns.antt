-- Digits of a base as std parses them: for `value` and `leading_value`.
use Rattle.std.proofs.Common.{◌≡◌, ℕ, ◌<◌, ◌^◌, zero, suc, true, false, List, [], ◌∷◌, length, get_or, nat_lt, cond, Result, Err, Some}
use Rattle.std.proofs.Common.{None, refl, arith}
use Rattle.std.specs.Prelude.{◌==◌}
use Rattle.std.specs.List.{list_all}
use Rattle.std.specs.Char.{digit_value}
use Rattle.std.specs.Str.{IsUtf8}
use Rattle.std.specs.Str.Parse.{AllDigits, digits_value, ParsesUnsigned, without_leading_plus}
use Rattle.std.proofs.lemmas.Str.{IsUtf8-from_ascii}
use Rattle.std.proofs.lemmas.Bool.{and_parts}
use Rattle.std.proofs.lemmas.Bool.Decides.{nat_tests}
use Rattle.cs_lexer.specs.declared.digits.Base.{Base}
use Rattle.cs_lexer.specs.declared.digits.Base.TheVariants.{Octal, Decimal, Hexadecimal}
use Rattle.cs_lexer.specs.Digits.{radix, is_digit_of, value_of}

digit_fits : (base : Base) (d : ℕ) → is_digit_of base d ≡ true → digit_value d < radix base
digit_fits Octal d h = grind (arith, nat_tests)
digit_fits Decimal d h = grind (arith, nat_tests)
digit_fits Hexadecimal d h = grind (arith, nat_tests)

digit_is_ascii : (base : Base) (d : ℕ) → is_digit_of base d ≡ true → d < 128
digit_is_ascii Octal d h = grind (arith, nat_tests)
digit_is_ascii Decimal d h = grind (arith, nat_tests)
digit_is_ascii Hexadecimal d h = grind (arith, nat_tests)

digit_is_no_plus : (base : Base) (d : ℕ) → is_digit_of base d ≡ true → (d == 43) ≡ false
digit_is_no_plus Octal d h = grind (arith, nat_tests)
digit_is_no_plus Decimal d h = grind (arith, nat_tests)
digit_is_no_plus Hexadecimal d h = grind (arith, nat_tests)

-- each digit's value is below the base
pub digits_fit : (base : Base) (ds : List ℕ) → list_all (is_digit_of base) ds ≡ true → AllDigits (radix base) ds
digits_fit base [] h = tt
digits_fit base (d ∷ ds) h =
    let parts = and_parts (is_digit_of base d) (list_all (is_digit_of base) ds) h in
    (digit_fits base d parts.0, digits_fit base ds parts.1)

digits_are_ascii : (base : Base) (ds : List ℕ) → list_all (is_digit_of base) ds ≡ true → (i : ℕ) → get_or ds i 0 < 128
digits_are_ascii base [] h i = omega arith
digits_are_ascii base (d ∷ ds) h zero = digit_is_ascii base d (and_parts (is_digit_of base d) (list_all (is_digit_of base) ds) h).0
digits_are_ascii base (d ∷ ds) h (suc i) = digits_are_ascii base ds (and_parts (is_digit_of base d) (list_all (is_digit_of base) ds) h).1 i

-- digits are valid UTF-8
pub digits_are_text : (base : Base) (ds : List ℕ) → list_all (is_digit_of base) ds ≡ true → IsUtf8 ds
digits_are_text base ds h = IsUtf8-from_ascii ds (digits_are_ascii base ds h)

-- digits don't begin with a plus
pub no_plus : (base : Base) (ds : List ℕ) → 0 < length ds → list_all (is_digit_of base) ds ≡ true → without_leading_plus ds ≡ ds
no_plus base [] some h = refl
no_plus base (d ∷ ds) some h = rw (digit_is_no_plus base d (and_parts (is_digit_of base d) (list_all (is_digit_of base) ds) h).0) refl

-- digits that don't parse have too large a value
pub too_large : {E : Type 0} (base : Base) (ds : List ℕ) (r : Result ℕ E) (e : E) → 0 < length ds → list_all (is_digit_of base) ds ≡ true
    → ParsesUnsigned 64 (radix base) ds r → r ≡ Err e → value_of base ds ≡ None
too_large base ds r e some h parsed is =
    let fails = rw (is, no_plus base ds some h) at parsed in
    elim (nat_lt (digits_value (radix base) ds) (2 ^ 64)) as (λ t.
    nat_lt (digits_value (radix base) ds) (2 ^ 64) ≡ t
    → cond t (Some (digits_value (radix base) ds)) None ≡ None) [
      | true ↦ λ low. absurd (fails ((some, digits_fit base ds h), grind (arith, nat_tests)))
      | false ↦ λ _. refl
    ] refl
