-- Which texts are the decimal text of a 64-bit number, and of which one: for `value_of` and `number_with_text`.
use Rattle.std.proofs.Common.{◌≡◌, ℕ, ◌<◌, ◌^◌, zero, suc, Bool, true, false, not, ◌&&◌, ◌||◌, eqb-true, List, [], ◌∷◌, length}
use Rattle.std.proofs.Common.{get_or, Option, Some, None, Result, Ok, Err, ap, sym, ◌∙◌, refl, subst, arith, rules}
use Rattle.std.specs.Prelude.{◌==◌, SomeIff}
use Rattle.std.specs.List.{list_all}
use Rattle.std.specs.Result.{result_ok, OkIff}
use Rattle.std.specs.Str.{IsUtf8}
use Rattle.std.specs.Str.Parse.{digits_value, ParsesUnsigned}
use Rattle.std.specs.Fmt.{decimal}
use Rattle.std.proofs.lemmas.Bool.Decides.{nat_tests}
use Rattle.std.proofs.lemmas.Str.{IsUtf8-from_ascii}
use Rattle.std.proofs.lemmas.Str.Parse.{IsNumeralModel, numerals_by_value, parse_digits}
use Rattle.std.proofs.lemmas.Fmt.{IsAscii-from_digits, decimal-digits_value, digits_decimal, digits_value-decimal, decimal_nonempty, first_decimal}
use Rattle.std.proofs.lemmas.Fmt.{decimal_digit}
use Rattle.cs_inputs.specs.InputText.{is_digit}
use Rattle.cs_inputs.specs.Reading.{Finds, IsDecimalOf, has_no_leading_zero}
use Rattle.cs_inputs.proofs.Splits.{both}

pub own : IsNumeralModel (λ ds. list_all is_digit ds ≡ true) (digits_value 10)
own = numerals_by_value _ (search rules)

-- ---- digits as text
pub digits_are_text : (bs : List ℕ) → list_all is_digit bs ≡ true → IsUtf8 bs
digits_are_text bs h = IsUtf8-from_ascii bs (IsAscii-from_digits bs (own.to bs h))

some_iff : {E : Type 0} (r : Result ℕ E) (o : Option ℕ) (some fits : Type 0) (x : ℕ) → some → o ≡ result_ok r → OkIff r (some × fits) x
    → SomeIff o fits x
some_iff (Ok y) (Some z) some fits x s e h = (h.0.1, cc)
some_iff (Ok y) None some fits x s e h = absurd (cc)
some_iff (Err y) (Some z) some fits x s e h = absurd (cc)
some_iff (Err y) None some fits x s e h = λ f. h (s, f)

pub value_read : {E : Type 0} (bs : List ℕ) (r : Result ℕ E) (o : Option ℕ) → list_all is_digit bs ≡ true → 0 < length bs
    → ParsesUnsigned 64 10 bs r → o ≡ result_ok r → SomeIff o (digits_value 10 bs < 2 ^ 64) (digits_value 10 bs)
value_read bs r o digits some parsed e =
    some_iff r o (0 < length bs) (digits_value 10 bs < 2 ^ 64) (digits_value 10 bs) some e (parse_digits own 64 bs r parsed digits)

-- ---- texts of numbers
pub is_digits : (bs : List ℕ) (n : ℕ) → IsDecimalOf bs n → list_all is_digit bs ≡ true
is_digits bs n d = subst (λ t. list_all is_digit t ≡ true) d.is (digits_decimal own n d.fits)

pub is_nonempty : (bs : List ℕ) (n : ℕ) → IsDecimalOf bs n → 0 < length bs
is_nonempty bs n d = subst (λ (t : List ℕ). 0 < length t) d.is (decimal_nonempty n d.fits)

pub has_value : (bs : List ℕ) (n : ℕ) → IsDecimalOf bs n → digits_value 10 bs ≡ n
has_value bs n d = subst (λ t. digits_value 10 t ≡ n) d.is (digits_value-decimal own n d.fits)

-- only the text of zero begins with a zero
begins_with_zero : (n : ℕ) → n < 2 ^ 64 → get_or (decimal n) 0 0 ≡ 48 → length (decimal n) ≡ 1
begins_with_zero zero fits first = ap length (decimal_digit 0 (omega arith))
begins_with_zero (suc n) fits first = absurd (omega (arith, first_decimal (suc n) (omega arith) fits))

pub has_no_leading_zero-first : (bs : List ℕ) (n : ℕ) → IsDecimalOf bs n → get_or bs 0 0 ≡ 48 → length bs ≡ 1
has_no_leading_zero-first bs n d = subst (λ (t : List ℕ). get_or t 0 0 ≡ 48 → length t ≡ 1) d.is (begins_with_zero n d.fits)

-- a text is that of at most one number
pub same_number : (bs : List ℕ) (m n : ℕ) → IsDecimalOf bs m → IsDecimalOf bs n → m ≡ n
same_number bs m n one other = sym (has_value bs m one) ∙ has_value bs n other

plain_first : (bs : List ℕ) → has_no_leading_zero bs ≡ true → (0 < length bs) × (get_or bs 0 0 ≡ 48 → length bs ≡ 1)
plain_first [] h = absurd (cc)
plain_first (b ∷ bs) h = (omega arith, λ z. grind (arith, nat_tests))

not_plain : (bs : List ℕ) → has_no_leading_zero bs ≡ false → 0 < length bs → (get_or bs 0 0 ≡ 48 → length bs ≡ 1) → ⊥
not_plain [] h some plain = omega arith
not_plain (b ∷ bs) h some plain = at (b == 48) refl (length bs == 0) refl h
  where
    at : (first : Bool) → (b == 48) ≡ first → (alone : Bool) → (length bs == 0) ≡ alone → (not first || alone) ≡ false → ⊥
    at false is alone rest h = absurd (cc)
    at true is true rest h = absurd (cc)
    at true is false rest h = let one : length (b ∷ bs) ≡ 1 = plain (eqb-true b 48 is) in grind (arith, nat_tests)

-- bytes that aren't digits, or begin with a zero, aren't the text of a number
pub not_found : (bs : List ℕ) → (list_all is_digit bs && has_no_leading_zero bs) ≡ false → (n : ℕ) → IsDecimalOf bs n → ⊥
not_found bs h n d =
    not_plain bs (ap (λ t. t && has_no_leading_zero bs) (sym (is_digits bs n d)) ∙ h) (is_nonempty bs n d) (has_no_leading_zero-first bs n d)

-- the number of other digits is their value, if it has 64 bits
pub found : (bs : List ℕ) (r : Option ℕ) → (list_all is_digit bs && has_no_leading_zero bs) ≡ true
    → SomeIff r (digits_value 10 bs < 2 ^ 64) (digits_value 10 bs) → Finds (IsDecimalOf bs) r
found bs r plain h =
    let tests = both (list_all is_digit bs) (has_no_leading_zero bs) plain in
    let first = plain_first bs tests.1 in
    by_value bs r tests.0 first.0 first.1 h
  where
    by_value : (bs : List ℕ) (r : Option ℕ) → list_all is_digit bs ≡ true → 0 < length bs → (get_or bs 0 0 ≡ 48 → length bs ≡ 1)
        → SomeIff r (digits_value 10 bs < 2 ^ 64) (digits_value 10 bs) → Finds (IsDecimalOf bs) r
    by_value bs (Some x) digits some plain h =
        let text : decimal (digits_value 10 bs) ≡ bs = decimal-digits_value own bs digits some plain h.0 in
        record { fits = subst (λ v. v < 2 ^ 64) (sym h.1) h.0; is = ap decimal h.1 ∙ text }
    by_value bs None digits some plain h = λ n d. h (subst (λ v. v < 2 ^ 64) (sym (has_value bs n d)) d.fits)
