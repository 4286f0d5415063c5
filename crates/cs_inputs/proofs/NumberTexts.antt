-- The number of a text, and that it is unique: for `number_of` and `parse`.
use Rattle.std.proofs.Common.{◌≡◌, ℕ, ◌<◌, ◌^◌, suc, true, List, ◌∷◌, ◌++◌, drop, ap, sym, ◌∙◌, refl, subst, arith, inl, inr}
use Rattle.std.proofs.Common.{lit<}
use Rattle.std.specs.Int.{w128}
use Rattle.std.specs.Prelude.{FitsSigned, ℤ, pos, negsuc, ◌-ℤ◌, Result, Ok, Err, codes, IsErrAnd}
use Rattle.std.specs.List.{list_all}
use Rattle.std.specs.Fmt.{decimal, signed_decimal}
use Rattle.std.specs.Str.Parse.{digits_value}
use Rattle.std.proofs.lemmas.Bool.{false≢true}
use Rattle.std.proofs.lemmas.Fmt.{digits_decimal, digits_value-decimal, decimal_nonempty, length-decimal-le}
use Rattle.std.proofs.lemmas.Int.{ints}
use Rattle.cs_inputs.specs.declared.refusal.PathRefusal.{PathRefusal}
use Rattle.cs_inputs.specs.declared.refusal.PathRefusal.TheVariants.{BadPath, BadNumber, TooWide, Memory}
use Rattle.cs_inputs.specs.InputText.{is_digit, AreDigits, AreDigitsOf, SpellsNumber, IsInputNumber}
use Rattle.cs_inputs.specs.Reading.{IsMagnitudeRead, IsNumberRead}
use Rattle.cs_inputs.proofs.DecimalTexts.{own}

-- ---- a text has one number
no_sign : (digits : List ℕ) (rest : List ℕ) → list_all is_digit digits ≡ true → digits ≡ codes "-" ++ rest → ⊥
no_sign digits rest all e = false≢true (ap (list_all is_digit) (sym e) ∙ all)

pub same_value : (text : List ℕ) (m n : ℤ) → SpellsNumber text m → SpellsNumber text n → m ≡ n
same_value text m n (inl one) (inl other) = one.value ∙ sym other.value
same_value text m n (inl one) (inr other) = absurd (no_sign text other.0 one.are_digits.all other.1)
same_value text m n (inr one) (inl other) = absurd (no_sign text one.0 other.are_digits.all one.1)
same_value text m n (inr one) (inr other) =
    let digits : one.0 ≡ other.0 = ap (drop 1) (sym one.1 ∙ other.1) in
    let left : pos 0 -ℤ m ≡ pos (digits_value 10 one.0) = one.2.value in
    let right : pos 0 -ℤ n ≡ pos (digits_value 10 other.0) = other.2.value in
    let values : digits_value 10 one.0 ≡ digits_value 10 other.0 = ap (digits_value 10) digits in
    omega (arith, ints)

-- ---- why digits are refused
pub minus_refused : (text digits : List ℕ) → text ≡ 45 ∷ digits
    → (refusal : PathRefusal) (r : Result ℤ PathRefusal) → IsMagnitudeRead digits (Err refusal) → IsErrAnd r (λ e. e ≡ refusal)
    → IsNumberRead text r
minus_refused text digits is refusal (Ok n) h e = absurd e
minus_refused text digits is BadPath (Err r) h e = absurd h
minus_refused text digits is BadNumber (Err r) h e = subst (λ (t : PathRefusal). IsNumberRead text (Err t)) (sym e) none
  where
    none : (number : ℤ) → SpellsNumber text number → ⊥
    none number (inl plain) = no_sign text digits plain.are_digits.all is
    none number (inr minus) = h (subst AreDigits (ap (drop 1) (sym minus.1 ∙ is)) minus.2.are_digits)
minus_refused text digits is TooWide (Err r) h e =
    subst (λ (t : PathRefusal). IsNumberRead text (Err t)) (sym e) (number, inr (digits, is, record { are_digits = h.0; value = back }), outside)
  where
    number : ℤ
    number = pos 0 -ℤ pos (digits_value 10 digits)

    back : pos 0 -ℤ (pos 0 -ℤ pos (digits_value 10 digits)) ≡ pos (digits_value 10 digits)
    back = omega (arith, ints)

    outside : IsInputNumber (pos 0 -ℤ pos (digits_value 10 digits)) → ⊥
    outside within = let far = h.1 in let low = within.from_least in omega (arith, ints)
minus_refused text digits is Memory (Err r) h e = absurd h

pub plain_refused : (text : List ℕ) → ((rest : List ℕ) → text ≡ 45 ∷ rest → ⊥)
    → (refusal : PathRefusal) (r : Result ℤ PathRefusal) → IsMagnitudeRead text (Err refusal) → IsErrAnd r (λ e. e ≡ refusal) → IsNumberRead text r
plain_refused text plain refusal (Ok n) h e = absurd e
plain_refused text plain BadPath (Err r) h e = absurd h
plain_refused text plain BadNumber (Err r) h e = subst (λ (t : PathRefusal). IsNumberRead text (Err t)) (sym e) none
  where
    none : (number : ℤ) → SpellsNumber text number → ⊥
    none number (inl digits) = h digits.are_digits
    none number (inr minus) = plain minus.0 minus.1
plain_refused text plain TooWide (Err r) h e =
    subst (λ (t : PathRefusal). IsNumberRead text (Err t)) (sym e) (pos (digits_value 10 text), inl (record { are_digits = h.0; value = refl }), outside)
  where
    outside : IsInputNumber (pos (digits_value 10 text)) → ⊥
    outside within = let far = h.1 in let high = within.to_greatest in omega (arith, ints)
plain_refused text plain Memory (Err r) h e = absurd h

-- below the least number
pub too_low : (text digits : List ℕ) (magnitude : ℕ) → text ≡ 45 ∷ digits → AreDigits digits → magnitude ≡ digits_value 10 digits
    → 2 ^ 63 < magnitude → (n : ℤ) × SpellsNumber text n × (IsInputNumber n → ⊥)
too_low text digits magnitude is are value low = (
  pos 0 -ℤ pos magnitude,
  inr (digits, is, record { are_digits = are; value = omega (arith, ints) }),
  λ within. let h = within.from_least in omega (arith, ints),
)

-- ---- the text of a number
pub digits_of : (n : ℕ) → n < 2 ^ 64 → AreDigitsOf (decimal n) (pos n)
digits_of n fits = record {
  are_digits = record {
    all = digits_decimal own n fits;
    some = decimal_nonempty n fits;
    few = omega (arith, length-decimal-le 20 n (lit< tt) (omega arith) fits);
  };
  value = ap pos (sym (digits_value-decimal own n fits));
}

pub spelled : (number : ℤ) → IsInputNumber number → SpellsNumber (signed_decimal number) number
spelled (pos n) within = let high = within.to_greatest in inl (digits_of n (omega (arith, ints)))
spelled (negsuc n) within = let low = within.from_least in let digits = digits_of (suc n) (omega (arith, ints)) in
    let opposite : pos 0 -ℤ negsuc n ≡ pos (suc n) = omega (arith, ints) in
    inr (decimal (suc n), refl, record { are_digits = digits.are_digits; value = opposite ∙ digits.value })

-- an input's number fits in 128 bits
pub fits_machine : (number : ℤ) → IsInputNumber number → FitsSigned w128 number
fits_machine (pos n) within = let high = within.to_greatest in omega (arith, ints)
fits_machine (negsuc n) within = let low = within.from_least in omega (arith, ints)
