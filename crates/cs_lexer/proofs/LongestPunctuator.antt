-- The longest punctuator that bytes begin with: for `longest_punctuator`, which tries three bytes, then two, then one.
use Rattle.std.proofs.Common.{◌≡◌, ◌≢◌, ℕ, ◌<◌, ◌≤◌, inl, inr, zero, suc, List, [], ◌∷◌, length, take, refl, sym, ap, ◌∙◌}
use Rattle.std.proofs.Common.{arith, length-take}
use Rattle.std.proofs.lemmas.Bool.{cases_lt}
use Rattle.cs_ast.specs.declared.token.Punctuator.{Punctuator}
use Rattle.cs_ast.specs.declared.token.Punctuator.TheVariants.{OpenBracket}
use Rattle.cs_lexer.specs.Spellings.{punctuator_text}
use Rattle.cs_lexer.specs.Punctuators.{NoPunctuator, IsLongestPunctuator, BeginsWithPunctuator}

punctuator_has_three : (punctuator : Punctuator) → length (punctuator_text punctuator) ≤ 3
punctuator_has_three OpenBracket = omega arith
punctuator_has_three _ = omega arith

pub punctuator_has_one : (punctuator : Punctuator) → 1 ≤ length (punctuator_text punctuator)
punctuator_has_one OpenBracket = omega arith
punctuator_has_one _ = omega arith

take_again : (n : ℕ) (xs : List ℕ) → take (length (take n xs)) xs ≡ take n xs
take_again zero xs = refl
take_again (suc n) [] = refl
take_again (suc n) (x ∷ xs) = ap (λ ys. x ∷ ys) (take_again n xs)

-- no punctuator is spelled by so many bytes of the front
abbrev pub NoneOf : List ℕ → ℕ → Type 0
NoneOf bytes k = (other : Punctuator) → punctuator_text other ≢ take k bytes

taken_fits : (bytes text : List ℕ) → take (length text) bytes ≡ text → length text ≤ length bytes
taken_fits bytes text h = omega (arith, ap length h, length-take (length text) bytes)

no_longer : (bytes text : List ℕ) (other : Punctuator) (n : ℕ) → text ≡ take n bytes → ((k : ℕ) → n < k → k ≤ 3 → NoneOf bytes k)
    → BeginsWithPunctuator bytes other → length (punctuator_text other) ≤ length text
no_longer bytes text other n is none begins =
    let within = taken_fits bytes (punctuator_text other) begins in
    let short = punctuator_has_three other in
    elim (cases_lt n (length (punctuator_text other))) [
      | inl above ↦ absurd (none (length (punctuator_text other)) above short other (sym begins))
      | inr below ↦ omega (arith, ap length is, length-take n bytes)
    ]

-- a punctuator of so many bytes is the longest if no greater number of bytes spells one
pub longest_from : (bytes : List ℕ) (punctuator : Punctuator) (n : ℕ) → punctuator_text punctuator ≡ take n bytes
    → ((k : ℕ) → n < k → k ≤ 3 → NoneOf bytes k) → IsLongestPunctuator bytes punctuator
longest_from bytes punctuator n is none =
    record {
      begins = ap (λ text. take (length text) bytes) is ∙ take_again n bytes ∙ sym is;
      longest = λ other begins. no_longer bytes (punctuator_text punctuator) other n is none begins;
    }

-- and no punctuator begins the bytes if no number of bytes spells one
pub none_from : (bytes : List ℕ) → ((k : ℕ) → 0 < k → k ≤ 3 → NoneOf bytes k) → NoPunctuator bytes
none_from bytes none other begins = none (length (punctuator_text other)) (punctuator_has_one other) (punctuator_has_three other) other (sym begins)

at : (bytes : List ℕ) (k n : ℕ) → k ≡ n → NoneOf bytes n → NoneOf bytes k
at bytes k n e none other h = none other (h ∙ ap (λ m. take m bytes) e)

pub above_three : (bytes : List ℕ) (k : ℕ) → 3 < k → k ≤ 3 → NoneOf bytes k
above_three bytes k above below = absurd (omega arith)

pub above_two : (bytes : List ℕ) → NoneOf bytes 3 → (k : ℕ) → 2 < k → k ≤ 3 → NoneOf bytes k
above_two bytes three k above below = at bytes k 3 (omega arith) three

pub above_one : (bytes : List ℕ) → NoneOf bytes 3 → NoneOf bytes 2 → (k : ℕ) → 1 < k → k ≤ 3 → NoneOf bytes k
above_one bytes three two k above below = elim (cases_lt 2 k) [ inl more ↦ above_two bytes three k more below | inr less ↦ at bytes k 2 (omega arith) two ]

pub above_none : (bytes : List ℕ) → NoneOf bytes 3 → NoneOf bytes 2 → NoneOf bytes 1 → (k : ℕ) → 0 < k → k ≤ 3 → NoneOf bytes k
above_none bytes three two one k above below = elim (cases_lt 1 k) [
  | inl more ↦ above_one bytes three two k more below
  | inr less ↦ at bytes k 1 (omega arith) one
]
