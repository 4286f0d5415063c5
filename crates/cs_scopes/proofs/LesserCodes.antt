-- The lesser of codes is associative and commutative: for loops over parts with codes at one position, of which the least is reported.
use Rattle.std.proofs.Common.{◌≡◌, List, [], ◌∷◌, get_or, Bool, true, false, Option, Some, None, refl, sym, ap, ◌∙◌, arith}
use Rattle.std.specs.Prelude.{nat_le, if◌then◌else◌}
use Rattle.std.proofs.lemmas.Bool.{leb-true, leb-false}
use Rattle.cs_scopes.specs.declared.refusal.TypeCode.{TypeCode}
use Rattle.cs_scopes.specs.declared.refusal.TypeCode.TheVariants.{UnknownName, DeclaredTwice, NotLvalue, OperandTypes, ArgumentCount, IncompleteType, Size}
use Rattle.cs_scopes.specs.declared.refusal.TypeCode.TheVariants.{NoTarget, PointerConversion, CaseTwice, Jump, NoMember, Initializer, FunctionName}
use Rattle.cs_scopes.specs.declared.refusal.TypeCode.TheVariants.{NotConstant, VoidValue, Return, TooManyScalars}
use Rattle.cs_scopes.specs.Verdicts.{number_of}
use Rattle.cs_scopes.specs.Faults.{lesser, least_code}

-- the codes by their numbers, which start at 1
abbrev codes : List TypeCode
codes = UnknownName ∷ UnknownName ∷ DeclaredTwice ∷ NotLvalue ∷ OperandTypes ∷ ArgumentCount ∷ IncompleteType ∷ Size ∷ NoTarget
    ∷ PointerConversion ∷ CaseTwice ∷ Jump ∷ NoMember ∷ Initializer ∷ FunctionName ∷ NotConstant ∷ VoidValue ∷ Return ∷ TooManyScalars
    ∷ []

by_number : (code : TypeCode) → get_or codes (number_of code) UnknownName ≡ code
by_number UnknownName = refl
by_number DeclaredTwice = refl
by_number NotLvalue = refl
by_number OperandTypes = refl
by_number ArgumentCount = refl
by_number IncompleteType = refl
by_number Size = refl
by_number NoTarget = refl
by_number PointerConversion = refl
by_number CaseTwice = refl
by_number Jump = refl
by_number NoMember = refl
by_number Initializer = refl
by_number FunctionName = refl
by_number NotConstant = refl
by_number VoidValue = refl
by_number Return = refl
by_number TooManyScalars = refl

same_code : (a b : TypeCode) → number_of a ≡ number_of b → a ≡ b
same_code a b e = sym (by_number a) ∙ ap (λ n. get_or codes n UnknownName) e ∙ by_number b

abbrev chosen : Bool → TypeCode → TypeCode → TypeCode
chosen b one other = if b then one else other

pub lesser-comm : (a b : TypeCode) → lesser a b ≡ lesser b a
lesser-comm a b = by_tests (nat_le (number_of a) (number_of b)) (nat_le (number_of b) (number_of a)) refl refl where
  by_tests : (s t : Bool) → nat_le (number_of a) (number_of b) ≡ s → nat_le (number_of b) (number_of a) ≡ t → lesser a b ≡ lesser b a
  by_tests true true e f =
      let below = leb-true (number_of a) (number_of b) e in
      let above = leb-true (number_of b) (number_of a) f in
      ap (λ x. chosen x a b) e ∙ same_code a b (omega (arith, below, above)) ∙ sym (ap (λ x. chosen x b a) f)
  by_tests true false e f = ap (λ x. chosen x a b) e ∙ sym (ap (λ x. chosen x b a) f)
  by_tests false true e f = ap (λ x. chosen x a b) e ∙ sym (ap (λ x. chosen x b a) f)
  by_tests false false e f =
      let below = leb-false (number_of a) (number_of b) e in
      let above = leb-false (number_of b) (number_of a) f in
      absurd (omega (arith, below, above))

first_is : (a b : TypeCode) → nat_le (number_of a) (number_of b) ≡ true → lesser a b ≡ a
first_is a b e = ap (λ x. chosen x a b) e

second_is : (a b : TypeCode) → nat_le (number_of a) (number_of b) ≡ false → lesser a b ≡ b
second_is a b e = ap (λ x. chosen x a b) e

pub lesser-assoc : (a b c : TypeCode) → lesser (lesser a b) c ≡ lesser a (lesser b c)
lesser-assoc a b c = by_tests (nat_le (number_of a) (number_of b)) (nat_le (number_of b) (number_of c)) (nat_le (number_of a) (number_of c)) refl refl refl
  where
    by_tests : (s t u : Bool) → nat_le (number_of a) (number_of b) ≡ s → nat_le (number_of b) (number_of c) ≡ t
        → nat_le (number_of a) (number_of c) ≡ u → lesser (lesser a b) c ≡ lesser a (lesser b c)
    by_tests true true true e f g = ap (λ x. lesser x c) (first_is a b e) ∙ first_is a c g ∙ sym (ap (lesser a) (first_is b c f) ∙ first_is a b e)
    by_tests true true false e f g =
        let one = leb-true (number_of a) (number_of b) e in
        let two = leb-true (number_of b) (number_of c) f in
        let three = leb-false (number_of a) (number_of c) g in
        absurd (omega (arith, one, two, three))
    by_tests true false u e f g = ap (λ x. lesser x c) (first_is a b e) ∙ sym (ap (lesser a) (second_is b c f))
    by_tests false true u e f g = ap (λ x. lesser x c) (second_is a b e) ∙ first_is b c f ∙ sym (ap (lesser a) (first_is b c f) ∙ second_is a b e)
    by_tests false false true e f g =
        let one = leb-false (number_of a) (number_of b) e in
        let two = leb-false (number_of b) (number_of c) f in
        let three = leb-true (number_of a) (number_of c) g in
        absurd (omega (arith, one, two, three))
    by_tests false false false e f g = ap (λ x. lesser x c) (second_is a b e) ∙ second_is b c f ∙ sym (ap (lesser a) (second_is b c f) ∙ second_is a c g)

-- the least of the codes at one position doesn't depend on how they are grouped
pub least_code-assoc : (a b c : Option TypeCode) → least_code (least_code a b) c ≡ least_code a (least_code b c)
least_code-assoc None b c = refl
least_code-assoc (Some a) None c = refl
least_code-assoc (Some a) (Some b) None = refl
least_code-assoc (Some a) (Some b) (Some c) = ap Some (lesser-assoc a b c)

pub least_code-none : (a : Option TypeCode) → least_code a None ≡ a
least_code-none None = refl
least_code-none (Some a) = refl
