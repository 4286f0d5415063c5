-- The verdicts of typing rules on a part of a program: a value, or a type error with its position.
use Rattle.std.specs.Prelude.{◌≡◌, ℕ, Result, Ok, Err}
use Rattle.cs_ast.specs.declared.place.Place.{Place}
use Rattle.cs_ast.specs.declared.typed.expression.Expr.{Expr}
use Rattle.cs_ast.specs.TypedTree.{Typed}
use Rattle.cs_ast.specs.TypedView.{typed}
use Rattle.cs_scopes.specs.declared.refusal.TypeCode.{TypeCode}
use Rattle.cs_scopes.specs.declared.refusal.TypeCode.TheVariants.{UnknownName, DeclaredTwice, NotLvalue, OperandTypes, ArgumentCount, IncompleteType, Size}
use Rattle.cs_scopes.specs.declared.refusal.TypeCode.TheVariants.{NoTarget, PointerConversion, CaseTwice, Jump, NoMember, Initializer, FunctionName}
use Rattle.cs_scopes.specs.declared.refusal.TypeCode.TheVariants.{NotConstant, VoidValue, Return, TooManyScalars}
use Rattle.cs_scopes.specs.declared.refusal.TypeRefusal.{TypeRefusal}
use Rattle.cs_scopes.specs.declared.refusal.TypeRefusal.TheVariants.{Code, Memory}

-- the number of a code
abbrev pub number_of : TypeCode → ℕ
number_of UnknownName = 1
number_of DeclaredTwice = 2
number_of NotLvalue = 3
number_of OperandTypes = 4
number_of ArgumentCount = 5
number_of IncompleteType = 6
number_of Size = 7
number_of NoTarget = 8
number_of PointerConversion = 9
number_of CaseTwice = 10
number_of Jump = 11
number_of NoMember = 12
number_of Initializer = 13
number_of FunctionName = 14
number_of NotConstant = 15
number_of VoidValue = 16
number_of Return = 17
number_of TooManyScalars = 18

-- the result of a rule: a value, or a type error with its position
pub data Verdict (A : Type 0) : Type 0 where
  Fine : (value : A) → Verdict A
  Fault : (code : TypeCode) (place : Place) → Verdict A

-- a rule applied to the value of another
unfoldable pub lift : {A B : Type 0} → (A → Verdict B) → Verdict A → Verdict B
lift rule (Fine value) = rule value
lift rule (Fault code place) = Fault code place

-- a rule applied to the values of two others; the first failing one decides
unfoldable pub lift2 : {A B C : Type 0} → (A → B → Verdict C) → Verdict A → Verdict B → Verdict C
lift2 rule (Fine first) (Fine second) = rule first second
lift2 rule (Fine first) (Fault code place) = Fault code place
lift2 rule (Fault code place) second = Fault code place

-- a rule applied to the values of three others
unfoldable pub lift3 : {A B C D : Type 0} → (A → B → C → Verdict D) → Verdict A → Verdict B → Verdict C → Verdict D
lift3 rule (Fine first) (Fine second) (Fine third) = rule first second third
lift3 rule (Fine first) (Fine second) (Fault code place) = Fault code place
lift3 rule (Fine first) (Fault code place) third = Fault code place
lift3 rule (Fault code place) second third = Fault code place

-- the refusal is the verdict's; nothing is claimed if memory ran out
abbrev pub IsRefused : {A : Type 0} → Verdict A → TypeRefusal → Type 0
IsRefused verdict (Code code place) = verdict ≡ Fault code place
IsRefused verdict Memory = Unit {0}

-- the result of a function, under a view, is the verdict
abbrev pub Answers : {A B : Type 0} → (A → B) → Verdict B → Result A TypeRefusal → Type 0
Answers view verdict (Ok answer) = verdict ≡ Fine (view answer)
Answers view verdict (Err refusal) = IsRefused verdict refusal

-- the expression that a function returns is the verdict's
abbrev pub Yields : Verdict Typed → Result Expr TypeRefusal → Type 0
Yields verdict (Ok e) = verdict ≡ Fine (typed e)
Yields verdict (Err refusal) = IsRefused verdict refusal
