-- Written expressions that have the same parts at the same positions: two of them differ at most in the memory addresses of their parts.
use Rattle.std.specs.Prelude.{◌≡◌, List, [], ◌∷◌, Option, Some, None}
use mathlib.Core.Former.{Count}
use Rattle.cs_ast.specs.declared.place.Place.{Place}
use Rattle.cs_ast.specs.declared.raw.expression.RawExpr.{RawExpr}
use Rattle.cs_ast.specs.declared.raw.expression.RawExprKind.{RawExprKind, Row_of-RawExpr, end_of-RawExpr, more_of-RawExpr}
use Rattle.cs_ast.specs.declared.raw.expression.RawExprKind.TheVariants as kind
use Rattle.cs_ast.specs.declared.raw.written_type.WrittenType.{WrittenType}

-- two lists that correspond, element by element
pub data Pairwise {A : Type 0} (Same : A → A → Type 0) : List A → List A → Type 0 where
  none : Pairwise Same [] []
  more : {a b : A} {all others : List A} → Same a b → Pairwise Same all others → Pairwise Same (a ∷ all) (b ∷ others)

-- two optional parts
pub data IfBoth {A : Type 0} (Same : A → A → Type 0) : Option A → Option A → Type 0 where
  absent : IfBoth Same None None
  present : {a b : A} → Same a b → IfBoth Same (Some a) (Some b)

-- written types between parentheses, without their bounds
pub record SameType (ty other : WrittenType) : Type 0 where
  pub words : ty.words.items ≡ other.words.items
  pub tag : ty.tag ≡ other.tag
  pub pointers : ty.pointers.items ≡ other.pointers.items

mutual
  -- the kinds of two expressions at one position
  pub data SameKind : RawExprKind → RawExprKind → Type 0 where
    Name : {name : _} → SameKind (kind.Name name) (kind.Name name)
    Number : {constant : _} → SameKind (kind.Number constant) (kind.Number constant)
    Character : {value : _} → SameKind (kind.Character value) (kind.Character value)
    Text : {bytes : _} → SameKind (kind.Text bytes) (kind.Text bytes)
    Parenthesis : (place : Place) {p p' : _} {inner inner' : RawExprKind} → SameKind inner inner'
        → SameKind (kind.Parenthesis' place p inner) (kind.Parenthesis' place p' inner')
    Index : (place place' : Place) {p p' q q' : _} {array array' number number' : RawExprKind} → SameKind array array' → SameKind number number'
        → SameKind (kind.Index' place p array place' q number) (kind.Index' place p' array' place' q' number')
    Call : (place : Place) {p p' : _} {function function' : RawExprKind} {shape shape' : _} {row : _} {row' : _}
        → SameKind function function' → SameRow _ _ row row'
        → SameKind (kind.Call' place p function shape row) (kind.Call' place p' function' shape' row')
    Member : (place : Place) {p p' : _} {object object' : RawExprKind} (name : _) → SameKind object object'
        → SameKind (kind.Member' place p object name) (kind.Member' place p' object' name)
    Arrow : (place : Place) {p p' : _} {object object' : RawExprKind} (name : _) → SameKind object object'
        → SameKind (kind.Arrow' place p object name) (kind.Arrow' place p' object' name)
    StepAfter : (step : _) (place : Place) {p p' : _} {object object' : RawExprKind} → SameKind object object'
        → SameKind (kind.StepAfter' step place p object) (kind.StepAfter' step place p' object')
    StepBefore : (step : _) (place : Place) {p p' : _} {object object' : RawExprKind} → SameKind object object'
        → SameKind (kind.StepBefore' step place p object) (kind.StepBefore' step place p' object')
    Prefix : (operator : _) (place : Place) {p p' : _} {operand operand' : RawExprKind} → SameKind operand operand'
        → SameKind (kind.Prefix' operator place p operand) (kind.Prefix' operator place p' operand')
    SizeOf : (place : Place) {p p' : _} {operand operand' : RawExprKind} → SameKind operand operand'
        → SameKind (kind.SizeOf' place p operand) (kind.SizeOf' place p' operand')
    SizeOfType : {ty ty' : WrittenType} {shape shape' : _} {row : _} {row' : _} → SameType ty ty' → SameRow _ _ row row'
        → SameKind (kind.SizeOfType' ty shape row) (kind.SizeOfType' ty' shape' row')
    Cast : {ty ty' : WrittenType} {shape shape' : _} {row : _} {row' : _} (place : Place) {p p' : _} {operand operand' : RawExprKind}
        → SameType ty ty' → SameRow _ _ row row' → SameKind operand operand'
        → SameKind (kind.Cast' ty shape row place p operand) (kind.Cast' ty' shape' row' place p' operand')
    Infix : (operator : _) (place place' : Place) {p p' q q' : _} {left left' right right' : RawExprKind} → SameKind left left' → SameKind right right'
        → SameKind (kind.Infix' operator place p left place' q right) (kind.Infix' operator place p' left' place' q' right')
    Choice : (place place' place'' : Place) {p p' q q' r r' : _} {test test' one one' other other' : RawExprKind}
        → SameKind test test' → SameKind one one' → SameKind other other'
        → SameKind (kind.Choice' place p test place' q one place'' r other) (kind.Choice' place p' test' place' q' one' place'' r' other')
    Assign : (operator : _) (place place' : Place) {p p' q q' : _} {object object' value value' : RawExprKind}
        → SameKind object object' → SameKind value value'
        → SameKind (kind.Assign' operator place p object place' q value) (kind.Assign' operator place p' object' place' q' value')
    Comma : (place place' : Place) {p p' q q' : _} {first first' second second' : RawExprKind} → SameKind first first' → SameKind second second'
        → SameKind (kind.Comma' place p first place' q second) (kind.Comma' place p' first' place' q' second')

  -- lists of expressions
  pub data SameRow : (n m : Count) → Row_of-RawExpr n → Row_of-RawExpr m → Type 0 where
    End : SameRow _ _ end_of-RawExpr end_of-RawExpr
    More : (place : Place) {p p' : _} {first first' : RawExprKind} {n m : Count} {others : Row_of-RawExpr n} {others' : Row_of-RawExpr m}
        → SameKind first first' → SameRow _ _ others others'
        → SameRow _ _ (more_of-RawExpr place p first others) (more_of-RawExpr place p' first' others')

-- expressions
pub record SameExpr (e other : RawExpr) : Type 0 where
  pub at : e.place ≡ other.place
  pub is : SameKind e.kind.value other.kind.value
