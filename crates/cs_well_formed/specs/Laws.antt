-- Typed expressions and initializers are well formed.
use Rattle.std.specs.Prelude.{◌≡◌, ℤ, Option, IfSome}
use Rattle.cs_types.specs.declared.int_type.IntType.{IntType}
use Rattle.cs_types.specs.IntType.{InRange}
use Rattle.cs_types.specs.Layout.{IsLaidOut}
use Rattle.cs_types.specs.Shape.{Shape}
use Rattle.cs_ast.specs.declared.place.Place.{Place}
use Rattle.cs_ast.specs.declared.raw.expression.RawExpr.{RawExpr}
use Rattle.cs_ast.specs.declared.raw.expression.RawExprKind.{RawExprKind}
use Rattle.cs_ast.specs.declared.raw.declaration.RawInitial.{RawInitial}
use Rattle.cs_ast.specs.RawView.{written_kind, written}
use Rattle.cs_ast.specs.RawDeclarationView.{initial}
use Rattle.cs_ast.specs.TypedTree.{Typed, Initial}
use Rattle.cs_scopes.specs.declared.context.Context.{Context}
use Rattle.cs_consts.specs.declared.purpose.Purpose.{Purpose}
use Rattle.cs_scopes.specs.Verdicts.{Fine}
use Rattle.cs_expressions.specs.Primary.{Literals}
use Rattle.cs_consts.specs.Typing.{literals_after, formed}
use Rattle.cs_consts.specs.Roles.{value_of, operand_of, assigned_value, test_of, selector_of, discarded_value}
use Rattle.cs_declarations.specs.Initializers.{Storage, InFile, initial_typed}
use Rattle.cs_well_formed.specs.Structs.{NamesStructs}
use Rattle.cs_well_formed.specs.Expressions.{Setting, IsWell, IsValue, IsValueOf, IsIntegerValue, IsScalarValue, IsWhole}
use Rattle.cs_well_formed.specs.Initials.{IsWellInitial, HasConstantValues}
use Rattle.cs_well_formed.specs.Constants.{HasConstants, InitialHasConstants}
use Rattle.cs_well_formed.specs.Agreement.{Agrees, AreFirst}

-- an expression whose constants are not too large, where what is known agrees with a program, of which its literals and those before
-- it are the first ones
pub record IsTyped (s : Setting) (c : Context) (literals : Literals) (k : RawExprKind) : Type 0 where
  pub agrees : Agrees s c
  pub constants : HasConstants (written_kind k)
  pub texts : AreFirst s.program (literals_after literals k)

-- the type that a value is assigned or converted to, if there is one, names structs
abbrev pub TargetNames : Setting → Option Shape → Type 0
TargetNames s target = IfSome target (NamesStructs s.program.table)

-- an expression, for any purpose and any target
abbrev pub FormedAreWell : Type 0
FormedAreWell = (s : Setting) (c : Context) (purpose : Purpose) (literals : Literals) (target : Option Shape) (at : Place) (k : RawExprKind) (e : Typed) →
    IsTyped s c literals k → TargetNames s target → formed c purpose literals target at k ≡ Fine e → IsWell s e

-- an expression that must have a value
abbrev pub OperandsAreWell : Type 0
OperandsAreWell = (s : Setting) (c : Context) (literals : Literals) (target : Option Shape) (e : RawExpr) (v : Typed) →
    IsTyped s c literals e.kind.value → TargetNames s target → operand_of c literals target e ≡ Fine v → IsWell s v × IsValue v

-- an expression whose value is converted to a type as if by assignment has that type
abbrev pub AssignedAreWell : Type 0
AssignedAreWell = (s : Setting) (c : Context) (literals : Literals) (at : Place) (target : Shape) (e : RawExpr) (v : Typed) →
    IsTyped s c literals e.kind.value → NamesStructs s.program.table target → assigned_value c literals at target e ≡ Fine v
    → IsWell s v × IsValueOf v target

-- an expression that is tested is an integer or a pointer
abbrev pub TestsAreWell : Type 0
TestsAreWell = (s : Setting) (c : Context) (literals : Literals) (at : Place) (e : RawExpr) (v : Typed) →
    IsTyped s c literals e.kind.value → test_of c literals at e ≡ Fine v → IsWell s v × IsScalarValue v

-- an expression that controls a `switch` is an integer
abbrev pub SelectorsAreWell : Type 0
SelectorsAreWell = (s : Setting) (c : Context) (literals : Literals) (at : Place) (e : RawExpr) (v : Typed) →
    IsTyped s c literals e.kind.value → selector_of c literals at e ≡ Fine v → IsWell s v × IsIntegerValue v

-- an expression whose value is discarded
abbrev pub DiscardedAreWell : Type 0
DiscardedAreWell = (s : Setting) (c : Context) (literals : Literals) (e : RawExpr) (v : Typed) →
    IsTyped s c literals e.kind.value → discarded_value c literals e ≡ Fine v → IsWell s v × IsValue v

-- the number of a constant expression is one of its type; its string literals don't become part of the program
abbrev pub ConstantsAreInRange : Type 0
ConstantsAreInRange = (s : Setting) (c : Context) (e : RawExpr) (ty : IntType) (n : ℤ) →
    Agrees s c → HasConstants (written e) → value_of c e ≡ Fine (ty, n) → InRange c.model ty n

-- the initializer of an object of a complete type, if the structs of the program have layouts
abbrev pub InitialsAreWell : Type 0
InitialsAreWell = (s : Setting) (c : Context) (literals following : Literals) (storage : Storage) (at : Place) (ty : Shape) (raw : RawInitial) (found : Initial)
    →
    Agrees s c → IsLaidOut s.program.model s.program.table → IsWhole s.program ty → NamesStructs s.program.table ty → InitialHasConstants (initial raw)
    → AreFirst s.program following →
    initial_typed c literals storage at ty raw ≡ Fine (found, following) → IsWellInitial s ty found

-- the initializer of a file-scope object is constant
abbrev pub FileInitialsAreConstant : Type 0
FileInitialsAreConstant = (c : Context) (literals following : Literals) (at : Place) (ty : Shape) (raw : RawInitial) (found : Initial) →
    initial_typed c literals InFile at ty raw ≡ Fine (found, following) → HasConstantValues c.model found
