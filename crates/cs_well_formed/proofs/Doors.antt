-- Typed expressions, by the rules of `Roles`, are what statements, initializers and declarations require.
use Rattle.std.proofs.Common.{◌≡◌, [], Option, Some, None, refl, sym, subst}
use Rattle.std.proofs.lemmas.List.{append-nil}
use Rattle.cs_types.specs.IntType.{InRange}
use Rattle.cs_types.specs.Shape.{Shape, integer}
use Rattle.cs_ast.specs.declared.place.Place.{Place}
use Rattle.cs_ast.specs.declared.raw.expression.RawExpr.{RawExpr}
use Rattle.cs_ast.specs.RawView.{written}
use Rattle.cs_ast.specs.TypedTree.{Typed, Of, Number}
use Rattle.cs_scopes.specs.declared.context.Context.{Context}
use Rattle.cs_consts.specs.declared.purpose.Purpose.TheVariants.{Run, Constant}
use Rattle.cs_folding.specs.TypedParts.{type_of}
use Rattle.cs_expressions.specs.Integers.{raised}
use Rattle.cs_expressions.specs.Conversions.{converted}
use Rattle.cs_expressions.specs.Operators.{tested}
use Rattle.cs_expressions.specs.Primary.{Literals}
use Rattle.cs_consts.specs.Typing.{literals_after, formed, operand_in}
use Rattle.cs_consts.specs.Roles.{number_of_constant, value_of, operand_of, assigned_value, test_of, selector_of, discarded_value}
use Rattle.cs_well_formed.specs.Structs.{NamesStructs}
use Rattle.cs_well_formed.specs.Expressions.{Setting, IsWell, IsValueOf, IsScalarValue, IsIntegerValue}
use Rattle.cs_well_formed.specs.Constants.{HasConstants}
use Rattle.cs_well_formed.specs.Agreement.{Agrees}
use Rattle.cs_well_formed.specs.Laws.{TargetNames, IsTyped, FormedAreWell, OperandsAreWell, AssignedAreWell, TestsAreWell, SelectorsAreWell, DiscardedAreWell}
use Rattle.cs_well_formed.specs.Laws.{ConstantsAreInRange}
use Rattle.cs_well_formed.proofs.Verdicts.{IfFine, if_fine-at, lift-then}
use Rattle.cs_well_formed.proofs.Integers.{raised-well}
use Rattle.cs_well_formed.proofs.Conversions.{converted-well}
use Rattle.cs_well_formed.proofs.Operators.{tested-well}
use Rattle.cs_well_formed.proofs.Typing.{IsWellValue, done-well, value_in-well, operand_in-well, formed-well}

-- an expression that is evaluated, with the literals before it
module _ (s : Setting) (c : Context) (literals : Literals) (e : RawExpr) (h : IsTyped s c literals e.kind.value) where
  run-well : (target : Option Shape) → TargetNames s target → IfFine (formed c Run literals target e.place e.kind.value) (IsWell s)
  run-well target names = formed-well s c h.agrees Run literals target names e.place e.kind.value h.constants h.texts

  value-well : (target : Option Shape) → TargetNames s target
      → IfFine (operand_in c Run (formed c Run literals target e.place e.kind.value)) (IsWellValue s)
  value-well target names = operand_in-well s c h.agrees Run _ (run-well target names)

  -- an expression that must have a value
  pub operand_of-well : (target : Option Shape) → TargetNames s target → IfFine (operand_of c literals target e) (IsWellValue s)
  unfolding operand_of
  operand_of-well target names = value-well target names

  -- an expression whose value is converted to a type as if by assignment
  pub assigned_value-well : (at : Place) (target : Shape) → NamesStructs s.program.table target
      → IfFine (assigned_value c literals at target e) (λ v. IsWell s v × IsValueOf v target)
  unfolding assigned_value
  assigned_value-well at target names =
      lift-then (IsWellValue s) (λ v. IsWell s v × IsValueOf v target) (λ v. converted c.model at v target (type_of v)) _ (value-well (Some target) names)
      (λ v held. converted-well s c.model at v target (type_of v) names held.0 (held.1, refl))

  -- an expression that is tested
  pub test_of-well : (at : Place) → IfFine (test_of c literals at e) (λ v. IsWell s v × IsScalarValue v)
  unfolding test_of
  test_of-well at = lift-then (IsWellValue s) (λ v. IsWell s v × IsScalarValue v) (tested at) _ (value-well None tt)
      (λ v held. tested-well s at v held.0 held.1)

  -- an expression that controls a `switch`
  pub selector_of-well : (at : Place) → IfFine (selector_of c literals at e) (λ v. IsWell s v × IsIntegerValue v)
  unfolding selector_of
  selector_of-well at =
      lift-then (IsWellValue s) (λ v. IsWell s v × IsIntegerValue v) (λ v. raised c.model at v (type_of v)) _ (value-well None tt)
      (λ v held. raised-well s c.model at v (type_of v) held.0 (held.1, refl))

  -- an expression whose value is discarded
  pub discarded_value-well : IfFine (discarded_value c literals e) (IsWellValue s)
  unfolding discarded_value
  discarded_value-well = value_in-well s c h.agrees Run _ (run-well None tt)

-- the setting with only these literals
abbrev with_literals : Setting → Literals → Setting
with_literals s literals = record s { program = record s.program { literals = literals } }

-- agreement with a program doesn't depend on its literals
agrees-with_literals : (s : Setting) (c : Context) (literals : Literals) → Agrees s c → Agrees (with_literals s literals) c
agrees-with_literals s c literals h = record {
  model = h.model;
  table = h.table;
  declarations = h.declarations;
  named = h.named;
  types = record {
    program = record { members = h.types.program.members; globals = h.types.program.globals; routines = h.types.program.routines };
    variables = h.types.variables;
    returns = h.types.returns;
  };
}

number-InRange : (s : Setting) (c : Context) (e : Typed) → c.model ≡ s.program.model → IsWell s e
    → IfFine (number_of_constant e) (λ k. InRange c.model k.0 k.1)
number-InRange s c (Of at (integer ty) (Number n)) same well =
    let is : ty ≡ well.0 = cc in
    subst (λ m. InRange m ty n) (sym same) (subst (λ k. InRange s.program.model k n) (sym is) well.2)
number-InRange s c (Of at ty form) same well = tt

-- the number of a constant expression is in the range of its type
pub value_of-InRange : (s : Setting) (c : Context) (e : RawExpr) → Agrees s c → HasConstants (written e)
    → IfFine (value_of c e) (λ k. InRange c.model k.0 k.1)
unfolding value_of
value_of-InRange s c e h fit =
    let alone = with_literals s (literals_after [] e.kind.value) in
    let agrees = agrees-with_literals s c (literals_after [] e.kind.value) h in
    lift-then (IsWell alone) (λ k. InRange c.model k.0 k.1) number_of_constant _
    (done-well alone c agrees Constant _ (formed-well alone c agrees Constant [] None tt e.place e.kind.value fit ([], sym (append-nil _))))
    (λ v well. number-InRange alone c v h.model well)

pub formed_are_well : FormedAreWell
formed_are_well s c purpose literals target at k e h names is =
    if_fine-at (IsWell s) (formed c purpose literals target at k) e (formed-well s c h.agrees purpose literals target names at k h.constants h.texts) is

pub operands_are_well : OperandsAreWell
operands_are_well s c literals target e v h names is =
    if_fine-at (IsWellValue s) (operand_of c literals target e) v (operand_of-well s c literals e h target names) is

pub assigned_are_well : AssignedAreWell
assigned_are_well s c literals at target e v h names is =
    if_fine-at (λ r. IsWell s r × IsValueOf r target) (assigned_value c literals at target e) v (assigned_value-well s c literals e h at target names) is

pub tests_are_well : TestsAreWell
tests_are_well s c literals at e v h is = if_fine-at (λ r. IsWell s r × IsScalarValue r) (test_of c literals at e) v (test_of-well s c literals e h at) is

pub selectors_are_well : SelectorsAreWell
selectors_are_well s c literals at e v h is =
    if_fine-at (λ r. IsWell s r × IsIntegerValue r) (selector_of c literals at e) v (selector_of-well s c literals e h at) is

pub discarded_are_well : DiscardedAreWell
discarded_are_well s c literals e v h is = if_fine-at (IsWellValue s) (discarded_value c literals e) v (discarded_value-well s c literals e h) is

pub constants_are_in_range : ConstantsAreInRange
constants_are_in_range s c e ty n h fit is = if_fine-at (λ k. InRange c.model k.0 k.1) (value_of c e) (ty, n) (value_of-InRange s c e h fit) is
