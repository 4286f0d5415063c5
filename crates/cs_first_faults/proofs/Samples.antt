-- The failing positions of small trees, computed: each is a column of a line.
use Rattle.std.proofs.Common.{◌≡◌, refl, ℕ, List, [], ◌∷◌, Some, None, Box, Global}
use Rattle.std.specs.Prelude.{codes}
use Rattle.cs_types.specs.declared.data_model.DataModel.TheVariants.{Lp64}
use Rattle.cs_types.specs.declared.int_type.IntType.TheVariants.{Int}
use Rattle.cs_types.specs.Shape.{integer, pointer, struct}
use Rattle.cs_ast.specs.declared.place.Place.{Place}
use Rattle.cs_ast.specs.declared.raw.expression.RawExprKind.{RawExprKind, end_of-RawExpr, more_of-RawExpr}
use Rattle.cs_ast.specs.declared.raw.expression.RawExprKind.TheVariants as kind
use Rattle.cs_ast.specs.declared.raw.operator.AssignOp.TheVariants as assign_op
use Rattle.cs_ast.specs.declared.raw.operator.InfixOp.TheVariants as infix_op
use Rattle.cs_scopes.specs.declared.context.Context.{Context}
use Rattle.cs_scopes.specs.declared.refusal.TypeCode.TheVariants.{UnknownName, OperandTypes, IncompleteType, PointerConversion}
use Rattle.cs_scopes.specs.Meanings.{Declaration}
use Rattle.cs_scopes.specs.Meanings as meaning
use Rattle.cs_expressions.specs.Objects.{operand, valued, held}
use Rattle.cs_expressions.specs.Conversions.{converted}
use Rattle.cs_expressions.specs.Primary.{named}
use Rattle.cs_expressions.specs.Stores.{updatable, updatable_as, updated_fault, updated}
use Rattle.cs_consts.specs.Operands.{left_operand_fault}
use Rattle.cs_consts.specs.declared.purpose.Purpose.TheVariants.{Run}
use Rattle.cs_consts.specs.Constants.{finished}
use Rattle.cs_consts.specs.Typing.{done, operand_in, left_side, left_fault, stored_by}
use Rattle.cs_scopes.specs.Verdicts.{lift}
use Rattle.cs_first_faults.specs.Failures.{first_failure}
use Rattle.cs_first_faults.specs.Expressions.{failures, argument_codes, argument_failures}

abbrev column : ℕ → Place
column n = record { file = 0; line = 1; column = n }

-- a context with these declarations, after `struct q;`
abbrev declaring : List Declaration → Context
declaring declarations = record {
  model = Lp64;
  table = record { list = record { tag = codes "q"; members = None; size = 0; align = 0 } ∷ [] };
  scope = record { declarations = declarations; tags = [] };
}

-- `x + y`, with neither declared: both names fail, and the operator can't be judged
sum_of_unknown_names : (p q : Box (Unit {0}) Global)
    → failures (declaring []) Run [] None (column 3)
    (kind.Infix' infix_op.Add (column 1) p (kind.Name (codes "x")) (column 5) q (kind.Name (codes "y")))
    ≡ record { place = column 1; code = UnknownName; others = [] } ∷ record { place = column 5; code = UnknownName; others = [] } ∷ []
unfolding named done operand_in lift
sum_of_unknown_names p q = refl

-- `struct q *p;` and `p += p`: a pointer to an incomplete type can't be moved, and a pointer can't be added: two errors at the operator
pointer_to_incomplete : Declaration
pointer_to_incomplete = record { name = codes "p"; meaning = meaning.Global 0 (pointer (struct 0)) }

moved_by_itself : Box (Unit {0}) Global → Box (Unit {0}) Global → RawExprKind
moved_by_itself p q = kind.Assign' assign_op.Add (column 1) p (kind.Name (codes "p")) (column 6) q (kind.Name (codes "p"))

two_codes : (p q : Box (Unit {0}) Global)
    → failures (declaring (pointer_to_incomplete ∷ [])) Run [] None (column 3) (moved_by_itself p q)
    ≡ record { place = column 3; code = IncompleteType; others = OperandTypes ∷ [] } ∷ []
unfolding pointer_to_incomplete moved_by_itself named done finished operand_in operand valued held left_side left_fault updatable updatable_as updated_fault
    stored_by updated lift
two_codes p q = refl

least_code_counts : (p q : Box (Unit {0}) Global)
    → first_failure (failures (declaring (pointer_to_incomplete ∷ [])) Run [] None (column 3) (moved_by_itself p q)) ≡ Some (OperandTypes, column 3)
unfolding pointer_to_incomplete moved_by_itself named done finished operand_in operand valued held left_side left_fault updatable updatable_as updated_fault
    stored_by updated lift
least_code_counts p q = refl

-- `p + y`, with `y` not declared: that `p` can't be moved is an error of `p` only, and comes first
pointer_and_unknown : (p q : Box (Unit {0}) Global)
    → failures (declaring (pointer_to_incomplete ∷ [])) Run [] None (column 3)
    (kind.Infix' infix_op.Add (column 1) p (kind.Name (codes "p")) (column 5) q (kind.Name (codes "y")))
    ≡ record { place = column 3; code = IncompleteType; others = [] } ∷ record { place = column 5; code = UnknownName; others = [] } ∷ []
unfolding pointer_to_incomplete named done finished operand_in operand valued held left_operand_fault lift
pointer_and_unknown p q = refl

-- `(p, y)` for two `int`s, with `int *p;`: that `p` isn't an integer is an error at the call, and `y` isn't declared
abbrev integers_for_call : Context
integers_for_call = declaring (record { name = codes "p"; meaning = meaning.Global 0 (pointer (integer Int)) } ∷ [])

pointer_for_integer : (p q : Box (Unit {0}) Global)
    → argument_codes integers_for_call Run [] (column 2) (integer Int ∷ integer Int ∷ [])
    (more_of-RawExpr (column 3) p (kind.Name (codes "p")) (more_of-RawExpr (column 6) q (kind.Name (codes "y")) end_of-RawExpr))
    ≡ PointerConversion ∷ []
unfolding named done finished operand_in operand valued held converted lift
pointer_for_integer p q = refl

unknown_argument : (p q : Box (Unit {0}) Global)
    → argument_failures integers_for_call Run [] (integer Int ∷ integer Int ∷ [])
    (more_of-RawExpr (column 3) p (kind.Name (codes "p")) (more_of-RawExpr (column 6) q (kind.Name (codes "y")) end_of-RawExpr))
    ≡ record { place = column 6; code = UnknownName; others = [] } ∷ []
unfolding named done finished operand_in operand valued held converted lift
unknown_argument p q = refl
