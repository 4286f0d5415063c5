-- Whether a keyword refuses a test depends only on the test's type.
use Rattle.std.proofs.Common.{◌≡◌, refl, sym, ap, ◌∙◌, Bool, true, false, if◌then◌else◌, List, [], Some, None}
use Rattle.cs_types.specs.Kinds.{is_scalar}
use Rattle.cs_ast.specs.declared.place.Place.{Place}
use Rattle.cs_ast.specs.declared.raw.expression.RawExpr.{RawExpr}
use Rattle.cs_ast.specs.TypedTree.{Typed}
use Rattle.cs_scopes.specs.declared.context.Context.{Context}
use Rattle.cs_scopes.specs.declared.refusal.TypeCode.TheVariants.{OperandTypes}
use Rattle.cs_scopes.specs.Faults.{code_in}
use Rattle.cs_scopes.specs.Verdicts.{Fine, Fault}
use Rattle.cs_folding.specs.TypedParts.{type_of}
use Rattle.cs_expressions.specs.Operators.{tested}
use Rattle.cs_expressions.specs.Primary.{Literals}
use Rattle.cs_consts.specs.Operands.{scalar_fault}
use Rattle.cs_consts.specs.Roles.{operand_of, testing_fault, test_fault}

tested_by_type : (at : Place) (v : Typed) → scalar_fault (type_of v) ≡ code_in (tested at v)
unfolding tested
tested_by_type at v = by_test (is_scalar (type_of v)) where
  by_test : (b : Bool) → (if b then None else Some OperandTypes) ≡ code_in (if b then Fine v else Fault OperandTypes at)
  by_test true = refl
  by_test false = refl

pub test_said : (c : Context) (literals : Literals) (e : RawExpr) (at : Place) (v : Typed) → literals ≡ [] → operand_of c literals None e ≡ Fine v
    → scalar_fault (type_of v) ≡ test_fault c at e
unfolding test_fault
test_said c literals e at v none is =
    tested_by_type at v ∙ ap (testing_fault at) (sym (ap (λ l. operand_of c l None e) (sym none) ∙ is))
