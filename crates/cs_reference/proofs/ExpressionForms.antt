-- The acts of expressions of some forms: for the contracts of `act` and `fetch`.
use Rattle.std.proofs.Common.{◌≡◌, ℕ, Vec, Global, length, sym, ap, ◌∙◌}
use Rattle.cs_types.specs.declared.ctype.CType.{CType}
use Rattle.cs_types.specs.Shape.{shape_of}
use Rattle.cs_ast.specs.declared.typed.expression.Expr.{Expr}
use Rattle.cs_ast.specs.declared.typed.expression.ExprKind.TheVariants as kind
use Rattle.cs_types.specs.declared.int_type.IntType.{IntType}
use Rattle.cs_ast.specs.declared.typed.operator.Allocator.{Allocator}
use Rattle.cs_ast.specs.declared.typed.operator.BinOp.{BinOp}
use Rattle.cs_ast.specs.declared.typed.operator.Direction.{Direction}
use Rattle.cs_ast.specs.declared.typed.operator.Gives.{Gives}
use Rattle.cs_ast.specs.TypedProgram.{TypedProgram}
use Rattle.cs_ast.specs.TypedTree.{Form}
use Rattle.cs_ast.specs.TypedView.{form, typed}
use Rattle.cs_ast.proofs.TypedRows.{form-Call, form-Allocate}
use Rattle.cs_events.specs.declared.outcome.RunBudgets.{RunBudgets}
use Rattle.cs_meaning.specs.Calls.{call, allocate}
use Rattle.cs_meaning.specs.Access.{access_of}
use Rattle.cs_meaning.specs.Expressions.{act, act_form, fetch, fetch_form}
use Rattle.cs_meaning.specs.Machine.{State}
use Rattle.cs_run_state.specs.Updates.{fetch_number_act, update_act, move_act}
use Rattle.cs_objects.proofs.StatementForms.{count_all-list}
use Rattle.cs_reference.specs.Acting.{size_of_target}

module _ (program : TypedProgram) (budgets : RunBudgets) (e : Expr) (m : State) where
  -- a call, with this many arguments
  pub call_act : (function : ℕ) (arguments : Vec Expr Global) (count : ℕ) → e.kind.value ≡ kind.Call function arguments
      → count ≡ length arguments.items → act program budgets (typed e) m ≡ call program budgets e.place function count m
  call_act function arguments count is counted =
      ap (λ (f : Form). act_form program budgets e.place (shape_of e.ty) f m) (ap form is ∙ form-Call function arguments)
      ∙ ap (λ (n : ℕ). call program budgets e.place function n m) (count_all-list arguments.items ∙ sym counted)

  -- a call of `malloc` or `calloc`
  pub allocate_act : (allocator : Allocator) (arguments : Vec Expr Global) (element : CType) → e.kind.value ≡ kind.Allocate allocator arguments element
      → act program budgets (typed e) m ≡ allocate program e.place allocator (shape_of element) m
  allocate_act allocator arguments element is =
      ap (λ (f : Form). act_form program budgets e.place (shape_of e.ty) f m) (ap form is ∙ form-Allocate allocator arguments element)

  -- an update of a number
  pub update_is : (operator : BinOp) (object value : Expr) (works_in : IntType) (gives : Gives)
      → e.kind.value ≡ kind.Update operator object value works_in gives
      → act program budgets (typed e) m ≡ update_act program e.place operator (access_of (typed object)) works_in gives m
  update_is operator object value works_in gives is =
      ap (λ (f : Form). act_form program budgets e.place (shape_of e.ty) f m) (ap form is)

  -- an update of a pointer
  pub move_is : (object value : Expr) (direction : Direction) (gives : Gives) → e.kind.value ≡ kind.Move object value direction gives
      → act program budgets (typed e) m ≡ move_act program e.place (access_of (typed object)) (size_of_target program (typed object)) direction gives m
  move_is object value direction gives is =
      ap (λ (f : Form). act_form program budgets e.place (shape_of e.ty) f m) (ap form is)

  -- the load of an update of a number
  pub fetch_number_is : (operator : BinOp) (object value : Expr) (works_in : IntType) (gives : Gives)
      → e.kind.value ≡ kind.Update operator object value works_in gives
      → fetch program (typed e) m ≡ fetch_number_act program e.place (access_of (typed object)) works_in m
  fetch_number_is operator object value works_in gives is =
      ap (λ (f : Form). fetch_form program e.place f m) (ap form is)
