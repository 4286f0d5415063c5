-- In a well-formed program an integer function has integers only, as lowering sees it: its variables exist, and what it loads from and
-- stores to is one of them. By recursion over the typed tree.
use Rattle.std.proofs.Common.{◌≡◌, ℕ, zero, suc, true, ◌&&◌, List, [], ◌∷◌, length, Option, Some, None, refl, sym, subst}
use Rattle.std.specs.Prelude.{IfSome, slice_get, unwrap_or}
use Rattle.std.specs.List.{AllByRecursion}
use Rattle.std.proofs.lemmas.Bool.{and_from, and_parts, false≢true}
use Rattle.std.proofs.lemmas.List.Elements.{recursion_from_All}
use Rattle.std.proofs.lemmas.Option.{slice_get_within}
use Rattle.cs_types.specs.declared.int_type.IntType.{IntType}
use Rattle.cs_types.specs.Shape.{Shape, integer}
use Rattle.cs_ast.specs.TypedTree.{Typed, Of, Form, Number, Local, Load, Convert, Unary, Not, Binary, Compare, And, Or, Choice, Comma, Assign, Update}
use Rattle.cs_ast.specs.TypedTree.{Initial, Value, Statement, Block, Declare, Run, If, IfElse, While, Do, For, Switch, Goto, Label, Break, Continue, Return}
use Rattle.cs_ast.specs.TypedTree.{Statements, Empty, Then}
use Rattle.cs_ast.specs.TypedProgram.{TypedProgram, Routine, Variable}
use Rattle.cs_meaning.specs.Machine.{NOWHERE, no_routine}
use Rattle.cs_cfg.specs.Graph.{Code}
use Rattle.cs_cfg.specs.IntegerCode.{HasIntegerCode}
use Rattle.cs_expressions.specs.Objects.{is_object}
use Rattle.cs_integer_functions.specs.IntegerFunctions.{is_integer, is_integer_form, is_integer_if_any, is_integer_initial, is_integer_statement}
use Rattle.cs_integer_functions.specs.IntegerFunctions.{are_integer_statements, is_integer_type, are_integer_variables, is_integer_body, is_integer_routine}
use Rattle.cs_integer_functions.specs.IntegerFunctions.{IsIntegerFunction}
use Rattle.cs_lower.specs.Integers.{IsIntegerLocal, IsOfIntegers, FormIsOfIntegers, OptionIsOfIntegers, InitialIsOfIntegers, StatementIsOfIntegers}
use Rattle.cs_lower.specs.Integers.{StatementsAreOfIntegers, FunctionIsOfIntegers, KeepsIntegers}
use Rattle.cs_well_formed.specs.Expressions.{Setting, IsObject, IsWell, IsWellForm}
use Rattle.cs_well_formed.specs.Initials.{IsWellInitial}
use Rattle.cs_well_formed.specs.Statements.{IsDroppedIfAny, IsTestIfAny, IsReturned, IsWellStatement, AreWellStatements}
use Rattle.cs_well_formed.specs.Programs.{setting_of, IsWellBody, IsWellRoutine, IsWellFormed}

integer_of : (ty : Shape) → is_integer_type ty ≡ true → (kind : IntType) × (ty ≡ integer kind)
integer_of (integer kind) is = (kind, refl)
integer_of other is = absurd (false≢true is)

-- each variable of such a function is an integer
variable_is : (variables : List Variable) (number : ℕ) (v : Variable) → are_integer_variables variables ≡ true → slice_get variables number ≡ Some v
    → (kind : IntType) × (v.ty ≡ integer kind)
variable_is [] number v all there = absurd cc
variable_is (w ∷ others) zero v all there =
    let same : w ≡ v = cc in
    subst (λ (x : Variable). (kind : IntType) × (x.ty ≡ integer kind)) same
    (integer_of w.ty (and_parts (is_integer_type w.ty) (are_integer_variables others) all).0)
variable_is (w ∷ others) (suc number) v all there = variable_is others number v (and_parts (is_integer_type w.ty) (are_integer_variables others) all).1 there

-- the only one of these forms that is an object
local_form : (form : Form) → (is_object form && is_integer_form form) ≡ true → (declaration : ℕ) × (form ≡ Local declaration)
local_form (Local declaration) is = (declaration, refl)
local_form other is = absurd (false≢true is)

module _ (s : Setting) (all : are_integer_variables s.variables ≡ true) where
  object_integers : (e : Typed) → is_integer e ≡ true → IsWell s e → IsObject e → IsIntegerLocal (length s.variables) e
  object_integers (Of at ty form) is well object =
      let local = local_form form (and_from (is_object form) (is_integer_form form) object is) in
      let declared = subst (λ f. IsWellForm s ty f) local.1 well in
      let kind = variable_is s.variables local.0 declared.0 all declared.1 in
      record {
        at = at;
        ty = kind.0;
        declaration = local.0;
        is = subst (λ f. Of at ty f ≡ Of at (integer kind.0) (Local local.0)) (sym local.1)
            (subst (λ t. Of at t (Local local.0) ≡ Of at (integer kind.0) (Local local.0)) declared.2
            (subst (λ t. Of at t (Local local.0) ≡ Of at (integer kind.0) (Local local.0)) (sym kind.1) refl));
        below = slice_get_within s.variables local.0 declared.0 declared.1;
      }

  mutual
    well_integers : (e : Typed) → is_integer e ≡ true → IsWell s e → IsOfIntegers (length s.variables) e
    well_integers (Of at ty form) is well = form_integers ty form is well

    form_integers : (ty : Shape) (form : Form) → is_integer_form form ≡ true → IsWellForm s ty form → FormIsOfIntegers (length s.variables) form
    form_integers ty (Number n) is well = tt
    form_integers ty (Local declaration) is well = slice_get_within s.variables declaration well.0 well.1
    form_integers ty (Load object) is well = object_integers object is well.0 well.1
    form_integers ty (Convert a) is well = well_integers a is well.0
    form_integers ty (Unary op a) is well = well_integers a is well.0
    form_integers ty (Not a) is well = well_integers a is well.0
    form_integers ty (Binary op a b) is well =
        let parts = and_parts (is_integer a) (is_integer b) is in
        (well_integers a parts.0 well.0, well_integers b parts.1 well.1)
    form_integers ty (Compare op a b) is well =
        let parts = and_parts (is_integer a) (is_integer b) is in
        (well_integers a parts.0 well.0, well_integers b parts.1 well.1)
    form_integers ty (And a b) is well =
        let parts = and_parts (is_integer a) (is_integer b) is in
        (well_integers a parts.0 well.0, well_integers b parts.1 well.1)
    form_integers ty (Or a b) is well =
        let parts = and_parts (is_integer a) (is_integer b) is in
        (well_integers a parts.0 well.0, well_integers b parts.1 well.1)
    form_integers ty (Choice a b c) is well =
        let parts = and_parts (is_integer a) (is_integer b && is_integer c) is in
        let ways = and_parts (is_integer b) (is_integer c) parts.1 in
        (well_integers a parts.0 well.0, well_integers b ways.0 well.1, well_integers c ways.1 well.2)
    form_integers ty (Comma a b) is well =
        let parts = and_parts (is_integer a) (is_integer b) is in
        (well_integers a parts.0 well.0, well_integers b parts.1 well.1)
    form_integers ty (Assign object b) is well =
        let parts = and_parts (is_integer object) (is_integer b) is in
        (object_integers object parts.0 well.0 well.2, well_integers b parts.1 well.1)
    form_integers ty (Update op object b works_in gives) is well =
        let parts = and_parts (is_integer object) (is_integer b) is in
        (object_integers object parts.0 well.0 well.2, well_integers b parts.1 well.1)
    form_integers ty other is well = absurd (false≢true is)

  test_integers : (test : Option Typed) → is_integer_if_any test ≡ true → IsTestIfAny s test → OptionIsOfIntegers (length s.variables) test
  test_integers None is well = tt
  test_integers (Some e) is well = well_integers e is well.0

  dropped_integers : (last : Option Typed) → is_integer_if_any last ≡ true → IsDroppedIfAny s last → OptionIsOfIntegers (length s.variables) last
  dropped_integers None is well = tt
  dropped_integers (Some e) is well = well_integers e is well.0

  returned_integers : (value : Option Typed) → is_integer_if_any value ≡ true → IsReturned s value → OptionIsOfIntegers (length s.variables) value
  returned_integers None is well = tt
  returned_integers (Some e) is well = well_integers e is well.0

  first_integers : (ty : Shape) (first : Option Initial) → is_integer_initial first ≡ true → IfSome first (λ i. IsWellInitial s ty i)
      → InitialIsOfIntegers (length s.variables) first
  first_integers ty None is well = tt
  first_integers ty (Some (Value e)) is well = well_integers e is well.0
  first_integers ty (Some other) is well = absurd (false≢true is)

  mutual
    statement_integers : (statement : Statement) → is_integer_statement statement ≡ true → IsWellStatement s statement
        → StatementIsOfIntegers (length s.variables) statement
    statement_integers (Block at statements) is well = statements_integers statements is well
    statement_integers (Declare at number first) is well =
        (slice_get_within s.variables number well.0 well.1, first_integers well.0.ty first is well.2)
    statement_integers (Run at e) is well = well_integers e is well.0
    statement_integers (If at test body) is well =
        let parts = and_parts (is_integer test) (is_integer_statement body) is in
        (well_integers test parts.0 well.0, statement_integers body parts.1 well.2)
    statement_integers (IfElse at test body other) is well =
        let parts = and_parts (is_integer test) (is_integer_statement body && is_integer_statement other) is in
        let ways = and_parts (is_integer_statement body) (is_integer_statement other) parts.1 in
        (well_integers test parts.0 well.0, statement_integers body ways.0 well.2, statement_integers other ways.1 well.3)
    statement_integers (While at test body) is well =
        let parts = and_parts (is_integer test) (is_integer_statement body) is in
        (well_integers test parts.0 well.0, statement_integers body parts.1 well.2)
    statement_integers (Do at body test) is well =
        let parts = and_parts (is_integer_statement body) (is_integer test) is in
        (statement_integers body parts.0 well.2, well_integers test parts.1 well.0)
    statement_integers (For at first test last body) is well =
        let of_test = is_integer_if_any test in
        let of_last = is_integer_if_any last in
        let parts = and_parts (are_integer_statements first) (is_integer_statement body && (of_test && of_last)) is in
        let others = and_parts (is_integer_statement body) (of_test && of_last) parts.1 in
        let ends = and_parts of_test of_last others.1 in (
          statements_integers first parts.0 well.0,
          test_integers test ends.0 well.1,
          dropped_integers last ends.1 well.2,
          statement_integers body others.0 well.3,
        )
    statement_integers (Switch at value cases statements) is well =
        let parts = and_parts (is_integer value) (are_integer_statements statements) is in
        (well_integers value parts.0 well.0, statements_integers statements parts.1 well.3)
    statement_integers (Goto at label) is well = tt
    statement_integers (Label at label body) is well = statement_integers body is well.1
    statement_integers (Break at) is well = tt
    statement_integers (Continue at) is well = tt
    statement_integers (Return at value) is well = returned_integers value is well

    statements_integers : (statements : Statements) → are_integer_statements statements ≡ true → AreWellStatements s statements
        → StatementsAreOfIntegers (length s.variables) statements
    statements_integers Empty is well = tt
    statements_integers (Then first others) is well =
        let parts = and_parts (is_integer_statement first) (are_integer_statements others) is in
        (statement_integers first parts.0 well.0, statements_integers others parts.1 well.1)

-- a function with a number, among well-formed ones
abbrev the_routine : List Routine → ℕ → Routine
the_routine routines function = unwrap_or (slice_get routines function) (no_routine NOWHERE)

no_body : (function : ℕ) (body : Statement) → (the_routine [] function).body ≡ Some body → ⊥
no_body function body is = cc

routine_integers : (p : TypedProgram) (routines : List Routine) → AllByRecursion (IsWellRoutine p) routines → (function : ℕ) (body : Statement)
    → is_integer_routine (the_routine routines function) ≡ true → (the_routine routines function).body ≡ Some body
    → StatementIsOfIntegers (length (the_routine routines function).variables) body
routine_integers p [] h function body integers is = absurd (no_body function body is)
routine_integers p (r ∷ routines) h zero body integers is =
    let well : IsWellBody p r body = subst (λ b. IfSome b (IsWellBody p r)) is h.0.body in
    let parts = and_parts (are_integer_variables r.variables) (is_integer_body r.body) integers in
    statement_integers (setting_of p r body) parts.0 body (subst (λ b. is_integer_body b ≡ true) is parts.1) well.statement
routine_integers p (r ∷ routines) h (suc function) body integers is = routine_integers p routines h.1 function body integers is

-- an integer function
pub function_integers : (p : TypedProgram) → IsWellFormed p → (function : ℕ) → IsIntegerFunction p function → FunctionIsOfIntegers p function
function_integers p h function integers body is =
    routine_integers p p.routines (recursion_from_All (IsWellRoutine p) p.routines h.routines) function body integers is

-- and its code
pub integer_code : (p : TypedProgram) (code : Code) → IsWellFormed p → KeepsIntegers code p
    → (function : ℕ) → IsIntegerFunction p function → HasIntegerCode code p function
integer_code p code h keeps function integers = keeps function (function_integers p h function integers)
