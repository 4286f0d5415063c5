-- Integer functions: their parameters and locals are integers, and their expressions are numbers, loads and stores of locals, conversions and operators
-- of integers. They use no pointer, no struct and no file-scope object, and call nothing. Every kind of statement may occur.
use Rattle.std.specs.Prelude.{◌≡◌, ℕ, Bool, true, false, ◌&&◌, List, [], ◌∷◌, Option, None, Some}
use Rattle.cs_types.specs.Shape.{Shape, integer}
use Rattle.cs_ast.specs.TypedTree.{Typed, Of, Form, Number, Local, Load, Convert, Unary, Not, Binary, Compare, And, Or, Choice, Comma, Assign, Update}
use Rattle.cs_ast.specs.TypedTree.{Initial, Value, Statement, Block, Declare, Run, If, IfElse, While, Do, For, Switch, Goto, Label, Break, Continue, Return}
use Rattle.cs_ast.specs.TypedTree.{Statements, Empty, Then}
use Rattle.cs_ast.specs.TypedProgram.{TypedProgram, Routine, Variable}
use Rattle.cs_meaning.specs.Machine.{routine_of}

abbrev mutual
  -- an expression and all its parts have these forms
  pub is_integer : Typed → Bool
  is_integer (Of at ty form) = is_integer_form form

  pub is_integer_form : Form → Bool
  is_integer_form (Number n) = true
  is_integer_form (Local declaration) = true
  is_integer_form (Load object) = is_integer object
  is_integer_form (Convert value) = is_integer value
  is_integer_form (Unary operator operand) = is_integer operand
  is_integer_form (Not operand) = is_integer operand
  is_integer_form (Binary operator left right) = is_integer left && is_integer right
  is_integer_form (Compare operator left right) = is_integer left && is_integer right
  is_integer_form (And left right) = is_integer left && is_integer right
  is_integer_form (Or left right) = is_integer left && is_integer right
  is_integer_form (Choice test one other) = is_integer test && (is_integer one && is_integer other)
  is_integer_form (Comma first second) = is_integer first && is_integer second
  is_integer_form (Assign object value) = is_integer object && is_integer value
  is_integer_form (Update operator object value works_in gives) = is_integer object && is_integer value
  is_integer_form other = false

-- a missing expression has no other form
abbrev pub is_integer_if_any : Option Typed → Bool
is_integer_if_any None = true
is_integer_if_any (Some e) = is_integer e

-- a local is unset at first, or its initializer is such an expression
abbrev pub is_integer_initial : Option Initial → Bool
is_integer_initial None = true
is_integer_initial (Some (Value e)) = is_integer e
is_integer_initial (Some other) = false

abbrev mutual
  -- a statement has only such expressions
  pub is_integer_statement : Statement → Bool
  is_integer_statement (Block at statements) = are_integer_statements statements
  is_integer_statement (Declare at declaration initial) = is_integer_initial initial
  is_integer_statement (Run at e) = is_integer e
  is_integer_statement (If at test body) = is_integer test && is_integer_statement body
  is_integer_statement (IfElse at test body other) = is_integer test && (is_integer_statement body && is_integer_statement other)
  is_integer_statement (While at test body) = is_integer test && is_integer_statement body
  is_integer_statement (Do at body test) = is_integer_statement body && is_integer test
  is_integer_statement (For at first test last body) =
      are_integer_statements first && (is_integer_statement body && (is_integer_if_any test && is_integer_if_any last))
  is_integer_statement (Switch at value cases statements) = is_integer value && are_integer_statements statements
  is_integer_statement (Goto at label) = true
  is_integer_statement (Label at label body) = is_integer_statement body
  is_integer_statement (Break at) = true
  is_integer_statement (Continue at) = true
  is_integer_statement (Return at value) = is_integer_if_any value

  pub are_integer_statements : Statements → Bool
  are_integer_statements Empty = true
  are_integer_statements (Then first others) = is_integer_statement first && are_integer_statements others

abbrev pub is_integer_type : Shape → Bool
is_integer_type (integer ty) = true
is_integer_type other = false

abbrev pub are_integer_variables : List Variable → Bool
are_integer_variables [] = true
are_integer_variables (v ∷ others) = is_integer_type v.ty && are_integer_variables others

abbrev pub is_integer_body : Option Statement → Bool
is_integer_body None = false
is_integer_body (Some body) = is_integer_statement body

-- a function with a body that is an integer function
abbrev pub is_integer_routine : Routine → Bool
is_integer_routine routine = are_integer_variables routine.variables && is_integer_body routine.body

-- the function of a program with this number is an integer function
abbrev pub IsIntegerFunction : TypedProgram → ℕ → Type 0
IsIntegerFunction program function = is_integer_routine (routine_of program function) ≡ true
