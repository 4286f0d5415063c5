-- The number of nodes of a typed program, with the entries of its lists; the nodes of types aren't counted.
use Rattle.std.specs.Prelude.{ℕ, suc, ◌+◌, List, length, map, Option, Some, None}
use Rattle.std.specs.List.{sum}
use Rattle.cs_types.specs.Members.{Member}
use Rattle.cs_types.specs.declared.structs.StructType.{StructType}
use Rattle.cs_ast.specs.TypedTree.{Typed, Of, Form, Number, Null, Text, Local, Global, Through, Index, Member as MemberOf, Arrow, Load, Address, Decay, Convert}
use Rattle.cs_ast.specs.TypedTree.{Unary, Not, Binary, Compare, Sum, Difference, And, Or, Choice, Comma, Assign, Update, Move, Call, Allocate, Free, TypedList}
use Rattle.cs_ast.specs.TypedTree.{NoMore, Further, Initial, Value, Parts, Bytes, Initials, NoPart, Part, Statement, Block, Declare, Run, If, IfElse, While, Do}
use Rattle.cs_ast.specs.TypedTree.{For, Switch, Goto, Label, Break, Continue, Return, Statements, Empty, Then}
use Rattle.cs_ast.specs.TypedProgram.{TypedProgram, FileObject, Routine}

abbrev mutual
  -- the number of nodes of an expression
  pub expression_nodes : Typed → ℕ
  expression_nodes (Of at ty form) = suc (part_nodes form)

  -- the number of nodes of its parts
  pub part_nodes : Form → ℕ
  part_nodes (Number value) = 0
  part_nodes Null = 0
  part_nodes (Text literal) = 0
  part_nodes (Local declaration) = 0
  part_nodes (Global global) = 0
  part_nodes (Through e) = expression_nodes e
  part_nodes (Index array number order) = expression_nodes array + expression_nodes number
  part_nodes (MemberOf object offset) = expression_nodes object
  part_nodes (Arrow e offset) = expression_nodes e
  part_nodes (Load object) = expression_nodes object
  part_nodes (Address object) = expression_nodes object
  part_nodes (Decay array) = expression_nodes array
  part_nodes (Convert value) = expression_nodes value
  part_nodes (Unary operator operand) = expression_nodes operand
  part_nodes (Not operand) = expression_nodes operand
  part_nodes (Binary operator left right) = expression_nodes left + expression_nodes right
  part_nodes (Compare operator left right) = expression_nodes left + expression_nodes right
  part_nodes (Sum e amount direction order) = expression_nodes e + expression_nodes amount
  part_nodes (Difference left right) = expression_nodes left + expression_nodes right
  part_nodes (And left right) = expression_nodes left + expression_nodes right
  part_nodes (Or left right) = expression_nodes left + expression_nodes right
  part_nodes (Choice test one other) = expression_nodes test + expression_nodes one + expression_nodes other
  part_nodes (Comma first second) = expression_nodes first + expression_nodes second
  part_nodes (Assign object value) = expression_nodes object + expression_nodes value
  part_nodes (Update operator object value works_in gives) = expression_nodes object + expression_nodes value
  part_nodes (Move object amount direction gives) = expression_nodes object + expression_nodes amount
  part_nodes (Call function arguments) = row_nodes arguments
  part_nodes (Allocate allocator arguments element) = row_nodes arguments
  part_nodes (Free e) = expression_nodes e

  -- the number of nodes of a list of expressions
  pub row_nodes : TypedList → ℕ
  row_nodes NoMore = 0
  row_nodes (Further first others) = expression_nodes first + row_nodes others

-- the number of nodes of an optional part
abbrev pub nodes_if_any : {T : Type 0} → (T → ℕ) → Option T → ℕ
nodes_if_any count None = 0
nodes_if_any count (Some x) = count x

abbrev mutual
  -- the number of nodes of an initializer, with the bytes of its string literals
  pub initial_nodes : Initial → ℕ
  initial_nodes (Value value) = suc (expression_nodes value)
  initial_nodes (Parts parts) = suc (initials_nodes parts)
  initial_nodes (Bytes bytes) = suc (length bytes)

  pub initials_nodes : Initials → ℕ
  initials_nodes NoPart = 0
  initials_nodes (Part first others) = initial_nodes first + initials_nodes others

abbrev mutual
  -- the number of nodes of a statement, with the cases of a `switch`
  pub statement_nodes : Statement → ℕ
  statement_nodes (Block at statements) = suc (statements_nodes statements)
  statement_nodes (Declare at declaration initial) = suc (nodes_if_any initial_nodes initial)
  statement_nodes (Run at e) = suc (expression_nodes e)
  statement_nodes (If at test body) = suc (expression_nodes test + statement_nodes body)
  statement_nodes (IfElse at test body other) = suc (expression_nodes test + statement_nodes body + statement_nodes other)
  statement_nodes (While at test body) = suc (expression_nodes test + statement_nodes body)
  statement_nodes (Do at body test) = suc (statement_nodes body + expression_nodes test)
  statement_nodes (For at first test last body) =
      suc (statements_nodes first + nodes_if_any expression_nodes test + nodes_if_any expression_nodes last + statement_nodes body)
  statement_nodes (Switch at value cases statements) = suc (expression_nodes value + length cases + statements_nodes statements)
  statement_nodes (Goto at label) = 1
  statement_nodes (Label at label body) = suc (statement_nodes body)
  statement_nodes (Break at) = 1
  statement_nodes (Continue at) = 1
  statement_nodes (Return at value) = suc (nodes_if_any expression_nodes value)

  -- the number of nodes of a list of statements
  pub statements_nodes : Statements → ℕ
  statements_nodes Empty = 0
  statements_nodes (Then first others) = statement_nodes first + statements_nodes others

-- the sum for a list
abbrev pub all_nodes : {T : Type 0} → (T → ℕ) → List T → ℕ
all_nodes count list = sum (map count list)

-- a struct with its members
abbrev pub struct_nodes : StructType → ℕ
struct_nodes s = suc (nodes_if_any (λ (members : List Member). length members) s.members)

-- a string literal with its bytes
abbrev pub literal_nodes : List ℕ → ℕ
literal_nodes bytes = suc (length bytes)

-- a file-scope object with its initializer
abbrev pub object_nodes : FileObject → ℕ
object_nodes g = suc (nodes_if_any initial_nodes g.initial)

-- a function with its variables, its marks and its body
abbrev pub routine_nodes : Routine → ℕ
routine_nodes r = suc (length r.variables + length r.written + nodes_if_any statement_nodes r.body)

-- a program with all of its lists
abbrev pub program_nodes : TypedProgram → ℕ
program_nodes p =
    length p.files + all_nodes struct_nodes p.table + all_nodes object_nodes p.globals + all_nodes literal_nodes p.literals
    + all_nodes routine_nodes p.routines + length p.constants
