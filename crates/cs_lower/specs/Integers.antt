-- Functions that work with integers only, as the lowering sees them: a recursion over the syntax. In a function with `count` locals their
-- expressions are numbers, the values of its integer variables, and operators on integers, conversions and stores of these;
-- every statement may occur. The code of such a function is integer code.
use Rattle.std.specs.Prelude.{◌≡◌, ◌<◌, ℕ, List, [], ◌∷◌, Option, Some, None, All}
use Rattle.cs_types.specs.declared.int_type.IntType.{IntType}
use Rattle.cs_types.specs.Shape.{integer}
use Rattle.cs_ast.specs.declared.place.Place.{Place}
use Rattle.cs_ast.specs.TypedTree.{Typed, Of, Form, Number, Local, Load, Convert, Unary, Not, Binary, Compare, And, Or, Choice, Comma, Assign, Update}
use Rattle.cs_ast.specs.TypedTree.{Initial, Value, Statement, Block, Declare, Run, If, IfElse, While, Do, For, Switch, Goto, Label, Break, Continue, Return}
use Rattle.cs_ast.specs.TypedTree.{Statements, Empty, Then}
use Rattle.cs_ast.specs.TypedProgram.{TypedProgram}
use Rattle.cs_meaning.specs.Initials.{Piece, Evaluated}
use Rattle.cs_meaning.specs.Machine.{routine_of}
use Rattle.cs_cfg.specs.Graph.{Point, Code}
use Rattle.cs_cfg.specs.IntegerCode.{count_of_locals, IsIntegerPoint, HasIntegerCode}

-- an object is an integer variable of the function
pub record IsIntegerLocal (count : ℕ) (object : Typed) : Type 0 where
  pub at : Place
  pub ty : IntType
  pub declaration : ℕ
  pub is : object ≡ Of at (integer ty) (Local declaration)
  pub below : declaration < count

abbrev mutual
  -- an expression works with integers only
  pub IsOfIntegers : ℕ → Typed → Type 0
  IsOfIntegers count (Of at ty form) = FormIsOfIntegers count form

  pub FormIsOfIntegers : ℕ → Form → Type 0
  FormIsOfIntegers count (Number n) = Unit {0}
  FormIsOfIntegers count (Local declaration) = declaration < count
  FormIsOfIntegers count (Load object) = IsIntegerLocal count object
  FormIsOfIntegers count (Convert a) = IsOfIntegers count a
  FormIsOfIntegers count (Unary op a) = IsOfIntegers count a
  FormIsOfIntegers count (Not a) = IsOfIntegers count a
  FormIsOfIntegers count (Binary op a b) = IsOfIntegers count a × IsOfIntegers count b
  FormIsOfIntegers count (Compare op a b) = IsOfIntegers count a × IsOfIntegers count b
  FormIsOfIntegers count (And a b) = IsOfIntegers count a × IsOfIntegers count b
  FormIsOfIntegers count (Or a b) = IsOfIntegers count a × IsOfIntegers count b
  FormIsOfIntegers count (Choice a b c) = IsOfIntegers count a × IsOfIntegers count b × IsOfIntegers count c
  FormIsOfIntegers count (Comma a b) = IsOfIntegers count a × IsOfIntegers count b
  FormIsOfIntegers count (Assign object b) = IsIntegerLocal count object × IsOfIntegers count b
  FormIsOfIntegers count (Update op object b works_in gives) = IsIntegerLocal count object × IsOfIntegers count b
  FormIsOfIntegers count other = ⊥

-- an optional expression
abbrev pub OptionIsOfIntegers : ℕ → Option Typed → Type 0
OptionIsOfIntegers count None = Unit {0}
OptionIsOfIntegers count (Some e) = IsOfIntegers count e

-- a variable begins unset, or with such a value
abbrev pub InitialIsOfIntegers : ℕ → Option Initial → Type 0
InitialIsOfIntegers count None = Unit {0}
InitialIsOfIntegers count (Some (Value e)) = IsOfIntegers count e
InitialIsOfIntegers count (Some other) = ⊥

-- the pieces of an initializer
abbrev pub PiecesAreOfIntegers : ℕ → List Piece → Type 0
PiecesAreOfIntegers count [] = Unit {0}
PiecesAreOfIntegers count (Evaluated offset e ∷ others) = IsOfIntegers count e × PiecesAreOfIntegers count others
PiecesAreOfIntegers count (other ∷ others) = ⊥

abbrev mutual
  -- a statement works with integers only
  pub StatementIsOfIntegers : ℕ → Statement → Type 0
  StatementIsOfIntegers count (Block at statements) = StatementsAreOfIntegers count statements
  StatementIsOfIntegers count (Declare at declaration initial) = (declaration < count) × InitialIsOfIntegers count initial
  StatementIsOfIntegers count (Run at e) = IsOfIntegers count e
  StatementIsOfIntegers count (If at test body) = IsOfIntegers count test × StatementIsOfIntegers count body
  StatementIsOfIntegers count (IfElse at test body other) =
      IsOfIntegers count test × StatementIsOfIntegers count body × StatementIsOfIntegers count other
  StatementIsOfIntegers count (While at test body) = IsOfIntegers count test × StatementIsOfIntegers count body
  StatementIsOfIntegers count (Do at body test) = StatementIsOfIntegers count body × IsOfIntegers count test
  StatementIsOfIntegers count (For at first test last body) =
      StatementsAreOfIntegers count first × OptionIsOfIntegers count test × OptionIsOfIntegers count last × StatementIsOfIntegers count body
  StatementIsOfIntegers count (Switch at value cases statements) = IsOfIntegers count value × StatementsAreOfIntegers count statements
  StatementIsOfIntegers count (Goto at label) = Unit {0}
  StatementIsOfIntegers count (Label at label body) = StatementIsOfIntegers count body
  StatementIsOfIntegers count (Break at) = Unit {0}
  StatementIsOfIntegers count (Continue at) = Unit {0}
  StatementIsOfIntegers count (Return at value) = OptionIsOfIntegers count value

  -- consecutive statements
  pub StatementsAreOfIntegers : ℕ → Statements → Type 0
  StatementsAreOfIntegers count Empty = Unit {0}
  StatementsAreOfIntegers count (Then first others) = StatementIsOfIntegers count first × StatementsAreOfIntegers count others

-- the function of a program with a number
abbrev pub FunctionIsOfIntegers : TypedProgram → ℕ → Type 0
FunctionIsOfIntegers program function = (body : Statement) → (routine_of program function).body ≡ Some body
    → StatementIsOfIntegers (count_of_locals program function) body

-- the code of each integer function is integer code
abbrev pub KeepsIntegers : Code → TypedProgram → Type 0
KeepsIntegers code program = (function : ℕ) → FunctionIsOfIntegers program function → HasIntegerCode code program function

-- new blocks, made from old ones, are integer code if those are, in a function with `count` locals
pub record AddsIntegers (count : ℕ) (old new : List Point) : Type 0 where
  pub keeps : All (IsIntegerPoint count) old → All (IsIntegerPoint count) new
