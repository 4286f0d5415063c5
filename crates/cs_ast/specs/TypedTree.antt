-- Typed expressions and statements as plain data, with positions and types: the meaning of a program is stated over them.
use Rattle.std.specs.Prelude.{ℕ, ℤ, suc, List, Option}
use Rattle.cs_types.specs.declared.int_type.IntType.{IntType}
use Rattle.cs_types.specs.Shape.{Shape}
use Rattle.cs_ast.specs.declared.place.Place.{Place}
use Rattle.cs_ast.specs.declared.typed.operator.BinOp.{BinOp}
use Rattle.cs_ast.specs.declared.typed.operator.UnOp.{UnOp}
use Rattle.cs_ast.specs.declared.typed.operator.CmpOp.{CmpOp}
use Rattle.cs_ast.specs.declared.typed.operator.Direction.{Direction}
use Rattle.cs_ast.specs.declared.typed.operator.Gives.{Gives}
use Rattle.cs_ast.specs.declared.typed.operator.Order.{Order}
use Rattle.cs_ast.specs.declared.typed.operator.Allocator.{Allocator}
use Rattle.cs_ast.specs.declared.typed.statement.Case.{Case}

mutual
  -- an expression with its position and its type
  pub data Typed : Type 0 where
    Of : (at : Place) (ty : Shape) (form : Form) → Typed

  -- the form of an expression
  pub data Form : Type 0 where
    Number : (value : ℤ) → Form
    Null : Form
    Text : (literal : ℕ) → Form
    Local : (declaration : ℕ) → Form
    Global : (global : ℕ) → Form
    Through : (pointer : Typed) → Form
    Index : (array number : Typed) (order : Order) → Form
    Member : (object : Typed) (offset : ℕ) → Form
    Arrow : (pointer : Typed) (offset : ℕ) → Form
    Load : (object : Typed) → Form
    Address : (object : Typed) → Form
    Decay : (array : Typed) → Form
    Convert : (value : Typed) → Form
    Unary : (operator : UnOp) (operand : Typed) → Form
    Not : (operand : Typed) → Form
    Binary : (operator : BinOp) (left right : Typed) → Form
    Compare : (operator : CmpOp) (left right : Typed) → Form
    Sum : (pointer amount : Typed) (direction : Direction) (order : Order) → Form
    Difference : (left right : Typed) → Form
    And : (left right : Typed) → Form
    Or : (left right : Typed) → Form
    Choice : (test one other : Typed) → Form
    Comma : (first second : Typed) → Form
    Assign : (object value : Typed) → Form
    Update : (operator : BinOp) (object value : Typed) (works_in : IntType) (gives : Gives) → Form
    Move : (object amount : Typed) (direction : Direction) (gives : Gives) → Form
    Call : (function : ℕ) (arguments : TypedList) → Form
    Allocate : (allocator : Allocator) (arguments : TypedList) (element : Shape) → Form
    Free : (pointer : Typed) → Form

  -- a list of expressions
  pub data TypedList : Type 0 where
    NoMore : TypedList
    Further : (first : Typed) (others : TypedList) → TypedList

mutual
  -- an initializer: a value, the initializers of its parts, or the bytes of a string literal
  pub data Initial : Type 0 where
    Value : (value : Typed) → Initial
    Parts : (parts : Initials) → Initial
    Bytes : (bytes : List ℕ) → Initial

  pub data Initials : Type 0 where
    NoPart : Initials
    Part : (first : Initial) (others : Initials) → Initials

mutual
  -- a statement with its position
  pub data Statement : Type 0 where
    Block : (at : Place) (statements : Statements) → Statement
    Declare : (at : Place) (declaration : ℕ) (initial : Option Initial) → Statement
    Run : (at : Place) (e : Typed) → Statement
    If : (at : Place) (test : Typed) (body : Statement) → Statement
    IfElse : (at : Place) (test : Typed) (body other : Statement) → Statement
    While : (at : Place) (test : Typed) (body : Statement) → Statement
    Do : (at : Place) (body : Statement) (test : Typed) → Statement
    For : (at : Place) (first : Statements) (test last : Option Typed) (body : Statement) → Statement
    Switch : (at : Place) (value : Typed) (cases : List Case) (statements : Statements) → Statement
    Goto : (at : Place) (label : ℕ) → Statement
    Label : (at : Place) (label : ℕ) (body : Statement) → Statement
    Break : (at : Place) → Statement
    Continue : (at : Place) → Statement
    Return : (at : Place) (value : Option Typed) → Statement

  -- a sequence of statements
  pub data Statements : Type 0 where
    Empty : Statements
    Then : (first : Statement) (others : Statements) → Statements

-- the number of statements of a sequence
abbrev pub count_of : Statements → ℕ
count_of Empty = 0
count_of (Then first others) = suc (count_of others)
