-- Written expressions as plain data, without positions: the grammar is stated over them.
use Rattle.std.specs.Prelude.{ℕ, ℤ, List}
use Rattle.cs_ast.specs.declared.token.IntegerConstant.{IntegerConstant}
use Rattle.cs_ast.specs.declared.raw.operator.Step.{Step}
use Rattle.cs_ast.specs.declared.raw.operator.PrefixOp.{PrefixOp}
use Rattle.cs_ast.specs.declared.raw.operator.InfixOp.{InfixOp}
use Rattle.cs_ast.specs.declared.raw.operator.AssignOp.{AssignOp}
use Rattle.cs_ast.specs.declared.raw.written_type.TypeWord.{TypeWord}
use Rattle.cs_ast.specs.declared.raw.written_type.PointerWord.{PointerWord}

mutual
  -- a written expression; a type between parentheses has words, pointers and array bounds
  pub data Written : Type 0 where
    Named : (name : List ℕ) → Written
    Numeral : (constant : IntegerConstant) → Written
    Character : (value : ℤ) → Written
    Literal : (bytes : List ℕ) → Written
    Enclosed : (inner : Written) → Written
    Index : (array number : Written) → Written
    Call : (function : Written) (arguments : WrittenList) → Written
    Member : (object : Written) (name : List ℕ) → Written
    Arrow : (pointer : Written) (name : List ℕ) → Written
    StepAfter : (step : Step) (object : Written) → Written
    StepBefore : (step : Step) (object : Written) → Written
    Prefix : (operator : PrefixOp) (operand : Written) → Written
    SizeOf : (operand : Written) → Written
    SizeOfType : (words : List TypeWord) (pointers : List PointerWord) (bounds : WrittenList) → Written
    Cast : (words : List TypeWord) (pointers : List PointerWord) (bounds : WrittenList) (operand : Written) → Written
    Infix : (operator : InfixOp) (left right : Written) → Written
    Choice : (test one other : Written) → Written
    Assign : (operator : AssignOp) (object value : Written) → Written
    Comma : (first second : Written) → Written

  -- a list of written expressions
  pub data WrittenList : Type 0 where
    End : WrittenList
    More : (first : Written) (others : WrittenList) → WrittenList
