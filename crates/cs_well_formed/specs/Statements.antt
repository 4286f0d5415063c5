-- Well-formed statements (C11 6.8).
use Rattle.std.specs.Prelude.{◌≡◌, ◌≢◌, ℕ, ℤ, suc, ◌+◌, ◌<◌, ◌≤◌, Bool, true, false, List, Option, Some, None, IfSome, slice_get}
use Rattle.std.specs.List.{All, AllPairs}
use Rattle.cs_types.specs.declared.data_model.DataModel.{DataModel}
use Rattle.cs_types.specs.declared.int_type.IntType.{IntType}
use Rattle.cs_types.specs.IntType.{InRange}
use Rattle.cs_types.specs.Shape.{Shape, void, integer}
use Rattle.cs_ast.specs.declared.typed.statement.Case.{Case}
use Rattle.cs_ast.specs.TypedTree.{Typed, Statement, Block, Declare, Run, If, IfElse, While, Do, For, Switch, Goto, Label, Break, Continue, Return, Statements}
use Rattle.cs_ast.specs.TypedTree.{Empty, Then, count_of}
use Rattle.cs_ast.specs.TypedProgram.{Variable}
use Rattle.cs_folding.specs.TypedParts.{type_of}
use Rattle.cs_well_formed.specs.Expressions.{Setting, IsWell, IsValue, IsScalarValue, IsIntegerValue, IsValueOf}
use Rattle.cs_well_formed.specs.Initials.{IsWellInitial}

-- a value that is discarded, if there is one
abbrev pub IsDroppedIfAny : Setting → Option Typed → Type 0
IsDroppedIfAny s None = Unit {0}
IsDroppedIfAny s (Some e) = IsWell s e × IsValue e

abbrev pub IsTestIfAny : Setting → Option Typed → Type 0
IsTestIfAny s None = Unit {0}
IsTestIfAny s (Some e) = IsWell s e × IsScalarValue e

-- a number of an integer type
abbrev pub IsNumberOf : DataModel → Shape → ℤ → Type 0
IsNumberOf model ty n = (kind : IntType) → ty ≡ integer kind → InRange model kind n

-- a case precedes one of `count` statements, or follows the last one; its number is one of the type of the `switch`
pub record IsCase (model : DataModel) (ty : Shape) (count : ℕ) (c : Case) : Type 0 where
  pub item : c.item ≤ count
  pub number : IfSome c.value (IsNumberOf model ty)

-- the cases of a `switch`: no two have the same number, and at most one is `default` (C11 6.8.4.2, paragraph 3)
pub record AreCases (model : DataModel) (ty : Shape) (count : ℕ) (cases : List Case) : Type 0 where
  pub each : All (IsCase model ty count) cases
  pub apart : AllPairs (λ (c : Case) (d : Case). c.value ≢ d.value) cases

-- a value is returned exactly if the function has a result
abbrev pub IsReturned : Setting → Option Typed → Type 0
IsReturned s None = s.returns ≡ void
IsReturned s (Some e) = IsWell s e × IsValueOf e s.returns

abbrev mutual
  pub IsWellStatement : Setting → Statement → Type 0
  IsWellStatement s (Block at statements) = AreWellStatements s statements
  IsWellStatement s (Declare at number first) = (v : Variable) × (slice_get s.variables number ≡ Some v) × IfSome first (λ i. IsWellInitial s v.ty i)
  IsWellStatement s (Run at e) = IsWell s e × IsValue e
  IsWellStatement s (If at test body) = IsWell s test × IsScalarValue test × IsWellStatement s body
  IsWellStatement s (IfElse at test body other) = IsWell s test × IsScalarValue test × IsWellStatement s body × IsWellStatement s other
  IsWellStatement s (While at test body) = IsWell s test × IsScalarValue test × IsWellStatement s body
  IsWellStatement s (Do at body test) = IsWell s test × IsScalarValue test × IsWellStatement s body
  IsWellStatement s (For at first test last body) = AreWellStatements s first × IsTestIfAny s test × IsDroppedIfAny s last × IsWellStatement s body
  IsWellStatement s (Switch at value cases statements) =
      IsWell s value × IsIntegerValue value × AreCases s.program.model (type_of value) (count_of statements) cases × AreWellStatements s statements
  IsWellStatement s (Goto at label) = label < s.labels
  IsWellStatement s (Label at label body) = (label < s.labels) × IsWellStatement s body
  IsWellStatement s (Break at) = Unit {0}
  IsWellStatement s (Continue at) = Unit {0}
  IsWellStatement s (Return at value) = IsReturned s value

  pub AreWellStatements : Setting → Statements → Type 0
  AreWellStatements s Empty = Unit {0}
  AreWellStatements s (Then first others) = IsWellStatement s first × AreWellStatements s others

-- the number of labels in a statement
abbrev mutual
  pub label_count : Statement → ℕ
  label_count (Block at statements) = label_counts statements
  label_count (If at test body) = label_count body
  label_count (IfElse at test body other) = label_count body + label_count other
  label_count (While at test body) = label_count body
  label_count (Do at body test) = label_count body
  label_count (For at first test last body) = label_count body
  label_count (Switch at value cases statements) = label_counts statements
  label_count (Label at label body) = suc (label_count body)
  label_count (Declare at number first) = 0
  label_count (Run at e) = 0
  label_count (Goto at label) = 0
  label_count (Break at) = 0
  label_count (Continue at) = 0
  label_count (Return at value) = 0

  pub label_counts : Statements → ℕ
  label_counts Empty = 0
  label_counts (Then first others) = label_count first + label_counts others

abbrev mutual
  -- the labels of a statement are numbered in their order, beginning with this number
  pub AreNumbered : ℕ → Statement → Type 0
  AreNumbered n (Block at statements) = AllAreNumbered n statements
  AreNumbered n (If at test body) = AreNumbered n body
  AreNumbered n (IfElse at test body other) = AreNumbered n body × AreNumbered (n + label_count body) other
  AreNumbered n (While at test body) = AreNumbered n body
  AreNumbered n (Do at body test) = AreNumbered n body
  AreNumbered n (For at first test last body) = (label_counts first ≡ 0) × AreNumbered n body
  AreNumbered n (Switch at value cases statements) = AllAreNumbered n statements
  AreNumbered n (Label at label body) = (label ≡ n) × AreNumbered (suc n) body
  AreNumbered n (Declare at number first) = Unit {0}
  AreNumbered n (Run at e) = Unit {0}
  AreNumbered n (Goto at label) = Unit {0}
  AreNumbered n (Break at) = Unit {0}
  AreNumbered n (Continue at) = Unit {0}
  AreNumbered n (Return at value) = Unit {0}

  pub AllAreNumbered : ℕ → Statements → Type 0
  AllAreNumbered n Empty = Unit {0}
  AllAreNumbered n (Then first others) = AreNumbered n first × AllAreNumbered (n + label_count first) others

abbrev mutual
  -- each `break` is in a loop or a `switch`, and each `continue` in a loop (C11 6.8.6.2, 6.8.6.3); the two flags are whether the statement
  -- itself is in one
  pub JumpsLead : Bool → Bool → Statement → Type 0
  JumpsLead breaks continues (Block at statements) = AllJumpsLead breaks continues statements
  JumpsLead breaks continues (If at test body) = JumpsLead breaks continues body
  JumpsLead breaks continues (IfElse at test body other) = JumpsLead breaks continues body × JumpsLead breaks continues other
  JumpsLead breaks continues (While at test body) = JumpsLead true true body
  JumpsLead breaks continues (Do at body test) = JumpsLead true true body
  JumpsLead breaks continues (For at first test last body) = AllJumpsLead false false first × JumpsLead true true body
  JumpsLead breaks continues (Switch at value cases statements) = AllJumpsLead true continues statements
  JumpsLead breaks continues (Label at label body) = JumpsLead breaks continues body
  JumpsLead breaks continues (Break at) = breaks ≡ true
  JumpsLead breaks continues (Continue at) = continues ≡ true
  JumpsLead breaks continues (Declare at number first) = Unit {0}
  JumpsLead breaks continues (Run at e) = Unit {0}
  JumpsLead breaks continues (Goto at label) = Unit {0}
  JumpsLead breaks continues (Return at value) = Unit {0}

  pub AllJumpsLead : Bool → Bool → Statements → Type 0
  AllJumpsLead breaks continues Empty = Unit {0}
  AllJumpsLead breaks continues (Then first others) = JumpsLead breaks continues first × AllJumpsLead breaks continues others
