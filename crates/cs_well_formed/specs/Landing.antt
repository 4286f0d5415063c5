-- Jumps lead to labels that exist (C11 6.8.6.1).
use Rattle.std.specs.Prelude.{◌≡◌, ◌⊎◌, ℕ, ◌<◌}
use Rattle.cs_ast.specs.TypedTree.{Statement, Block, Declare, Run, If, IfElse, While, Do, For, Switch, Goto, Label, Break, Continue, Return, Statements, Empty}
use Rattle.cs_ast.specs.TypedTree.{Then}
use Rattle.cs_well_formed.specs.Statements.{label_count, AreNumbered}

abbrev mutual
  -- a statement has a label with this number
  pub HasLabel : ℕ → Statement → Type 0
  HasLabel n (Block at statements) = SomeHasLabel n statements
  HasLabel n (If at test body) = HasLabel n body
  HasLabel n (IfElse at test body other) = HasLabel n body ⊎ HasLabel n other
  HasLabel n (While at test body) = HasLabel n body
  HasLabel n (Do at body test) = HasLabel n body
  HasLabel n (For at first test last body) = HasLabel n body
  HasLabel n (Switch at value cases statements) = SomeHasLabel n statements
  HasLabel n (Label at label body) = (label ≡ n) ⊎ HasLabel n body
  HasLabel n (Declare at number first) = ⊥
  HasLabel n (Run at e) = ⊥
  HasLabel n (Goto at label) = ⊥
  HasLabel n (Break at) = ⊥
  HasLabel n (Continue at) = ⊥
  HasLabel n (Return at value) = ⊥

  pub SomeHasLabel : ℕ → Statements → Type 0
  SomeHasLabel n Empty = ⊥
  SomeHasLabel n (Then first others) = HasLabel n first ⊎ SomeHasLabel n others

-- in a body whose labels are numbered in their order, each number below their count is that of a label
abbrev pub LabelsAreThere : Type 0
LabelsAreThere = (body : Statement) (n : ℕ) → AreNumbered 0 body → n < label_count body → HasLabel n body
