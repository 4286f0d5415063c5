-- How much of a run without events remains: the turns, which are the visits that its frames may still make, and the weight of the
-- remaining items.
use Rattle.std.proofs.Common.{◌≡◌, ℕ, zero, suc, ◌+◌, ◌-◌, ◌<◌, List, [], ◌∷◌, Option, Some, None, slice_get, slice_set, arith}
use Rattle.cs_ast.specs.TypedTree.{Typed, Of, Form, Number, Null, Text, Local, Global, Through, Index, Member, Arrow, Load, Address, Decay, Convert, Unary, Not}
use Rattle.cs_ast.specs.TypedTree.{Binary, Compare, Sum, Difference, And, Or, Choice, Comma, Assign, Update, Move, Call, Allocate, Free, TypedList, NoMore}
use Rattle.cs_ast.specs.TypedTree.{Further, Initial, Value, Parts, Bytes, Initials, NoPart, Part, Statement, Block, Declare, Run, If, IfElse, While, Do, For}
use Rattle.cs_ast.specs.TypedTree.{Switch, Goto, Label, Break, Continue, Return, Statements, Empty, Then}
use Rattle.cs_meaning.specs.Machine.{Item, Evaluate, EvaluateUnused, Act, Fetch, Choose, Judge, Use, Drop, Store, Spell, Execute, Decide, Turn, Again, Out}
use Rattle.cs_meaning.specs.Machine.{Begin, End, Give, Leave, Frame, State}

abbrev mutual
  -- an expression weighs more than its parts and what is done with them
  pub weigh : Typed → ℕ
  weigh (Of at ty form) = 4 + weigh_form form

  pub weigh_form : Form → ℕ
  weigh_form (Number n) = 0
  weigh_form Null = 0
  weigh_form (Text literal) = 0
  weigh_form (Local declaration) = 0
  weigh_form (Global global) = 0
  weigh_form (Through a) = weigh a
  weigh_form (Index a i order) = weigh a + weigh i
  weigh_form (Member a offset) = weigh a
  weigh_form (Arrow a offset) = weigh a
  weigh_form (Load a) = weigh a
  weigh_form (Address a) = weigh a
  weigh_form (Decay a) = weigh a
  weigh_form (Convert a) = weigh a
  weigh_form (Unary op a) = weigh a
  weigh_form (Not a) = weigh a
  weigh_form (Binary op a b) = weigh a + weigh b
  weigh_form (Compare op a b) = weigh a + weigh b
  weigh_form (Sum a n direction order) = weigh a + weigh n
  weigh_form (Difference a b) = weigh a + weigh b
  weigh_form (And a b) = weigh a
  weigh_form (Or a b) = weigh a
  weigh_form (Choice a b c) = weigh a
  weigh_form (Comma a b) = weigh a + weigh b
  weigh_form (Assign a b) = weigh a + weigh b
  weigh_form (Update op a b works_in gives) = weigh a + weigh b
  weigh_form (Move a n direction gives) = weigh a + weigh n
  weigh_form (Call function arguments) = weigh_all arguments
  weigh_form (Allocate allocator arguments element) = weigh_all arguments
  weigh_form (Free a) = weigh a

  pub weigh_all : TypedList → ℕ
  weigh_all NoMore = 0
  weigh_all (Further first others) = weigh first + weigh_all others

abbrev mutual
  -- an initializer weighs more than the stores of its pieces
  pub weigh_initial : Initial → ℕ
  weigh_initial (Value e) = weigh e + 1
  weigh_initial (Bytes bytes) = 1
  weigh_initial (Parts parts) = weigh_initials parts

  pub weigh_initials : Initials → ℕ
  weigh_initials NoPart = 0
  weigh_initials (Part first others) = weigh_initial first + weigh_initials others

abbrev pub weigh_some_initial : Option Initial → ℕ
weigh_some_initial None = 0
weigh_some_initial (Some initial) = weigh_initial initial

abbrev pub weigh_some : Option Typed → ℕ
weigh_some None = 0
weigh_some (Some e) = weigh e + 1

abbrev mutual
  -- a statement weighs more than what is done before its next event, turn or label
  pub weigh_statement : Statement → ℕ
  weigh_statement (Block at statements) = 1 + weigh_statements statements
  weigh_statement (Declare at declaration initial) = 1 + weigh_some_initial initial
  weigh_statement (Run at e) = 2 + weigh e
  weigh_statement (If at test body) = 2 + weigh test
  weigh_statement (IfElse at test body other) = 2 + weigh test
  weigh_statement (While at test body) = 3
  weigh_statement (Do at body test) = 3
  weigh_statement (For at first test last body) = 3 + weigh_statements first
  weigh_statement (Switch at value cases statements) = 3 + weigh value
  weigh_statement (Goto at label) = 1
  weigh_statement (Label at label body) = 1
  weigh_statement (Break at) = 1
  weigh_statement (Continue at) = 1
  weigh_statement (Return at value) = 3 + weigh_some value

  pub weigh_statements : Statements → ℕ
  weigh_statements Empty = 0
  weigh_statements (Then first others) = weigh_statement first + weigh_statements others

-- what is done after the body of a loop
abbrev pub weigh_again : Statement → ℕ
weigh_again (While at test body) = 1
weigh_again (Do at body test) = weigh test + 1
weigh_again (For at first test last body) = weigh_some last + 1
weigh_again other = 0

abbrev pub weigh_item : Item → ℕ
weigh_item (Evaluate e) = weigh e
weigh_item (EvaluateUnused e) = weigh e
weigh_item (Act e) = 1
weigh_item (Fetch e) = 1
weigh_item (Choose e) = 1
weigh_item (Judge at) = 1
weigh_item (Use at) = 1
weigh_item Drop = 1
weigh_item (Store at declaration offset ty) = 1
weigh_item (Spell declaration offset bytes) = 1
weigh_item (Execute s counted_point) = weigh_statement s
weigh_item (Decide s counted_point) = 1
weigh_item (Turn s counted_point) = 1
weigh_item (Again s counted_point) = 1 + weigh_again s
weigh_item Out = 1
weigh_item (Begin at) = 1
weigh_item (End at value) = 2
weigh_item (Give at) = 2
weigh_item Leave = 1

abbrev pub weigh_items : List Item → ℕ
weigh_items [] = 0
weigh_items (item ∷ items) = weigh_item item + weigh_items items

-- a frame weighs one more than its remaining items
abbrev pub weigh_frames : List Frame → ℕ
weigh_frames [] = 0
weigh_frames (frame ∷ frames) = (1 + weigh_items frame.todo) + weigh_frames frames

abbrev pub weight : State → ℕ
weight m = (1 + weigh_items m.frame.todo) + weigh_frames m.callers

-- how many more visits of counted points the budget allows, after these
abbrev pub visits_left : ℕ → List ℕ → ℕ
visits_left most [] = 0
visits_left most (count ∷ counts) = (most - count) + visits_left most counts

abbrev pub turns_in : ℕ → List Frame → ℕ
turns_in most [] = 0
turns_in most (frame ∷ frames) = visits_left most frame.visits + turns_in most frames

abbrev pub turns : ℕ → State → ℕ
turns most m = visits_left most m.frame.visits + turns_in most m.callers

-- one more visit of a counted point leaves one less
pub one_visit_less : (most : ℕ) (counts : List ℕ) (counted_point count : ℕ) → slice_get counts counted_point ≡ Some count → count < most
    → visits_left most (slice_set counts counted_point (count + 1)) < visits_left most counts
one_visit_less most [] counted_point count h less = cc
one_visit_less most (c ∷ counts) zero count h less =
    let same : c ≡ count = cc in
    omega arith
one_visit_less most (c ∷ counts) (suc counted_point) count h less =
    let rest = one_visit_less most counts counted_point count h less in
    omega arith
