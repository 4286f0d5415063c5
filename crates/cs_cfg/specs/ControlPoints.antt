-- The control points of a function, read off its statements: each with the ways out of it, and the next control point that the
-- machine reaches on each way, for all values. A recursion over the syntax, with what is reached after a part as an argument.
use Rattle.std.specs.Prelude.{ℕ, zero, suc, ◌+◌, ℤ, Bool, true, false, List, [], ◌∷◌, ◌++◌, Option, Some, None}
use Rattle.cs_ast.specs.declared.place.Place.{Place}
use Rattle.cs_ast.specs.declared.typed.operator.Order.TheVariants.{PointerFirst, AmountFirst}
use Rattle.cs_ast.specs.declared.typed.statement.Case.{Case}
use Rattle.cs_ast.specs.TypedTree.{Typed, Of, Form, Number, Null, Text, Local, Global, Through, Index, Member, Arrow, Load, Address, Decay, Convert, Unary, Not}
use Rattle.cs_ast.specs.TypedTree.{Binary, Compare, Sum, Difference, And, Or, Choice, Comma, Assign, Update, Move, Call, Allocate, Free, TypedList, NoMore}
use Rattle.cs_ast.specs.TypedTree.{Further, Initial, Value, Parts, Bytes, Initials, NoPart, Part, Statement, Block, Declare, Run, If, IfElse, While, Do, For}
use Rattle.cs_ast.specs.TypedTree.{Switch, Goto, Label, Break, Continue, Return, Statements, Empty, Then, count_of}
use Rattle.cs_ast.specs.TypedProgram.{Routine}
use Rattle.cs_events.specs.declared.point.PointKind.{PointKind}
use Rattle.cs_events.specs.declared.point.PointKind.TheVariants as point
use Rattle.cs_meaning.specs.Machine.{body_of}
use Rattle.cs_meaning.specs.Jumps.{Landing, landing}
use Rattle.cs_meaning.specs.Statements.{has_value, default_item}

-- a control point that is reached
pub record Met : Type 0 where
  pub kind : PointKind
  pub at : Place

-- a way out of a control point: its only way, that of a truth value, or that of a case
pub data Exit : Type 0 where
  Onward : Exit
  TruthOf : (holds : Bool) → Exit
  CaseOf : (number : ℕ) → Exit

-- what is reached next: nothing if the frame returns without reaching a control point, as after a `break` outside of loops
abbrev pub Next : Type 0
Next = Option Met

-- a way out of a control point, and the point that is reached next
pub record Way : Type 0 where
  pub exit : Exit
  pub next : Next

-- a control point with its ways
pub record ControlPoint : Type 0 where
  pub kind : PointKind
  pub at : Place
  pub ways : List Way

abbrev pub the_point : PointKind → Place → Met
the_point kind at = record { kind = kind; at = at }

abbrev pub met : PointKind → Place → Next
met kind at = Some (the_point kind at)

abbrev pub way : Exit → Next → Way
way exit next = record { exit = exit; next = next }

-- the head of a loop, a label, or the beginning of a body
abbrev pub passed : PointKind → Place → Next → ControlPoint
passed kind at next = record { kind = kind; at = at; ways = way Onward next ∷ [] }

-- a test
abbrev pub tested : Place → Next → Next → ControlPoint
tested at one other = record { kind = point.Branch; at = at; ways = way (TruthOf true) one ∷ (way (TruthOf false) other ∷ []) }

-- a point after which no other point of the function is reached
abbrev pub last_point : PointKind → Place → ControlPoint
last_point kind at = record { kind = kind; at = at; ways = [] }

abbrev mutual
  -- what is reached first when an expression is evaluated and `following` comes after it
  pub first : Typed → Next → Next
  first (Of at ty form) following = first_of at form following

  pub first_of : Place → Form → Next → Next
  first_of at (Number n) following = following
  first_of at Null following = following
  first_of at (Text literal) following = following
  first_of at (Local declaration) following = following
  first_of at (Global global) following = following
  first_of at (Through a) following = first a following
  first_of at (Index a i PointerFirst) following = first a (first i following)
  first_of at (Index a i AmountFirst) following = first i (first a following)
  first_of at (Member a offset) following = first a following
  first_of at (Arrow a offset) following = first a following
  first_of at (Load a) following = first a following
  first_of at (Address a) following = first a following
  first_of at (Decay a) following = first a following
  first_of at (Convert a) following = first a following
  first_of at (Unary op a) following = first a following
  first_of at (Not a) following = first a following
  first_of at (Binary op a b) following = first a (first b following)
  first_of at (Compare op a b) following = first a (first b following)
  first_of at (Sum a n direction PointerFirst) following = first a (first n following)
  first_of at (Sum a n direction AmountFirst) following = first n (first a following)
  first_of at (Difference a b) following = first a (first b following)
  first_of at (And a b) following = first a (met point.Branch at)
  first_of at (Or a b) following = first a (met point.Branch at)
  first_of at (Choice a b c) following = first a (met point.Branch at)
  first_of at (Comma a b) following = first a (first b following)
  first_of at (Assign a b) following = first a (first b following)
  first_of at (Update op a b works_in gives) following = first a (first b following)
  first_of at (Move a n direction gives) following = first a (first n following)
  first_of at (Call function arguments) following = first_in arguments following
  first_of at (Allocate allocator arguments element) following = first_in arguments following
  first_of at (Free a) following = first a following

  pub first_in : TypedList → Next → Next
  first_in NoMore following = following
  first_in (Further e others) following = first e (first_in others following)

abbrev mutual
  -- the control points of an expression, in file order
  pub points : Typed → Next → List ControlPoint
  points (Of at ty form) following = points_of at form following

  pub points_of : Place → Form → Next → List ControlPoint
  points_of at (Number n) following = []
  points_of at Null following = []
  points_of at (Text literal) following = []
  points_of at (Local declaration) following = []
  points_of at (Global global) following = []
  points_of at (Through a) following = points a following
  points_of at (Index a i PointerFirst) following = points a (first i following) ++ points i following
  points_of at (Index a i AmountFirst) following = points i (first a following) ++ points a following
  points_of at (Member a offset) following = points a following
  points_of at (Arrow a offset) following = points a following
  points_of at (Load a) following = points a following
  points_of at (Address a) following = points a following
  points_of at (Decay a) following = points a following
  points_of at (Convert a) following = points a following
  points_of at (Unary op a) following = points a following
  points_of at (Not a) following = points a following
  points_of at (Binary op a b) following = points a (first b following) ++ points b following
  points_of at (Compare op a b) following = points a (first b following) ++ points b following
  points_of at (Sum a n direction PointerFirst) following = points a (first n following) ++ points n following
  points_of at (Sum a n direction AmountFirst) following = points n (first a following) ++ points a following
  points_of at (Difference a b) following = points a (first b following) ++ points b following
  points_of at (And a b) following = points a (met point.Branch at) ++ tested at (first b following) following ∷ points b following
  points_of at (Or a b) following = points a (met point.Branch at) ++ tested at following (first b following) ∷ points b following
  points_of at (Choice a b c) following = points a (met point.Branch at) ++ tested at (first b following) (first c following)
      ∷ (points b following ++ points c following)
  points_of at (Comma a b) following = points a (first b following) ++ points b following
  points_of at (Assign a b) following = points a (first b following) ++ points b following
  points_of at (Update op a b works_in gives) following = points a (first b following) ++ points b following
  points_of at (Move a n direction gives) following = points a (first n following) ++ points n following
  points_of at (Call function arguments) following = points_in arguments following
  points_of at (Allocate allocator arguments element) following = points_in arguments following
  points_of at (Free a) following = points a following

  pub points_in : TypedList → Next → List ControlPoint
  points_in NoMore following = []
  points_in (Further e others) following = points e (first_in others following) ++ points_in others following

abbrev mutual
  -- the same for an initializer, whose parts are stored one after another
  pub first_initial : Initial → Next → Next
  first_initial (Value e) following = first e following
  first_initial (Parts parts) following = first_parts parts following
  first_initial (Bytes bytes) following = following

  pub first_parts : Initials → Next → Next
  first_parts NoPart following = following
  first_parts (Part one others) following = first_initial one (first_parts others following)

abbrev mutual
  pub points_initial : Initial → Next → List ControlPoint
  points_initial (Value e) following = points e following
  points_initial (Parts parts) following = points_parts parts following
  points_initial (Bytes bytes) following = []

  pub points_parts : Initials → Next → List ControlPoint
  points_parts NoPart following = []
  points_parts (Part one others) following = points_initial one (first_parts others following) ++ points_parts others following

-- the same for an optional expression
abbrev pub first_some : Option Typed → Next → Next
first_some None following = following
first_some (Some e) following = first e following

abbrev pub points_some : Option Typed → Next → List ControlPoint
points_some None following = []
points_some (Some e) following = points e following

-- where jumps lead: what is reached after the nearest loop or `switch`, by `continue`, and at each label of the function
pub record Targets : Type 0 where
  pub out : Next
  pub again : Next
  pub labels : ℕ → Next

-- what is reached first before the body of a `for`: its test, if there is one
abbrev pub for_test : Place → Option Typed → Next → Next
for_test at None body = body
for_test at (Some test) body = first test (met point.Branch at)

-- the test of a `for`, if there is one
abbrev pub for_tested : Place → Option Typed → Next → Next → List ControlPoint
for_tested at None body following = []
for_tested at (Some test) body following = tested at body following ∷ []

abbrev pub for_points : Place → Option Typed → List ControlPoint
for_points at None = []
for_points at (Some test) = points test (met point.Branch at)

-- the targets inside a loop, and inside a `switch` or the first part of a `for`
abbrev pub in_loop : Targets → Next → Next → Targets
in_loop to out again = record to { out = out; again = again }

abbrev pub in_switch : Targets → Next → Targets
in_switch to out = record to { out = out }

-- a `goto` reaches its label; if there is no such label, it continues with the next statement (C11 6.8.6.1)
abbrev pub at_label : Next → Next → Next
at_label None following = following
at_label (Some label) following = Some label

abbrev mutual
  -- what is reached first when a statement is executed and `following` comes after it (C11 6.8)
  pub starts : Targets → Statement → Next → Next
  starts to (Block at statements) following = starts_in to statements following
  starts to (Declare at declaration None) following = following
  starts to (Declare at declaration (Some initial)) following = first_initial initial following
  starts to (Run at e) following = first e following
  starts to (If at test body) following = first test (met point.Branch at)
  starts to (IfElse at test body other) following = first test (met point.Branch at)
  starts to (While at test body) following = met point.Head at
  starts to (Do at body test) following = met point.Head at
  starts to (For at beginning test last body) following = starts_in (in_switch to following) beginning (met point.Head at)
  starts to (Switch at value cases statements) following = first value (met point.Switch at)
  starts to (Goto at label) following = at_label (to.labels label) following
  starts to (Label at label body) following = met point.Label at
  starts to (Break at) following = to.out
  starts to (Continue at) following = to.again
  starts to (Return at value) following = first_some value (met point.Return at)

  pub starts_in : Targets → Statements → Next → Next
  starts_in to Empty following = following
  starts_in to (Then one others) following = starts to one (starts_in to others following)

-- what is reached first by the statements from the one with a number on
abbrev pub starts_from : Targets → ℕ → Statements → Next → Next
starts_from to number Empty following = following
starts_from to zero (Then one others) following = starts_in to (Then one others) following
starts_from to (suc number) (Then one others) following = starts_from to number others following

-- the way of a case, if it has a value, before the ways of the other cases
abbrev pub with_case : Option ℤ → ℕ → Next → List Way → List Way
with_case None number next others = others
with_case (Some value) number next others = way (CaseOf number) next ∷ others

-- the ways of a `switch`: those of its cases with a value, counted from a number on, and then that of all other numbers
abbrev pub case_ways : Targets → List Case → ℕ → Statements → Next → Next → List Way
case_ways to [] number statements following otherwise = way (CaseOf number) otherwise ∷ []
case_ways to (one ∷ cases) number statements following otherwise =
    with_case one.value number (starts_from to one.item statements following) (case_ways to cases (number + has_value one.value) statements following otherwise)

abbrev pub switched : Place → List Way → ControlPoint
switched at ways = record { kind = point.Switch; at = at; ways = ways }

abbrev mutual
  -- the control points of a statement, in file order; the head of a loop comes before its test
  pub flows : Targets → Statement → Next → List ControlPoint
  flows to (Block at statements) following = flows_in to statements following
  flows to (Declare at declaration None) following = []
  flows to (Declare at declaration (Some initial)) following = points_initial initial following
  flows to (Run at e) following = points e following
  flows to (If at test body) following = tested at (starts to body following) following ∷ (points test (met point.Branch at) ++ flows to body following)
  flows to (IfElse at test body other) following =
      tested at (starts to body following) (starts to other following)
      ∷ (points test (met point.Branch at) ++ flows to body following ++ flows to other following)
  flows to (While at test body) following =
      passed point.Head at (first test (met point.Branch at))
      ∷ (tested at (starts (in_loop to following (met point.Head at)) body (met point.Head at)) following
      ∷ (points test (met point.Branch at) ++ flows (in_loop to following (met point.Head at)) body (met point.Head at)))
  flows to (Do at body test) following =
      passed point.Head at (starts (in_loop to following (first test (met point.Branch at))) body (first test (met point.Branch at)))
      ∷ (tested at (met point.Head at) following
      ∷ (flows (in_loop to following (first test (met point.Branch at))) body (first test (met point.Branch at)) ++ points test (met point.Branch at)))
  flows to (For at beginning test last body) following =
      passed point.Head at (for_test at test (starts (in_loop to following (first_some last (met point.Head at))) body (first_some last (met point.Head at))))
      ∷ (for_tested at test (starts (in_loop to following (first_some last (met point.Head at))) body (first_some last (met point.Head at))) following
      ++ flows_in (in_switch to following) beginning (met point.Head at)
      ++ for_points at test
      ++ points_some last (met point.Head at)
      ++ flows (in_loop to following (first_some last (met point.Head at))) body (first_some last (met point.Head at)))
  flows to (Switch at value cases statements) following =
      switched at (case_ways (in_switch to following) cases 0 statements following
      (starts_from (in_switch to following) (default_item cases (count_of statements)) statements following))
      ∷ (points value (met point.Switch at) ++ flows_in (in_switch to following) statements following)
  flows to (Goto at label) following = []
  flows to (Label at label body) following = passed point.Label at (starts to body following) ∷ flows to body following
  flows to (Break at) following = []
  flows to (Continue at) following = []
  flows to (Return at value) following = last_point point.Return at ∷ points_some value (met point.Return at)

  pub flows_in : Targets → Statements → Next → List ControlPoint
  flows_in to Empty following = []
  flows_in to (Then one others) following = flows to one (starts_in to others following) ++ flows_in to others following

-- the end of a function's body
abbrev pub end_of : Routine → Next
end_of routine = met point.End routine.closes

-- what a `goto` reaches, by where its label is in the body
abbrev pub landed : Option Landing → Next
landed None = None
landed (Some landing) = met point.Label landing.at

-- the targets of a function's body: outside of loops and `switch`, `break` and `continue` end the frame
abbrev pub body_targets : Routine → Targets
body_targets routine = record { out = None; again = None; labels = λ label. landed (landing label (body_of routine) 0 []) }

-- the control points of a function, in file order
abbrev pub control_points : Routine → List ControlPoint
control_points routine =
    passed point.Enter routine.at (starts (body_targets routine) (body_of routine) (end_of routine))
    ∷ (flows (body_targets routine) (body_of routine) (end_of routine) ++ last_point point.End routine.closes ∷ [])
