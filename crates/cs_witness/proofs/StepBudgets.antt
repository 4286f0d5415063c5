-- The steps of the reference semantics don't depend on the budget of events.
use Rattle.std.proofs.Common.{◌≡◌, ℕ, List, [], ◌∷◌, Option, Some, None, slice_get, refl}
use Rattle.cs_ast.specs.declared.place.Place.{Place}
use Rattle.cs_ast.specs.TypedTree.{Typed, Of, Form, Statement}
use Rattle.cs_ast.specs.TypedTree.{Number, Null, Text, Local, Global, Through, Index, Member, Arrow, Load, Address, Decay, Convert, Unary, Not, Binary}
use Rattle.cs_ast.specs.TypedTree.{Compare, Sum, Difference, And, Or, Choice, Comma, Assign, Update, Move, Call, Allocate, Free}
use Rattle.cs_ast.specs.TypedTree.{Block, Declare, Run, If, IfElse, While, Do, For, Switch, Goto, Label, Break, Continue, Return}
use Rattle.cs_ast.specs.TypedProgram.{TypedProgram, Routine}
use Rattle.cs_types.specs.Shape.{Shape}
use Rattle.cs_events.specs.declared.outcome.RunBudgets.{RunBudgets}
use Rattle.cs_events.specs.declared.point.PointKind.{PointKind}
use Rattle.cs_meaning.specs.Machine as machine
use Rattle.cs_meaning.specs.Machine.{State, Item, Operand, routine_of, newest, pop_many, to_do}
use Rattle.cs_meaning.specs.CountedPoints.{reach_counted_point, reached_again}
use Rattle.cs_meaning.specs.Calls.{call_routine}
use Rattle.cs_meaning.specs.Expressions.{act_form, act}
use Rattle.cs_meaning.specs.Jumps.{Landing}
use Rattle.cs_meaning.specs.Statements.{execute, turn, lands}
use Rattle.cs_meaning.specs.Steps.{do_item, step_with, step, at_end}

module _ (program : TypedProgram) (visits depth one other : ℕ) where
  abbrev First : RunBudgets
  First = record { visits = visits; depth = depth; events = one }

  abbrev Second : RunBudgets
  Second = record { visits = visits; depth = depth; events = other }

  again : (at : Place) (kind : PointKind) (point : ℕ) (count : Option ℕ) (m : State)
      → reached_again First at kind point count m ≡ reached_again Second at kind point count m
  again at kind point None m = refl
  again at kind point (Some count) m = refl

  reaches : (at : Place) (kind : PointKind) (point : ℕ) (m : State)
      → reach_counted_point First at kind point m ≡ reach_counted_point Second at kind point m
  reaches at kind point m = again at kind point (slice_get m.frame.visits point) m

  called : (at : Place) (function : ℕ) (routine : Routine) (body : Option Statement) (arguments : List Operand) (m : State)
      → call_routine program First at function routine body arguments m ≡ call_routine program Second at function routine body arguments m
  called at function routine None arguments m = refl
  called at function routine (Some body) arguments m = refl

  form_acts : (at : Place) (ty : Shape) (form : Form) (m : State) → act_form program First at ty form m ≡ act_form program Second at ty form m
  form_acts at ty (Number n) m = refl
  form_acts at ty Null m = refl
  form_acts at ty (Text literal) m = refl
  form_acts at ty (Local declaration) m = refl
  form_acts at ty (Global global) m = refl
  form_acts at ty (Through a) m = refl
  form_acts at ty (Index a i order) m = refl
  form_acts at ty (Member a offset) m = refl
  form_acts at ty (Arrow a offset) m = refl
  form_acts at ty (Load a) m = refl
  form_acts at ty (Address a) m = refl
  form_acts at ty (Decay a) m = refl
  form_acts at ty (Convert a) m = refl
  form_acts at ty (Unary op a) m = refl
  form_acts at ty (Not a) m = refl
  form_acts at ty (Binary op a b) m = refl
  form_acts at ty (Compare op a b) m = refl
  form_acts at ty (Sum a n direction order) m = refl
  form_acts at ty (Difference a b) m = refl
  form_acts at ty (And a b) m = refl
  form_acts at ty (Or a b) m = refl
  form_acts at ty (Choice a b c) m = refl
  form_acts at ty (Comma a b) m = refl
  form_acts at ty (Assign a b) m = refl
  form_acts at ty (Update op a b works_in gives) m = refl
  form_acts at ty (Move a n direction gives) m = refl
  form_acts at ty (Call function arguments) m =
      called at function (routine_of program function) (routine_of program function).body _ _
  form_acts at ty (Allocate allocator arguments element) m = refl
  form_acts at ty (Free a) m = refl

  acts : (e : Typed) (m : State) → act program First e m ≡ act program Second e m
  acts (Of at ty form) m = form_acts at ty form m

  landed : (landing : Option Landing) (m : State) → lands First landing m ≡ lands Second landing m
  landed None m = refl
  landed (Some landing) m = reaches landing.at _ landing.counted_point _

  executes : (following : List Item) (s : Statement) (point : ℕ) (m : State)
      → execute program First following s point m ≡ execute program Second following s point m
  executes following (Block at statements) point m = refl
  executes following (Declare at declaration initial) point m = refl
  executes following (Run at e) point m = refl
  executes following (If at test body) point m = refl
  executes following (IfElse at test body other_part) point m = refl
  executes following (While at test body) point m = refl
  executes following (Do at body test) point m = refl
  executes following (For at first test last body) point m = refl
  executes following (Switch at value cases statements) point m = refl
  executes following (Goto at wanted) point m = landed _ m
  executes following (Label at number body) point m = reaches at _ point _
  executes following (Break at) point m = refl
  executes following (Continue at) point m = refl
  executes following (Return at value) point m = refl

  turns : (s : Statement) (point : ℕ) (m : State) → turn First s point m ≡ turn Second s point m
  turns (Block at statements) point m = refl
  turns (Declare at declaration initial) point m = refl
  turns (Run at e) point m = refl
  turns (If at test body) point m = refl
  turns (IfElse at test body other_part) point m = refl
  turns (While at test body) point m = reaches at _ point _
  turns (Do at body test) point m = reaches at _ point _
  turns (For at first test last body) point m = reaches at _ point _
  turns (Switch at value cases statements) point m = refl
  turns (Goto at wanted) point m = refl
  turns (Label at number body) point m = refl
  turns (Break at) point m = refl
  turns (Continue at) point m = refl
  turns (Return at value) point m = refl

  items : (item : Item) (m : State) → do_item program First item m ≡ do_item program Second item m
  items (machine.Evaluate e) m = refl
  items (machine.EvaluateUnused e) m = refl
  items (machine.Act e) m = acts e m
  items (machine.Fetch e) m = refl
  items (machine.Choose e) m = refl
  items (machine.Judge at) m = refl
  items (machine.Use at) m = refl
  items machine.Drop m = refl
  items (machine.Store at declaration offset ty) m = refl
  items (machine.Spell declaration offset bytes) m = refl
  items (machine.Execute s point) m = executes (at_end (routine_of program m.frame.function)) s point m
  items (machine.Decide s point) m = refl
  items (machine.Turn s point) m = turns s point m
  items (machine.Again s point) m = refl
  items machine.Out m = refl
  items (machine.Begin at) m = refl
  items (machine.End at value) m = refl
  items (machine.Give at) m = refl
  items machine.Leave m = refl

  steps : (todo : List Item) (m : State) → step_with program First todo m ≡ step_with program Second todo m
  steps [] m = refl
  steps (item ∷ following) m = items item (to_do following m)

  -- the step functions under both budgets are equal
  pub same_steps : step program First ≡ step program Second
  same_steps = λ i m. steps m.frame.todo m i
