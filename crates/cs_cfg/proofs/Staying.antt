-- Whatever the reference machine has to do first doesn't return from the run, unless it leaves a frame; and it touches no end of a
-- function, unless it ends one.
use Rattle.std.specs.Prelude.{⊤, ◌⊎◌}
use Rattle.std.proofs.Common.{◌≡◌, refl, true, inl, inr, ℕ, ◌+◌, nat_lt, Bool, List, length, Option, Some, None, slice_get}
use Rattle.cs_types.specs.Shape.{Shape, integer}
use Rattle.cs_ast.specs.declared.place.Place.{Place}
use Rattle.cs_ast.specs.TypedTree.{Typed, Of, Form, Number, Null, Text, Local, Global, Index, Member, Arrow, Load, Convert, Unary, Not, Binary, Compare, Sum}
use Rattle.cs_ast.specs.TypedTree.{Difference, And, Or, Choice, Assign, Update, Move, Call, Allocate, Free, Initial, Value, Parts, Bytes, Statement, Declare}
use Rattle.cs_ast.specs.TypedTree.{If, IfElse, While, Do, For, Switch, Goto, Label}
use Rattle.cs_ast.specs.TypedProgram.{TypedProgram, Routine}
use Rattle.cs_events.specs.declared.outcome.RunBudgets.{RunBudgets}
use Rattle.cs_events.specs.declared.point.PointKind.{PointKind}
use Rattle.cs_events.specs.declared.point.PointKind.TheVariants as point
use Rattle.cs_events.specs.Objects.{Cell, NumberCell}
use Rattle.cs_events.specs.Touches.{Stores, Clears}
use Rattle.cs_events.specs.Acts.{Goes}
use Rattle.cs_meaning.specs.Types.{size_of, type_of, target_of, integer_of}
use Rattle.cs_meaning.specs.Initials.{number_in, directed}
use Rattle.cs_meaning.specs.Access.{access_of}
use Rattle.cs_meaning.specs.Operators.{branch}
use Rattle.cs_meaning.specs.Machine.{Operand, Scalar, Item, Evaluate, EvaluateUnused, Act as Acting, Fetch, Choose, Judge, Use, Drop, Store, Spell, Execute}
use Rattle.cs_meaning.specs.Machine.{Decide, Turn, Again, Out, Begin, End, Give, Leave, State, push, push_cell, with_memory, operand_at, cell_at, cell_of}
use Rattle.cs_meaning.specs.Machine.{newest, pop, pop_many, routine_of, body_of}
use Rattle.cs_meaning.specs.CountedPoints.{reached_again}
use Rattle.cs_meaning.specs.Jumps.{Landing, landing}
use Rattle.cs_meaning.specs.Calls.{call_routine}
use Rattle.cs_meaning.specs.Expressions.{pointer_age, amount_age, given, number_at, stores, act_form, fetch_form, choose_form}
use Rattle.cs_meaning.specs.Statements.{if_scalar, local_type, declare, lands, execute, turn, decide}
use Rattle.cs_meaning.specs.Steps.{at_end, do_item}
use Rattle.cs_cfg.specs.GraphPoints.{goes_on}
use Rattle.cs_cfg.proofs.Onward.{keeps_if, keeps_shows, keeps_truth, keeps_operate, keeps_convert_number, keeps_convert, keeps_sum, keeps_compare}
use Rattle.cs_cfg.proofs.Onward.{keeps_difference, keeps_arrow}
use Rattle.cs_cfg.proofs.OnwardCalls.{keeps_within_depth, keeps_release, keeps_allocate, keeps_outside, keeps_use}
use Rattle.cs_cfg.proofs.Returning.{NeverReturns, goes, stops, asks, touches, never, stays_touches, stays_load, stays_store}

-- the edge of a test
stays_branch : (at : Place) (cell : Cell) (next : Bool → State) → NeverReturns (branch at cell (λ holds. Goes (next holds)))
stays_branch at cell next = keeps_truth never at cell (λ holds. touches refl (keeps_shows never at _ goes))

stays_counted_point : (budgets : RunBudgets) (at : Place) (kind : PointKind) (counted_point : ℕ) (count : Option ℕ) (m : State)
    → goes_on kind ≡ true → NeverReturns (reached_again budgets at kind counted_point count m)
stays_counted_point budgets at kind counted_point None m on = stops tt
stays_counted_point budgets at kind counted_point (Some count) m on = keeps_if never (nat_lt count budgets.visits) (touches on goes) (stops tt)

module _ (program : TypedProgram) where
  stays_call : (budgets : RunBudgets) (at : Place) (callee : ℕ) (routine : Routine) (body : Option Statement) (operands : List Operand) (m : State)
      → NeverReturns (call_routine program budgets at callee routine body operands m)
  stays_call budgets at callee routine None operands m = keeps_outside never (λ m. goes) program at callee routine operands m
  stays_call budgets at callee routine (Some body) operands m =
      keeps_within_depth never budgets at (length m.callers + 1) (keeps_shows never at _ goes)

  stays_stores : (at : Place) (a : Typed) (age : ℕ) (operand : Operand) (count : ℕ) (left : Operand) (m : State)
      → NeverReturns (stores program at a age operand count left m)
  stays_stores at a age operand count left m =
      stays_store program m.memory m.frame.number at (access_of a) (cell_at m age) operand
      (λ memory. goes {s = push left (with_memory memory (pop_many count m))})

  -- what an expression does with its parts
  stays_act : (budgets : RunBudgets) (at : Place) (ty : Shape) (form : Form) (m : State) → NeverReturns (act_form program budgets at ty form m)
  stays_act budgets at ty (Number n) m = goes
  stays_act budgets at ty Null m = goes
  stays_act budgets at ty (Text literal) m = goes
  stays_act budgets at ty (Local declaration) m = goes
  stays_act budgets at ty (Global global) m = goes
  stays_act budgets at ty (Index a i order) m =
      keeps_sum never program.model at (cell_at m (pointer_age order)) (number_at m (amount_age order)) (size_of program ty) (λ cell. goes)
  stays_act budgets at ty (Member a offset) m = goes
  stays_act budgets at ty (Arrow a offset) m = keeps_arrow never at (cell_at m 0) offset (λ cell. goes {s = push_cell cell (pop m)})
  stays_act budgets at ty (Load a) m = stays_load program m.memory m.frame.number (access_of a) (cell_at m 0) (λ memory operand. goes)
  stays_act budgets at ty (Convert a) m = keeps_convert never program.model at (type_of a) ty (operand_at m 0) (λ operand. goes)
  stays_act budgets at ty (Unary op a) m = asks (λ number. goes)
  stays_act budgets at ty (Not a) m = keeps_truth never at (cell_at m 0) (λ holds. keeps_shows never at _ goes)
  stays_act budgets at ty (Binary op a b) m = keeps_operate never program.model at op (integer_of ty) (number_at m 1) (number_at m 0) (λ number. goes)
  stays_act budgets at ty (Compare op a b) m = keeps_compare never at op (cell_at m 1) (cell_at m 0) (λ number. goes)
  stays_act budgets at ty (Sum a n direction order) m =
      keeps_sum never program.model at (cell_at m (pointer_age order)) (directed direction (number_at m (amount_age order))) (size_of program (target_of ty))
      (λ cell. goes)
  stays_act budgets at ty (Difference a b) m = keeps_difference never at (cell_at m 1) (cell_at m 0) (size_of program (target_of (type_of a))) (λ number. goes)
  stays_act budgets at ty (Assign a b) m = stays_stores at a 1 (operand_at m 0) 2 (operand_at m 0) m
  stays_act budgets at ty (Update op a b works_in gives) m =
      keeps_operate never program.model at op works_in (number_at m 1) (number_at m 0) (λ number.
      keeps_convert_number never program.model at (integer works_in) (integer_of (type_of a)) number
      (λ stored. stays_stores at a 3 (Scalar (NumberCell stored)) 4 (given gives (operand_at m 2) (Scalar (NumberCell stored))) m))
  stays_act budgets at ty (Move a n direction gives) m =
      keeps_sum never program.model at (cell_at m 1) (directed direction (number_at m 0)) (size_of program (target_of (type_of a)))
      (λ cell. stays_stores at a 2 (Scalar cell) 3 (given gives (operand_at m 1) (Scalar cell)) m)
  stays_act budgets at ty (Call function arguments) m =
      stays_call budgets at function (routine_of program function) (routine_of program function).body (newest _ m) (pop_many _ m)
  stays_act budgets at ty (Allocate allocator arguments element) m = keeps_allocate never (λ m. goes) program at allocator element m
  stays_act budgets at ty (Free a) m = keeps_release never (λ m. goes) at (cell_at m 0) _
  stays_act budgets at ty other m = goes

  stays_fetch : (at : Place) (form : Form) (m : State) → NeverReturns (fetch_form program at form m)
  stays_fetch at (Update op a b works_in gives) m =
      stays_load program m.memory m.frame.number (access_of a) (cell_at m 0)
      (λ memory operand.
      keeps_convert_number never program.model at (type_of a) works_in (number_in (cell_of operand))
      (λ number. goes {s = push_cell (NumberCell number) (push operand (with_memory memory m))}))
  stays_fetch at (Move a n direction gives) m = stays_load program m.memory m.frame.number (access_of a) (cell_at m 0) (λ memory operand. goes)
  stays_fetch at other m = goes

  stays_choose : (at : Place) (form : Form) (m : State) → NeverReturns (choose_form at form m)
  stays_choose at (And a b) m = stays_branch at (cell_at m 0) _
  stays_choose at (Or a b) m = stays_branch at (cell_at m 0) _
  stays_choose at (Choice a b c) m = stays_branch at (cell_at m 0) _
  stays_choose at other m = goes

  -- a statement
  stays_declare : (at : Place) (declaration : ℕ) (initial : Option Initial) (m : State) → NeverReturns (declare program at declaration initial m)
  stays_declare at declaration None m =
      stays_touches (λ local. Clears m.frame.number local at) (if_scalar (local_type program declaration m) declaration) (λ local. tt) goes
  stays_declare at declaration (Some (Value e)) m = goes
  stays_declare at declaration (Some (Parts parts)) m = goes
  stays_declare at declaration (Some (Bytes bytes)) m = goes

  stays_lands : (budgets : RunBudgets) (found : Option Landing) (m : State) → NeverReturns (lands budgets found m)
  stays_lands budgets None m = goes
  stays_lands budgets (Some l) m = stays_counted_point budgets l.at point.Label l.counted_point (slice_get m.frame.visits l.counted_point) _ refl

  stays_execute : (budgets : RunBudgets) (end : List Item) (s : Statement) (counted_point : ℕ) (m : State)
      → NeverReturns (execute program budgets end s counted_point m)
  stays_execute budgets end (Declare at declaration initial) counted_point m = stays_declare at declaration initial m
  stays_execute budgets end (Goto at wanted) counted_point m = stays_lands budgets (landing wanted (body_of (routine_of program m.frame.function)) 0 end) m
  stays_execute budgets end (Label at label body) counted_point m =
      stays_counted_point budgets at point.Label counted_point (slice_get m.frame.visits counted_point) _ refl
  stays_execute budgets end other counted_point m = goes

  stays_decide : (s : Statement) (counted_point : ℕ) (m : State) → NeverReturns (decide s counted_point m)
  stays_decide (If at test body) counted_point m = stays_branch at (cell_at m 0) _
  stays_decide (IfElse at test body other) counted_point m = stays_branch at (cell_at m 0) _
  stays_decide (While at test body) counted_point m = stays_branch at (cell_at m 0) _
  stays_decide (Do at body test) counted_point m = stays_branch at (cell_at m 0) _
  stays_decide (For at first test last body) counted_point m = stays_branch at (cell_at m 0) _
  stays_decide (Switch at value cases statements) counted_point m = touches refl (keeps_shows never at _ goes)
  stays_decide other counted_point m = goes

  stays_turn : (budgets : RunBudgets) (s : Statement) (counted_point : ℕ) (m : State) → NeverReturns (turn budgets s counted_point m)
  stays_turn budgets (While at test body) counted_point m =
      stays_counted_point budgets at point.Head counted_point (slice_get m.frame.visits counted_point) _ refl
  stays_turn budgets (Do at body test) counted_point m = stays_counted_point budgets at point.Head counted_point (slice_get m.frame.visits counted_point) _ refl
  stays_turn budgets (For at first test last body) counted_point m =
      stays_counted_point budgets at point.Head counted_point (slice_get m.frame.visits counted_point) _ refl
  stays_turn budgets other counted_point m = goes

  -- the thing to do ends the function, or leaves the frame
  abbrev pub IsLast : Item → Type 0
  IsLast (End at value) = ⊤
  IsLast (Give at) = ⊤
  IsLast Leave = ⊤
  IsLast other = ⊥

  -- any thing to do is one of these, or never returns and touches no end of a function
  pub stays_or_leaves : (budgets : RunBudgets) (item : Item) (m : State) → IsLast item ⊎ NeverReturns (do_item program budgets item m)
  stays_or_leaves budgets (Evaluate e) m = inr goes
  stays_or_leaves budgets (EvaluateUnused e) m = inr goes
  stays_or_leaves budgets (Acting (Of at ty form)) m = inr (stays_act budgets at ty form m)
  stays_or_leaves budgets (Fetch (Of at ty form)) m = inr (stays_fetch at form m)
  stays_or_leaves budgets (Choose (Of at ty form)) m = inr (stays_choose at form m)
  stays_or_leaves budgets (Judge at) m = inr (keeps_truth never at (cell_at m 0) (λ holds. keeps_shows never at _ goes))
  stays_or_leaves budgets (Use at) m = inr (keeps_use never (λ m. goes) at (operand_at m 0) m)
  stays_or_leaves budgets Drop m = inr goes
  stays_or_leaves budgets (Store at declaration offset ty) m =
      inr (stays_touches (λ local. Stores m.frame.number local at) (if_scalar (local_type program declaration m) declaration) (λ local. tt) goes)
  stays_or_leaves budgets (Spell declaration offset bytes) m = inr goes
  stays_or_leaves budgets (Execute s counted_point) m = inr (stays_execute budgets (at_end (routine_of program m.frame.function)) s counted_point m)
  stays_or_leaves budgets (Decide s counted_point) m = inr (stays_decide s counted_point m)
  stays_or_leaves budgets (Turn s counted_point) m = inr (stays_turn budgets s counted_point m)
  stays_or_leaves budgets (Again s counted_point) m = inr goes
  stays_or_leaves budgets Out m = inr goes
  stays_or_leaves budgets (Begin at) m = inr (touches refl goes)
  stays_or_leaves budgets (End at value) m = inl tt
  stays_or_leaves budgets (Give at) m = inl tt
  stays_or_leaves budgets Leave m = inl tt
