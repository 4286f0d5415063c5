-- An expression without events doesn't change what remains to be done, the visits and the frames.
use Rattle.std.proofs.Common.{◌≡◌, ℕ, ◌+◌, true, false, not, List, length, Option, Some, None, nat_lt, if◌then◌else◌, refl}
use Rattle.cs_types.specs.Shape.{Shape, integer}
use Rattle.cs_ast.specs.declared.place.Place.{Place}
use Rattle.cs_ast.specs.declared.typed.operator.Allocator.{Allocator}
use Rattle.cs_ast.specs.declared.typed.operator.Allocator.TheVariants.{Malloc, Calloc}
use Rattle.cs_ast.specs.TypedTree.{Typed, Of, Form, Number, Null, Text, Local, Global, Through, Index, Member, Arrow, Load, Address, Decay, Convert, Unary, Not}
use Rattle.cs_ast.specs.TypedTree.{Binary, Compare, Sum, Difference, And, Or, Choice, Comma, Assign, Update, Move, Call, Allocate, Free, Statement}
use Rattle.cs_ast.specs.TypedProgram.{TypedProgram, Routine}
use Rattle.cs_events.specs.declared.event.Label.TheVariants as label
use Rattle.cs_events.specs.declared.outcome.Outcome.TheVariants.{Over}
use Rattle.cs_events.specs.declared.outcome.Budget.TheVariants.{Depth}
use Rattle.cs_events.specs.declared.outcome.RunBudgets.{RunBudgets}
use Rattle.cs_events.specs.Objects.{Cell, NumberCell, NullCell, PointerCell, UnsetCell}
use Rattle.cs_events.specs.Acts.{Goes, Stops}
use Rattle.cs_events.specs.Silence.{Owes, owes_next, stops, asks, allocates}
use Rattle.cs_meaning.specs.Types.{size_of, type_of, target_of, integer_of}
use Rattle.cs_meaning.specs.Initials.{number_in, truth_cell, directed}
use Rattle.cs_meaning.specs.Access.{shows_then}
use Rattle.cs_meaning.specs.Operators.{convert_number}
use Rattle.cs_meaning.specs.Machine.{Operand, Scalar, Whole, Nothing, State, push, push_cell, pop, pop_many, with_memory, operand_at, cell_of, cell_at, newest}
use Rattle.cs_meaning.specs.Machine.{routine_of}
use Rattle.cs_meaning.specs.Calls.{call_routine, entered, allocate, release}
use Rattle.cs_meaning.specs.Expressions.{count_all, given, number_at, pointer_age, amount_age, stores, updates, moves, act_form, act, fetch_form, fetch}
use Rattle.cs_meaning.specs.Expressions.{goes_on_to, goes_to, choose_form, choose, judge, use_result}
use Rattle.cs_meaning.proofs.Owing.{owes_if, owes_truth, owes_branch, owes_operate, owes_convert_number, owes_convert, owes_sum, owes_compare, owes_difference}
use Rattle.cs_meaning.proofs.Owing.{owes_arrow, owes_set, owes_load, owes_store}

-- a state with the same remaining items, visits and callers
pub record Keeps (m next : State) : Type 0 where
  pub visits : next.frame.visits ≡ m.frame.visits
  pub callers : next.callers ≡ m.callers
  pub todo : next.frame.todo ≡ m.frame.todo

module _ (program : TypedProgram) (budgets : RunBudgets) where
  stores_keeps : (at : Place) (a : Typed) (age : ℕ) (operand : Operand) (count : ℕ) (left : Operand) (m : State)
      → Owes (Keeps m) (stores program at a age operand count left m)
  stores_keeps at a age operand count left m =
      owes_store (Keeps m) program m.memory m.frame.number at a (cell_at m age) operand (λ memory. Goes (push left (with_memory memory (pop_many count m))))
      (λ memory. owes_next (record { visits = refl; callers = refl; todo = refl }))

  call_keeps : (at : Place) (function : ℕ) (routine : Routine) (body : Option Statement) (arguments : List Operand) (m before : State)
      → Owes (Keeps before) (call_routine program budgets at function routine body arguments m)
  call_keeps at function routine None arguments m before = asks
  call_keeps at function routine (Some body) arguments m before =
      owes_if (Keeps before) (nat_lt (length m.callers + 1) budgets.depth)
      (shows_then at (label.Callee function) (Goes (entered program function routine arguments m))) (Stops (Over Depth at)) asks stops

  allocate_keeps : (at : Place) (allocator : Allocator) (element : Shape) (m : State) → Owes (Keeps m) (allocate program at allocator element m)
  allocate_keeps at Malloc element m = allocates
  allocate_keeps at Calloc element m = asks

  release_keeps : (at : Place) (cell : Cell) (m before : State) → Keeps before (push Nothing m) → Owes (Keeps before) (release at cell m)
  release_keeps at NullCell m before kept = asks
  release_keeps at (PointerCell object offset) m before kept = asks
  release_keeps at (NumberCell n) m before kept = owes_next kept
  release_keeps at UnsetCell m before kept = owes_next kept

  act_form_keeps : (at : Place) (ty : Shape) (form : Form) (m : State) → Owes (Keeps m) (act_form program budgets at ty form m)
  act_form_keeps at ty (Number n) m = owes_next (record { visits = refl; callers = refl; todo = refl })
  act_form_keeps at ty Null m = owes_next (record { visits = refl; callers = refl; todo = refl })
  act_form_keeps at ty (Text literal) m = owes_next (record { visits = refl; callers = refl; todo = refl })
  act_form_keeps at ty (Local declaration) m = owes_next (record { visits = refl; callers = refl; todo = refl })
  act_form_keeps at ty (Global global) m = owes_next (record { visits = refl; callers = refl; todo = refl })
  act_form_keeps at ty (Through a) m = owes_next (record { visits = refl; callers = refl; todo = refl })
  act_form_keeps at ty (Index a i order) m =
      owes_sum (Keeps m) program.model at (cell_at m (pointer_age order)) (number_at m (amount_age order)) (size_of program ty)
      (λ cell. Goes (push_cell cell (pop_many 2 m)))
      (λ cell. owes_next (record { visits = refl; callers = refl; todo = refl }))
  act_form_keeps at ty (Member a offset) m = owes_next (record { visits = refl; callers = refl; todo = refl })
  act_form_keeps at ty (Arrow a offset) m =
      owes_arrow (Keeps m) at (cell_at m 0) offset (λ cell. Goes (push_cell cell (pop m)))
      (λ cell. owes_next (record { visits = refl; callers = refl; todo = refl }))
  act_form_keeps at ty (Load a) m =
      owes_load (Keeps m) program m.memory m.frame.number a (cell_at m 0) (λ memory operand. Goes (push operand (with_memory memory (pop m))))
      (λ memory operand. owes_next (record { visits = refl; callers = refl; todo = refl }))
  act_form_keeps at ty (Address a) m = owes_next (record { visits = refl; callers = refl; todo = refl })
  act_form_keeps at ty (Decay a) m = owes_next (record { visits = refl; callers = refl; todo = refl })
  act_form_keeps at ty (Convert a) m =
      owes_convert (Keeps m) program.model at (type_of a) ty (operand_at m 0) (λ operand. Goes (push operand (pop m)))
      (λ operand. owes_next (record { visits = refl; callers = refl; todo = refl }))
  act_form_keeps at ty (Unary op a) m = asks
  act_form_keeps at ty (Not a) m =
      owes_truth (Keeps m) at (cell_at m 0) (λ holds. shows_then at (label.Truth (not holds)) (Goes (push_cell (truth_cell (not holds)) (pop m))))
      (λ holds. asks)
  act_form_keeps at ty (Binary op a b) m =
      owes_operate (Keeps m) program.model at op (integer_of ty) (number_at m 1) (number_at m 0)
      (λ number. Goes (push_cell (NumberCell number) (pop_many 2 m)))
  act_form_keeps at ty (Compare op a b) m =
      owes_compare (Keeps m) at op (cell_at m 1) (cell_at m 0) (λ number. Goes (push_cell (NumberCell number) (pop_many 2 m)))
  act_form_keeps at ty (Sum a n direction order) m =
      owes_sum (Keeps m) program.model at (cell_at m (pointer_age order)) (directed direction (number_at m (amount_age order))) (size_of program (target_of ty))
      (λ cell. Goes (push_cell cell (pop_many 2 m)))
      (λ cell. owes_next (record { visits = refl; callers = refl; todo = refl }))
  act_form_keeps at ty (Difference a b) m =
      owes_difference (Keeps m) at (cell_at m 1) (cell_at m 0) (size_of program (target_of (type_of a)))
      (λ number. Goes (push_cell (NumberCell number) (pop_many 2 m)))
  act_form_keeps at ty (And a b) m = owes_next (record { visits = refl; callers = refl; todo = refl })
  act_form_keeps at ty (Or a b) m = owes_next (record { visits = refl; callers = refl; todo = refl })
  act_form_keeps at ty (Choice a b c) m = owes_next (record { visits = refl; callers = refl; todo = refl })
  act_form_keeps at ty (Comma a b) m = owes_next (record { visits = refl; callers = refl; todo = refl })
  act_form_keeps at ty (Assign a b) m = stores_keeps at a 1 (operand_at m 0) 2 (operand_at m 0) m
  act_form_keeps at ty (Update op a b works_in gives) m =
      owes_operate (Keeps m) program.model at op works_in (number_at m 1) (number_at m 0) (λ number.
      convert_number program.model at (integer works_in) (integer_of (type_of a)) number (λ stored. updates program at a gives stored m))
  act_form_keeps at ty (Move a n direction gives) m =
      owes_sum (Keeps m) program.model at (cell_at m 1) (directed direction (number_at m 0)) (size_of program (target_of (type_of a)))
      (λ cell. moves program at a gives cell m)
      (λ cell. stores_keeps at a 2 (Scalar cell) 3 (given gives (operand_at m 1) (Scalar cell)) m)
  act_form_keeps at ty (Call function arguments) m =
      call_keeps at function (routine_of program function) (routine_of program function).body (newest (count_all arguments) m)
      (pop_many (count_all arguments) m) m
  act_form_keeps at ty (Allocate allocator arguments element) m = allocate_keeps at allocator element m
  act_form_keeps at ty (Free a) m = release_keeps at (cell_at m 0) (pop m) m (record { visits = refl; callers = refl; todo = refl })

  pub act_keeps : (e : Typed) (m : State) → Owes (Keeps m) (act program budgets e m)
  act_keeps (Of at ty form) m = act_form_keeps at ty form m

  fetch_form_keeps : (at : Place) (form : Form) (m : State) → Owes (Keeps m) (fetch_form program at form m)
  fetch_form_keeps at (Update op a b works_in gives) m =
      owes_load (Keeps m) program m.memory m.frame.number a (cell_at m 0)
      (λ memory operand.
      convert_number program.model at (type_of a) works_in (number_in (cell_of operand))
      (λ number. Goes (push_cell (NumberCell number) (push operand (with_memory memory m)))))
      (λ memory operand.
      owes_convert_number (Keeps m) program.model at (type_of a) works_in (number_in (cell_of operand))
      (λ number. Goes (push_cell (NumberCell number) (push operand (with_memory memory m))))
      (λ number. owes_next (record { visits = refl; callers = refl; todo = refl })))
  fetch_form_keeps at (Move a n direction gives) m =
      owes_load (Keeps m) program m.memory m.frame.number a (cell_at m 0) (λ memory operand. Goes (push operand (with_memory memory m)))
      (λ memory operand. owes_next (record { visits = refl; callers = refl; todo = refl }))
  fetch_form_keeps at (Number n) m = owes_next (record { visits = refl; callers = refl; todo = refl })
  fetch_form_keeps at Null m = owes_next (record { visits = refl; callers = refl; todo = refl })
  fetch_form_keeps at (Text literal) m = owes_next (record { visits = refl; callers = refl; todo = refl })
  fetch_form_keeps at (Local declaration) m = owes_next (record { visits = refl; callers = refl; todo = refl })
  fetch_form_keeps at (Global global) m = owes_next (record { visits = refl; callers = refl; todo = refl })
  fetch_form_keeps at (Through a) m = owes_next (record { visits = refl; callers = refl; todo = refl })
  fetch_form_keeps at (Index a i order) m = owes_next (record { visits = refl; callers = refl; todo = refl })
  fetch_form_keeps at (Member a offset) m = owes_next (record { visits = refl; callers = refl; todo = refl })
  fetch_form_keeps at (Arrow a offset) m = owes_next (record { visits = refl; callers = refl; todo = refl })
  fetch_form_keeps at (Load a) m = owes_next (record { visits = refl; callers = refl; todo = refl })
  fetch_form_keeps at (Address a) m = owes_next (record { visits = refl; callers = refl; todo = refl })
  fetch_form_keeps at (Decay a) m = owes_next (record { visits = refl; callers = refl; todo = refl })
  fetch_form_keeps at (Convert a) m = owes_next (record { visits = refl; callers = refl; todo = refl })
  fetch_form_keeps at (Unary op a) m = owes_next (record { visits = refl; callers = refl; todo = refl })
  fetch_form_keeps at (Not a) m = owes_next (record { visits = refl; callers = refl; todo = refl })
  fetch_form_keeps at (Binary op a b) m = owes_next (record { visits = refl; callers = refl; todo = refl })
  fetch_form_keeps at (Compare op a b) m = owes_next (record { visits = refl; callers = refl; todo = refl })
  fetch_form_keeps at (Sum a n direction order) m = owes_next (record { visits = refl; callers = refl; todo = refl })
  fetch_form_keeps at (Difference a b) m = owes_next (record { visits = refl; callers = refl; todo = refl })
  fetch_form_keeps at (And a b) m = owes_next (record { visits = refl; callers = refl; todo = refl })
  fetch_form_keeps at (Or a b) m = owes_next (record { visits = refl; callers = refl; todo = refl })
  fetch_form_keeps at (Choice a b c) m = owes_next (record { visits = refl; callers = refl; todo = refl })
  fetch_form_keeps at (Comma a b) m = owes_next (record { visits = refl; callers = refl; todo = refl })
  fetch_form_keeps at (Assign a b) m = owes_next (record { visits = refl; callers = refl; todo = refl })
  fetch_form_keeps at (Call function arguments) m = owes_next (record { visits = refl; callers = refl; todo = refl })
  fetch_form_keeps at (Allocate allocator arguments element) m = owes_next (record { visits = refl; callers = refl; todo = refl })
  fetch_form_keeps at (Free a) m = owes_next (record { visits = refl; callers = refl; todo = refl })

  pub fetch_keeps : (e : Typed) (m : State) → Owes (Keeps m) (fetch program e m)
  fetch_keeps (Of at ty form) m = fetch_form_keeps at form m

  choose_form_keeps : (at : Place) (form : Form) (m : State) → Owes (Keeps m) (choose_form at form m)
  choose_form_keeps at (And a b) m = owes_branch (Keeps m) at (cell_at m 0) (λ holds. Goes (goes_on_to holds at b false (pop m)))
  choose_form_keeps at (Or a b) m = owes_branch (Keeps m) at (cell_at m 0) (λ holds. Goes (goes_on_to (not holds) at b true (pop m)))
  choose_form_keeps at (Choice a b c) m = owes_branch (Keeps m) at (cell_at m 0) (λ holds. Goes (goes_to (if holds then b else c) (pop m)))
  choose_form_keeps at (Number n) m = owes_next (record { visits = refl; callers = refl; todo = refl })
  choose_form_keeps at Null m = owes_next (record { visits = refl; callers = refl; todo = refl })
  choose_form_keeps at (Text literal) m = owes_next (record { visits = refl; callers = refl; todo = refl })
  choose_form_keeps at (Local declaration) m = owes_next (record { visits = refl; callers = refl; todo = refl })
  choose_form_keeps at (Global global) m = owes_next (record { visits = refl; callers = refl; todo = refl })
  choose_form_keeps at (Through a) m = owes_next (record { visits = refl; callers = refl; todo = refl })
  choose_form_keeps at (Index a i order) m = owes_next (record { visits = refl; callers = refl; todo = refl })
  choose_form_keeps at (Member a offset) m = owes_next (record { visits = refl; callers = refl; todo = refl })
  choose_form_keeps at (Arrow a offset) m = owes_next (record { visits = refl; callers = refl; todo = refl })
  choose_form_keeps at (Load a) m = owes_next (record { visits = refl; callers = refl; todo = refl })
  choose_form_keeps at (Address a) m = owes_next (record { visits = refl; callers = refl; todo = refl })
  choose_form_keeps at (Decay a) m = owes_next (record { visits = refl; callers = refl; todo = refl })
  choose_form_keeps at (Convert a) m = owes_next (record { visits = refl; callers = refl; todo = refl })
  choose_form_keeps at (Unary op a) m = owes_next (record { visits = refl; callers = refl; todo = refl })
  choose_form_keeps at (Not a) m = owes_next (record { visits = refl; callers = refl; todo = refl })
  choose_form_keeps at (Binary op a b) m = owes_next (record { visits = refl; callers = refl; todo = refl })
  choose_form_keeps at (Compare op a b) m = owes_next (record { visits = refl; callers = refl; todo = refl })
  choose_form_keeps at (Sum a n direction order) m = owes_next (record { visits = refl; callers = refl; todo = refl })
  choose_form_keeps at (Difference a b) m = owes_next (record { visits = refl; callers = refl; todo = refl })
  choose_form_keeps at (Comma a b) m = owes_next (record { visits = refl; callers = refl; todo = refl })
  choose_form_keeps at (Assign a b) m = owes_next (record { visits = refl; callers = refl; todo = refl })
  choose_form_keeps at (Update op a b works_in gives) m = owes_next (record { visits = refl; callers = refl; todo = refl })
  choose_form_keeps at (Move a n direction gives) m = owes_next (record { visits = refl; callers = refl; todo = refl })
  choose_form_keeps at (Call function arguments) m = owes_next (record { visits = refl; callers = refl; todo = refl })
  choose_form_keeps at (Allocate allocator arguments element) m = owes_next (record { visits = refl; callers = refl; todo = refl })
  choose_form_keeps at (Free a) m = owes_next (record { visits = refl; callers = refl; todo = refl })

  pub choose_keeps : (e : Typed) (m : State) → Owes (Keeps m) (choose e m)
  choose_keeps (Of at ty form) m = choose_form_keeps at form m

  pub judge_keeps : (at : Place) (m : State) → Owes (Keeps m) (judge at m)
  judge_keeps at m = owes_truth (Keeps m) at (cell_at m 0) (λ holds. shows_then at (label.Truth holds) (Goes (push_cell (truth_cell holds) (pop m))))
      (λ holds. asks)

  pub use_keeps : (at : Place) (operand : Operand) (m : State) → Owes (Keeps m) (use_result at operand m)
  use_keeps at (Scalar cell) m = owes_set (Keeps m) at cell (Goes m) (owes_next (record { visits = refl; callers = refl; todo = refl }))
  use_keeps at (Whole cells) m = owes_next (record { visits = refl; callers = refl; todo = refl })
  use_keeps at Nothing m = owes_next (record { visits = refl; callers = refl; todo = refl })
