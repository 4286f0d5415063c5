-- What an expression does with its parts, the code's operation does with its operands.
use Rattle.std.proofs.Common.{◌≡◌, ℕ, zero, suc, ◌+◌, List, [], ◌∷◌, drop, length, Bool, true, false, Option, Some, None, arith, refl, ap}
use Rattle.std.proofs.Common.{◌∙◌, unwrap_or}
use Rattle.cs_types.specs.Shape.{Shape, integer}
use Rattle.cs_ast.specs.declared.place.Place.{Place}
use Rattle.cs_ast.specs.declared.typed.operator.Allocator.{Allocator}
use Rattle.cs_ast.specs.declared.typed.operator.Allocator.TheVariants.{Malloc, Calloc}
use Rattle.cs_ast.specs.TypedTree.{Form, Number, Null, Text, Local, Global, Through, Index, Member, Arrow, Load, Address, Decay, Convert, Unary, Not, Binary}
use Rattle.cs_ast.specs.TypedTree.{Compare, Sum, Difference, And, Or, Choice, Comma, Assign, Update, Move, Call, Allocate, Free, TypedList}
use Rattle.cs_ast.specs.TypedProgram.{TypedProgram}
use Rattle.cs_model.specs.declared.standing.Standing.{Standing}
use Rattle.cs_model.specs.declared.standing.Standing.TheVariants.{Live, Freed, Ended}
use Rattle.std.specs.Ordering.{int_eq}
use Rattle.std.specs.Prelude.{ℤ, pos, ⊤}
use Rattle.cs_events.specs.declared.outcome.RunBudgets.{RunBudgets}
use Rattle.cs_events.specs.Operations.{is_true}
use Rattle.cs_events.specs.Objects.{Object, StartBlock, GlobalObject, LiteralObject, LocalObject, HeapBlock, Cell, NumberCell, NullCell, PointerCell, UnsetCell}
use Rattle.cs_events.specs.Acts.{Act, Goes}
use Rattle.cs_events.specs.Simulation.{Yields, both_go, both_stop, both_ask, both_allocate}
use Rattle.cs_meaning.specs.Types.{size_of, type_of, target_of, integer_of}
use Rattle.cs_meaning.specs.Initials.{number_in, directed}
use Rattle.cs_meaning.specs.Memory.{Block, Fill, UnsetFill, ZeroFill}
use Rattle.cs_types.specs.DataModel.{size_type_of}
use Rattle.cs_ast.specs.declared.typed.operator.BinOp.TheVariants.{Mul}
use Rattle.cs_meaning.specs.Access.{NO_BLOCK, Access, access_of}
use Rattle.cs_meaning.specs.Machine.{Operand, Scalar, Nothing as NoOperand, CallFrame, State, push, push_cell, pop, pop_many, with_memory, operand_at, cell_at}
use Rattle.cs_meaning.specs.Calls.{at_beginning, not_freed, known, releasable, allocated, allocate, release, release_block, release_object}
use Rattle.cs_meaning.specs.Expressions.{pointer_age, amount_age, given, number_at, stores_to, act_form}
use Rattle.cs_cfg.specs.Graph.{Work, Point, Code}
use Rattle.cs_cfg.specs.Working.{CodeState, allocator_takes, takes, do_work}
use Rattle.cs_cfg.specs.Standing.{work_of}
use Rattle.cs_cfg.proofs.Alike.{yields_if, yields_shows, yields_load, yields_store, yields_truth, yields_operate, yields_convert_number, yields_convert}
use Rattle.cs_cfg.proofs.Alike.{yields_sum, yields_compare, yields_difference, yields_arrow}

-- the state of the code's run at a point, with these callers, and with all else as in a state of the machine
abbrev pub as_code : Point → List (CallFrame Point) → State → CodeState
as_code p callers m = record {
  frame = record {
    function = m.frame.function;
    number = m.frame.number;
    todo = p;
    stack = m.frame.stack;
    visits = m.frame.visits;
  };
  callers = callers;
  memory = m.memory;
  frames = m.frames;
  allocations = m.allocations;
  calls = m.calls;
}

-- a state with the same things to do, the same visits and the same callers, and with so many operands
pub record After (m next : State) (depth : ℕ) : Type 0 where
  pub function : next.frame.function ≡ m.frame.function
  pub number : next.frame.number ≡ m.frame.number
  pub todo : next.frame.todo ≡ m.frame.todo
  pub visits : next.frame.visits ≡ m.frame.visits
  pub callers : next.callers ≡ m.callers
  pub deep : length next.frame.stack ≡ depth

-- without so many of the newest operands, the others remain
pub dropped : (count number : ℕ) (operands : List Operand) → length operands ≡ count + number → length (drop count operands) ≡ number
dropped zero number operands e = omega arith
dropped (suc count) number [] e = absurd (omega arith)
dropped (suc count) number (operand ∷ operands) e = dropped count number operands (omega arith)

-- the checks of a release yield the same if their continuations do
module _ {S T : Type 0} (R : S → T → Type 0) where
  yields_at_beginning : (at : Place) (offset : ℤ) {a : Act S} {b : Act T} → Yields R a b → Yields R (at_beginning at offset a) (at_beginning at offset b)
  yields_at_beginning at offset h = yields_if R (int_eq offset (pos 0)) h both_stop

  yields_not_freed : (at : Place) (standing : Standing) {a : Act S} {b : Act T} → Yields R a b
      → Yields R (not_freed at standing a) (not_freed at standing b)
  yields_not_freed at Live h = h
  yields_not_freed at Freed h = both_stop
  yields_not_freed at Ended h = both_stop

  yields_known : (at : Place) (found : Option Block) {a : Act S} {b : Act T} → Yields R a b → Yields R (known at found a) (known at found b)
  yields_known at None h = both_stop
  yields_known at (Some block) h = h

  yields_releasable : (at : Place) (object : Object) {a : Act S} {b : Act T} → Yields R a b → Yields R (releasable at object a) (releasable at object b)
  yields_releasable at (StartBlock path) h = h
  yields_releasable at (HeapBlock allocation) h = h
  yields_releasable at (GlobalObject global) h = both_stop
  yields_releasable at (LiteralObject literal) h = both_stop
  yields_releasable at (LocalObject frame declaration) h = both_stop

module _ (R : State → CodeState → Type 0) (code : Code) (program : TypedProgram) (budgets : RunBudgets) where
  -- if a step leads to a state with so many operands, the code's state at a point is related to it
  abbrev pub Leaves : State → Point → List (CallFrame Point) → ℕ → Type 0
  Leaves m p callers depth = (next : State) → After m next depth → R next (as_code p callers next)

  -- an operation yields the same as what an expression does with its parts, if there are at least as many operands as it takes
  abbrev pub YieldsBy : Place → Shape → Form → Option Work → State → Point → List (CallFrame Point) → ℕ → Type 0
  YieldsBy at ty form None m p callers number = ⊤
  YieldsBy at ty form (Some work) m p callers number =
      length m.frame.stack ≡ takes work + number → Leaves m p callers (suc number)
      → Yields R (act_form program budgets at ty form m) (do_work code program budgets at work (as_code p callers m))

  -- one more operand in place of some others
  pub put : (m next : State) (p : Point) (callers : List (CallFrame Point)) (count number : ℕ) (operand : Operand) → length m.frame.stack ≡ count + number
      → Leaves m p callers (suc number) →
      next.frame.function ≡ m.frame.function → next.frame.number ≡ m.frame.number → next.frame.todo ≡ m.frame.todo
      → next.frame.visits ≡ m.frame.visits → next.callers ≡ m.callers
      → next.frame.stack ≡ operand ∷ drop count m.frame.stack → R next (as_code p callers next)
  put m next p callers count number operand e h function frame todo visits called stack =
      h next (record {
        function = function;
        number = frame;
        todo = todo;
        visits = visits;
        callers = called;
        deep = ap length stack ∙ ap suc (dropped count number m.frame.stack e);
      })

  release_yields : (at : Place) (cell : Cell) (m : State) (p : Point) (callers : List (CallFrame Point)) (number : ℕ) → length m.frame.stack ≡ 1 + number
      → Leaves m p callers (suc number) →
      Yields R (release at cell (pop m)) (release at cell (pop (as_code p callers m)))
  release_yields at NullCell m p callers number e h = yields_shows R at _ (both_go (put m _ p callers 1 number NoOperand e h refl refl refl refl refl refl))
  release_yields at (PointerCell object offset) m p callers number e h = yields_shows R at _ (object_yields object)
    where
      block_yields : (standing : Standing) (object : Object)
          → Yields R (release_block at standing object offset (pop m)) (release_block at standing object offset (pop (as_code p callers m)))
      block_yields standing object =
          yields_not_freed R at standing
          (yields_at_beginning R at offset (both_go (put m _ p callers 1 number NoOperand e h refl refl refl refl refl refl)))

      object_yields : (object : Object) → Yields R (release_object at object offset (pop m)) (release_object at object offset (pop (as_code p callers m)))
      object_yields object =
          yields_releasable R at object
          (yields_known R at (m.memory object) (block_yields (unwrap_or (m.memory object) NO_BLOCK).standing object))
  release_yields at (NumberCell n) m p callers number e h = both_go (put m _ p callers 1 number NoOperand e h refl refl refl refl refl refl)
  release_yields at UnsetCell m p callers number e h = both_go (put m _ p callers 1 number NoOperand e h refl refl refl refl refl refl)

  given_put : (m : State) (p : Point) (callers : List (CallFrame Point)) (count number : ℕ) (element : Shape) (bytes : ℤ) (fill : Fill) (given : Bool)
      → length m.frame.stack ≡ count + number → Leaves m p callers (suc number) →
      R (allocated element bytes fill given (pop_many count m)) (allocated element bytes fill given (pop_many count (as_code p callers m)))
  given_put m p callers count number element bytes fill true e h = put m _ p callers count number _ e h refl refl refl refl refl refl
  given_put m p callers count number element bytes fill false e h = put m _ p callers count number _ e h refl refl refl refl refl refl

  allocate_yields : (at : Place) (allocator : Allocator) (element : Shape) (m : State) (p : Point) (callers : List (CallFrame Point)) (number : ℕ) →
      length m.frame.stack ≡ allocator_takes allocator + number → Leaves m p callers (suc number)
      → Yields R (allocate program at allocator element m) (allocate program at allocator element (as_code p callers m))
  allocate_yields at Malloc element m p callers number e h =
      both_allocate (λ given. both_go (given_put m p callers 1 number element (number_in (cell_at m 0)) UnsetFill given e h))
  allocate_yields at Calloc element m p callers number e h =
      both_ask (λ holds. yields_if R (is_true holds)
      (yields_operate R program.model at Mul (size_type_of program.model) (number_in (cell_at m 1)) (number_in (cell_at m 0))
      (λ bytes. both_allocate (λ given. both_go (given_put m p callers 2 number element bytes ZeroFill given e h))))
      (both_go (given_put m p callers 2 number element (pos 0) ZeroFill false e h)))

  stores_tell : (at : Place) (access : Access) (age : ℕ) (operand : Operand) (count : ℕ) (left : Operand) (m : State) (p : Point)
      (callers : List (CallFrame Point)) (number : ℕ) → length m.frame.stack ≡ count + number → Leaves m p callers (suc number) →
      Yields R (stores_to program at access age operand count left m) (stores_to program at access age operand count left (as_code p callers m))
  stores_tell at access age operand count left m p callers number e h =
      yields_store R program m.memory m.frame.number at access (cell_at m age) operand
      {f = λ memory. Goes (push left (with_memory memory (pop_many count m)))} {g = λ memory.
      Goes (push left (with_memory memory (pop_many count (as_code p callers m))))}
      (λ memory. both_go (put m (push left (with_memory memory (pop_many count m))) p callers count number left e h refl refl refl refl refl refl))

  pub acts_tell : (at : Place) (ty : Shape) (form : Form) (m : State) (p : Point) (callers : List (CallFrame Point)) (number : ℕ) →
      -- calls are proved in another file
      ((function : ℕ) (arguments : TypedList) → YieldsBy at ty (Call function arguments) (work_of program ty (Call function arguments)) m p callers number)
      →
      YieldsBy at ty form (work_of program ty form) m p callers number
  acts_tell at ty (Number n) m p callers number calls = λ e h. both_go (put m _ p callers 0 number _ e h refl refl refl refl refl refl)
  acts_tell at ty Null m p callers number calls = λ e h. both_go (put m _ p callers 0 number _ e h refl refl refl refl refl refl)
  acts_tell at ty (Text literal) m p callers number calls = λ e h. both_go (put m _ p callers 0 number _ e h refl refl refl refl refl refl)
  acts_tell at ty (Local declaration) m p callers number calls = λ e h. both_go (put m _ p callers 0 number _ e h refl refl refl refl refl refl)
  acts_tell at ty (Global global) m p callers number calls = λ e h. both_go (put m _ p callers 0 number _ e h refl refl refl refl refl refl)
  acts_tell at ty (Member a offset) m p callers number calls = λ e h. both_go (put m _ p callers 1 number _ e h refl refl refl refl refl refl)
  acts_tell at ty (Arrow a offset) m p callers number calls = λ e h.
      yields_arrow R at (cell_at m 0) offset
      (λ cell. both_go (put m (push_cell cell (pop m)) p callers 1 number (Scalar cell) e h refl refl refl refl refl refl))
  acts_tell at ty (Load a) m p callers number calls = λ e h.
      yields_load R program m.memory m.frame.number (access_of a) (cell_at m 0)
      (λ memory operand. both_go (put m _ p callers 1 number operand e h refl refl refl refl refl refl))
  acts_tell at ty (Convert a) m p callers number calls = λ e h.
      yields_convert R program.model at (type_of a) ty (operand_at m 0)
      (λ operand. both_go (put m _ p callers 1 number operand e h refl refl refl refl refl refl))
  acts_tell at ty (Unary op a) m p callers number calls = λ e h. both_ask (λ n. both_go (put m _ p callers 1 number _ e h refl refl refl refl refl refl))
  acts_tell at ty (Not a) m p callers number calls = λ e h.
      yields_truth R at (cell_at m 0) (λ holds. yields_shows R at _ (both_go (put m _ p callers 1 number _ e h refl refl refl refl refl refl)))
  acts_tell at ty (Binary op a b) m p callers number calls = λ e h.
      yields_operate R program.model at op (integer_of ty) (number_at m 1) (number_at m 0)
      (λ n. both_go (put m _ p callers 2 number _ e h refl refl refl refl refl refl))
  acts_tell at ty (Compare op a b) m p callers number calls = λ e h.
      yields_compare R at op (cell_at m 1) (cell_at m 0) (λ n. both_go (put m _ p callers 2 number _ e h refl refl refl refl refl refl))
  acts_tell at ty (Difference a b) m p callers number calls = λ e h.
      yields_difference R at (cell_at m 1) (cell_at m 0) (size_of program (target_of (type_of a)))
      (λ n. both_go (put m _ p callers 2 number _ e h refl refl refl refl refl refl))
  acts_tell at ty (Index a i order) m p callers number calls = λ e h.
      yields_sum R program.model at (cell_at m (pointer_age order)) (number_at m (amount_age order)) (size_of program ty)
      (λ cell. both_go (put m _ p callers 2 number _ e h refl refl refl refl refl refl))
  acts_tell at ty (Sum a n direction order) m p callers number calls = λ e h.
      yields_sum R program.model at (cell_at m (pointer_age order)) (directed direction (number_at m (amount_age order))) (size_of program (target_of ty))
      (λ cell. both_go (put m _ p callers 2 number _ e h refl refl refl refl refl refl))
  acts_tell at ty (Assign a b) m p callers number calls = λ e h. stores_tell at (access_of a) 1 (operand_at m 0) 2 (operand_at m 0) m p callers number e h
  acts_tell at ty (Update op a b works_in gives) m p callers number calls = λ e h.
      yields_operate R program.model at op works_in (number_at m 1) (number_at m 0) (λ n.
      yields_convert_number R program.model at (integer works_in) (integer_of (type_of a)) n (λ stored.
      stores_tell at (access_of a) 3 (Scalar (NumberCell stored)) 4 (given gives (operand_at m 2) (Scalar (NumberCell stored))) m p callers number e h))
  acts_tell at ty (Move a n direction gives) m p callers number calls = λ e h.
      yields_sum R program.model at (cell_at m 1) (directed direction (number_at m 0)) (size_of program (target_of (type_of a))) (λ cell.
      stores_tell at (access_of a) 2 (Scalar cell) 3 (given gives (operand_at m 1) (Scalar cell)) m p callers number e h)
  acts_tell at ty (Free a) m p callers number calls = λ e h. release_yields at (cell_at m 0) m p callers number e h
  acts_tell at ty (Through a) m p callers number calls = tt
  acts_tell at ty (Address a) m p callers number calls = tt
  acts_tell at ty (Decay a) m p callers number calls = tt
  acts_tell at ty (And a b) m p callers number calls = tt
  acts_tell at ty (Or a b) m p callers number calls = tt
  acts_tell at ty (Choice a b c) m p callers number calls = tt
  acts_tell at ty (Comma a b) m p callers number calls = tt
  acts_tell at ty (Call function arguments) m p callers number calls = calls function arguments
  acts_tell at ty (Allocate allocator arguments element) m p callers number calls = allocate_yields at allocator element m p callers number
