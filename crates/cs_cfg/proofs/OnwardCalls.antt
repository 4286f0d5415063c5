-- The same for calls, allocations, releases and counted points.
use Rattle.std.proofs.Common.{ℕ, ◌+◌, nat_lt, ℤ, pos, int_eq, Bool, true, false, List, [], ◌∷◌, length, Option, Some, None, unwrap_or}
use Rattle.cs_types.specs.DataModel.{size_type_of}
use Rattle.cs_types.specs.Shape.{Shape, void, integer, pointer, array, struct}
use Rattle.cs_inputs.specs.declared.path.Path.{Path}
use Rattle.cs_ast.specs.declared.place.Place.{Place}
use Rattle.cs_ast.specs.declared.typed.operator.Allocator.{Allocator}
use Rattle.cs_ast.specs.declared.typed.operator.Allocator.TheVariants.{Malloc, Calloc}
use Rattle.cs_ast.specs.declared.typed.operator.BinOp.TheVariants.{Mul}
use Rattle.cs_ast.specs.TypedProgram.{TypedProgram, Routine}
use Rattle.cs_model.specs.declared.standing.Standing.{Standing}
use Rattle.cs_model.specs.declared.standing.Standing.TheVariants.{Live, Freed, Ended}
use Rattle.cs_events.specs.declared.outcome.RunBudgets.{RunBudgets}
use Rattle.cs_events.specs.Operations.{is_true}
use Rattle.cs_events.specs.Objects.{Object, StartBlock, GlobalObject, LiteralObject, LocalObject, HeapBlock, Cell, NumberCell, NullCell, PointerCell, UnsetCell}
use Rattle.cs_events.specs.Acts.{Act, Goes}
use Rattle.cs_meaning.specs.Memory.{Block, Memory, Unknown}
use Rattle.cs_meaning.specs.Machine.{Operand, Scalar, Whole, Nothing, CallFrame, Running, cell_of}
use Rattle.cs_meaning.specs.Access.{NO_BLOCK}
use Rattle.cs_meaning.specs.Calls.{wrote_path, result_path, write_through, write_arguments, outside_result, call_outside, within_depth, enter_as, allocate}
use Rattle.cs_meaning.specs.Calls.{at_beginning, not_freed, known, releasable, release_block, release_object, release}
use Rattle.cs_meaning.specs.Expressions.{use_result}
use Rattle.cs_cfg.proofs.Onward.{Inherited, Each, EachOfTwo, keeps_if, keeps_shows, keeps_receive, keeps_set, keeps_operate}

module _ {S : Type 0} {P : Act S → Type 0} (inherited : Inherited P) where
  -- a call of a function without a body writes through its arguments, and returns a result
  keeps_through : (program : TypedProgram) (at : Place) (path : Path) (cell : Cell) (memory : Memory) {f : Memory → Act S} → Each inherited f
      → P (write_through program at path cell memory f)
  keeps_through program at path NullCell memory h = keeps_shows inherited at _ (h memory)
  keeps_through program at path (PointerCell object offset) memory h = keeps_shows inherited at _ (h _)
  keeps_through program at path (NumberCell n) memory h = h memory
  keeps_through program at path UnsetCell memory h = h memory

  pub keeps_arguments : (program : TypedProgram) (at : Place) (call argument : ℕ) (written : List Bool) (operands : List Operand)
      (memory : Memory) {f : Memory → Act S} → Each inherited f →
      P (write_arguments program at call argument written operands memory f)
  keeps_arguments program at call argument (true ∷ written) (operand ∷ operands) memory h =
      keeps_through program at (wrote_path call argument) (cell_of operand) memory
      (λ after. keeps_arguments program at call (argument + 1) written operands after h)
  keeps_arguments program at call argument (false ∷ written) (operand ∷ operands) memory h =
      keeps_arguments program at call (argument + 1) written operands memory h
  keeps_arguments program at call argument [] operands memory h = h memory
  keeps_arguments program at call argument (true ∷ written) [] memory h = h memory
  keeps_arguments program at call argument (false ∷ written) [] memory h = h memory

  pub keeps_result : (program : TypedProgram) (ty : Shape) (call : ℕ) (memory : Memory) {f : Memory → Operand → Act S} → EachOfTwo inherited f
      → P (outside_result program ty call memory f)
  keeps_result program void call memory h = h memory Nothing
  keeps_result program (integer ty) call memory h =
      keeps_receive inherited program memory (Unknown (result_path call) (integer ty)) (λ after cell. h after (Scalar cell))
  keeps_result program (pointer target) call memory h =
      keeps_receive inherited program memory (Unknown (result_path call) (pointer target)) (λ after cell. h after (Scalar cell))
  keeps_result program (array element count) call memory h =
      keeps_receive inherited program memory (Unknown (result_path call) (array element count)) (λ after cell. h after (Scalar cell))
  keeps_result program (struct tag) call memory h =
      keeps_receive inherited program memory (Unknown (result_path call) (struct tag)) (λ after cell. h after (Scalar cell))

  -- a check of a release, and of the budget of depth
  pub keeps_at_beginning : (at : Place) (offset : ℤ) {a : Act S} → P a → P (at_beginning at offset a)
  keeps_at_beginning at offset h = keeps_if inherited (int_eq offset (pos 0)) h (inherited.stops tt)

  pub keeps_not_freed : (at : Place) (standing : Standing) {a : Act S} → P a → P (not_freed at standing a)
  keeps_not_freed at Live h = h
  keeps_not_freed at Freed h = inherited.stops tt
  keeps_not_freed at Ended h = inherited.stops tt

  pub keeps_known : (at : Place) (found : Option Block) {a : Act S} → P a → P (known at found a)
  keeps_known at None h = inherited.stops tt
  keeps_known at (Some block) h = h

  pub keeps_releasable : (at : Place) (object : Object) {a : Act S} → P a → P (releasable at object a)
  keeps_releasable at (StartBlock path) h = h
  keeps_releasable at (HeapBlock allocation) h = h
  keeps_releasable at (GlobalObject global) h = inherited.stops tt
  keeps_releasable at (LiteralObject literal) h = inherited.stops tt
  keeps_releasable at (LocalObject frame declaration) h = inherited.stops tt

  pub keeps_within_depth : (budgets : RunBudgets) (at : Place) (frames : ℕ) {a : Act S} → P a → P (within_depth budgets at frames a)
  keeps_within_depth budgets at frames h = keeps_if inherited (nat_lt frames budgets.depth) h (inherited.stops tt)

-- a property that holds for continuing, too
module _ {Rest : Type 0} {P : Act (Running Rest) → Type 0} (inherited : Inherited P) (goes : (m : Running Rest) → P (Goes m)) where
  -- a block is freed
  keeps_block : (at : Place) (standing : Standing) (object : Object) (offset : ℤ) (m : Running Rest) → P (release_block at standing object offset m)
  keeps_block at standing object offset m = keeps_not_freed inherited at standing (keeps_at_beginning inherited at offset (goes _))

  keeps_object : (at : Place) (object : Object) (offset : ℤ) (m : Running Rest) → P (release_object at object offset m)
  keeps_object at object offset m =
      keeps_releasable inherited at object
      (keeps_known inherited at (m.memory object) (keeps_block at (unwrap_or (m.memory object) NO_BLOCK).standing object offset m))

  pub keeps_release : (at : Place) (cell : Cell) (m : Running Rest) → P (release at cell m)
  keeps_release at NullCell m = keeps_shows inherited at _ (goes _)
  keeps_release at (PointerCell object offset) m = keeps_shows inherited at _ (keeps_object at object offset m)
  keeps_release at (NumberCell n) m = goes _
  keeps_release at UnsetCell m = goes _

  pub keeps_allocate : (program : TypedProgram) (at : Place) (allocator : Allocator) (element : Shape) (m : Running Rest)
      → P (allocate program at allocator element m)
  keeps_allocate program at Malloc element m = inherited.allocates (λ given. goes _)
  keeps_allocate program at Calloc element m =
      inherited.asks (λ holds.
      keeps_if inherited (is_true holds)
      (keeps_operate inherited program.model at Mul (size_type_of program.model) _ _ (λ bytes. inherited.allocates (λ given. goes _))) (goes _))

  -- a function with or without a body is called
  pub keeps_enter : (program : TypedProgram) (budgets : RunBudgets) (begins : ℕ
      → CallFrame Rest) (at : Place) (function : ℕ) (routine : Routine) (operands : List Operand) (m : Running Rest)
      → P (enter_as program budgets begins at function routine operands m)
  keeps_enter program budgets begins at function routine operands m =
      keeps_within_depth inherited budgets at (length m.callers + 1) (keeps_shows inherited at _ (goes _))

  pub keeps_outside : (program : TypedProgram) (at : Place) (function : ℕ) (routine : Routine) (operands : List Operand) (m : Running Rest)
      → P (call_outside program at function routine operands m)
  keeps_outside program at function routine operands m =
      keeps_shows inherited at _ (keeps_result inherited program routine.returns (m.calls + 1) m.memory
      (λ memory result. keeps_arguments inherited program at (m.calls + 1) 0 routine.written operands memory (λ after. goes _)))

  -- the result of a call is used
  pub keeps_use : (at : Place) (operand : Operand) (m : Running Rest) → P (use_result at operand m)
  keeps_use at (Scalar cell) m = keeps_set inherited at cell (goes _)
  keeps_use at (Whole cells) m = goes _
  keeps_use at Nothing m = goes _
