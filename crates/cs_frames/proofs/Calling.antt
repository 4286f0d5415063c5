-- Calls of functions without a body: for the contracts of `call`, `outside_result` and `start`.
use Rattle.std.proofs.Common.{◌≡◌, ℕ, Bool, true, false, Option, Some, None, List, refl, sym, ap, ◌∙◌}
use Rattle.std.specs.Prelude.{option_map, slice_get, unwrap_or}
use Rattle.std.proofs.lemmas.Option.{slice_get-map}
use Rattle.cs_types.specs.Shape.{Shape, void, integer, pointer, array, struct}
use Rattle.cs_ast.specs.declared.place.Place.{Place}
use Rattle.cs_ast.specs.declared.typed.program.Function.{Function}
use Rattle.cs_ast.specs.declared.typed.program.Program.{Program}
use Rattle.cs_ast.specs.TypedTree.{Statement}
use Rattle.cs_ast.specs.TypedProgram.{TypedProgram, Routine, typed_program, routine}
use Rattle.cs_events.specs.declared.outcome.RunBudgets.{RunBudgets}
use Rattle.cs_events.specs.Acts.{Act}
use Rattle.cs_meaning.specs.Calls.{call, call_routine, outside_result}
use Rattle.cs_meaning.specs.Memory.{Memory}
use Rattle.cs_meaning.specs.Machine.{Operand, Nothing, State, newest, pop_many, routine_of, no_routine, NOWHERE}
use Rattle.cs_frames.specs.Calling.{call_returning, received_result, is_nothing}

-- a function that exists
pub routine_is : (program : Program) (number : ℕ) (f : Function) → slice_get program.functions.items number ≡ Some f
    → routine_of (typed_program program) number ≡ routine f
routine_is program number f there =
    ap (λ (r : Option Routine). unwrap_or r (no_routine NOWHERE)) (slice_get-map routine program.functions.items number ∙ ap (option_map routine) there)

-- a function that doesn't exist
pub routine_none : (program : Program) (number : ℕ) → slice_get program.functions.items number ≡ None
    → routine_of (typed_program program) number ≡ no_routine NOWHERE
routine_none program number none =
    ap (λ (r : Option Routine). unwrap_or r (no_routine NOWHERE)) (slice_get-map routine program.functions.items number ∙ ap (option_map routine) none)

-- a call of a function without a body
pub call_is : (program : TypedProgram) (budgets : RunBudgets) (at : Place) (function count : ℕ) (r : Routine) (m : State) (written : List Bool)
    (arguments : List Operand) (left : State) → routine_of program function ≡ r → r.body ≡ None → written ≡ r.written
    → arguments ≡ newest count m → left ≡ pop_many count m
    → call program budgets at function count m ≡ call_returning program at function r.returns written arguments left
call_is program budgets at function count r m written arguments left there none may were is =
    ap (λ (x : Routine). call_routine program budgets at function x x.body (newest count m) (pop_many count m)) there
    ∙ (ap (λ (b : Option Statement). call_routine program budgets at function r b (newest count m) (pop_many count m)) none
    ∙ (ap (λ (w : List Bool). call_returning program at function r.returns w (newest count m) (pop_many count m)) (sym may)
    ∙ (ap (λ (l : List Operand). call_returning program at function r.returns written l (pop_many count m)) (sym were)
    ∙ ap (λ (n : State). call_returning program at function r.returns written arguments n) (sym is))))

module _ (program : TypedProgram) (call : ℕ) (memory : Memory) where
  -- the result, if its type is `void`
  pub result_nothing : (ty : Shape) → is_nothing ty ≡ true → (onward : Memory → Operand → Act State)
      → outside_result program ty call memory onward ≡ onward memory Nothing
  result_nothing void h onward = refl
  result_nothing (integer ty) h onward = cc
  result_nothing (pointer target) h onward = cc
  result_nothing (array element count) h onward = cc
  result_nothing (struct number) h onward = cc

  -- the result of another type
  pub result_received : (ty : Shape) → is_nothing ty ≡ false
      → ◌≡◌ {A = (Memory → Operand → Act State) → Act State} (outside_result program ty call memory) (received_result program ty call memory)
  result_received void h = cc
  result_received (integer ty) h = refl
  result_received (pointer target) h = refl
  result_received (array element count) h = refl
  result_received (struct number) h = refl
