-- What remains of a frame that has ended.
use Rattle.std.specs.Prelude.{◌≡◌, ◌<◌, ℕ, List, Option, None, Some, length, slice_get, Result, Err}
use Rattle.cs_ast.specs.declared.typed.program.Function.{Function}
use Rattle.cs_regions.specs.declared.base.Base.{Base}
use Rattle.cs_regions.specs.declared.base.Base.TheVariants.{Local}
use Rattle.cs_regions.specs.Numbering.{IsNumbered}
use Rattle.cs_store.specs.declared.value.Fill.TheVariants.{Unset}
use Rattle.cs_store.specs.declared.value.Binding.TheVariants.{Fill}
use Rattle.cs_store.specs.declared.value.Value.{Value}
use Rattle.cs_store.specs.Held.{Regions, held}
use Rattle.cs_terms.specs.Term.{Valuation}
use Rattle.cs_events.specs.declared.outcome.Outcome.TheVariants.{Done}
use Rattle.cs_events.specs.declared.outcome.Returned.TheVariants as returned
use Rattle.cs_meaning.specs.Calls.{returned_of}
use Rattle.cs_state.specs.declared.frame.Frame.{Frame}
use Rattle.cs_state.specs.declared.state.State.{State}
use Rattle.cs_state.specs.declared.temporary.Temporary.{Temporary}
use Rattle.cs_state.specs.declared.temporary.Temporary.TheVariants as temporary
use Rattle.cs_state.specs.Cells.{Blocks, operand_of}
use Rattle.cs_state.specs.Writes.{with_result}
use Rattle.cs_progress.specs.declared.context.Context.{Context}
use Rattle.cs_progress.specs.declared.next.Next.{Next}
use Rattle.cs_progress.specs.declared.next.Next.TheVariants as next
use Rattle.cs_progress.specs.declared.pause.Pause.{Pause}
use Rattle.cs_progress.specs.declared.pause.Pause.TheVariants as pause
use Rattle.cs_progress.specs.Stepping.{result_in}

-- the functions of the program that is explored
abbrev pub functions_of : Context → List Function
functions_of context = context.setting.now.program.now.functions.items

-- this is the number of the base region of a local with this declaration
abbrev pub IsLocalOf : List Base → ℕ → ℕ → ℕ → Type 0
IsLocalOf bases frame declaration number = slice_get bases number ≡ Some (Local frame declaration)

-- the numbers are those of the first `count` locals of a frame, in order, and no base region has two numbers
pub record AreLocals (bases : List Base) (frame count : ℕ) (numbers : List ℕ) : Type 0 where
  pub as_many : length numbers ≡ count
  pub each : (declaration number : ℕ) → slice_get numbers declaration ≡ Some number → IsLocalOf bases frame declaration number
  pub once : 0 < count → IsNumbered bases

-- nothing is set in the locals of a frame
abbrev pub AreUnset : List Function → List Base → Frame → Regions → Type 0
AreUnset functions bases frame store =
    (function : Function) → slice_get functions frame.spot.function ≡ Some function
    → (declaration base offset : ℕ) → declaration < length function.locals.items → IsLocalOf bases frame.number declaration base
    → held store base offset ≡ Fill Unset

-- the entry returns the result of its frame: the same scalar, or nothing. Nothing is stated about a struct
abbrev pub IsReturned : Temporary → Option Value → Type 0
IsReturned (temporary.Scalar value) result = result ≡ Some value
IsReturned (temporary.Whole values) result = Unit {0}
IsReturned temporary.Nothing result = result ≡ None

-- the run ends, and the operation waits with that: the state has the result of the frame as the entry's result, and nothing else changes
pub record EndsRun {T : Type 0} (before after : State) (first : Next) (answer : Result T Pause) (given : Temporary) : Type 0 where
  pub waits : answer ≡ Err pause.Waits
  pub ends : first ≡ next.Ends (Done returned.Nothing)
  pub unchanged : after ≡ with_result after.result before
  pub has_returned : (bases : List Base) (blocks : Blocks) (valuation : Valuation)
      → returned_of (operand_of bases blocks valuation given) ≡ returned_of (result_in bases blocks valuation after.result)
  pub same : IsReturned given after.result
