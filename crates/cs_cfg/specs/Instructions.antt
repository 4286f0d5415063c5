-- The instruction at a point, how many operands it takes, and the spot at which the code continues after it.
use Rattle.std.specs.Prelude.{◌≡◌, ℕ, ◌^◌, ◌≤◌, List, [], ◌∷◌, ◌⊎◌, Option, Some, None, option_map}
use Rattle.cs_ast.specs.TypedProgram.{TypedProgram}
use Rattle.cs_events.specs.declared.outcome.RunBudgets.{RunBudgets}
use Rattle.cs_events.specs.Acts.{Act}
use Rattle.cs_meaning.specs.Machine.{to_do}
use Rattle.cs_cfg.specs.declared.code.Spot.{Spot}
use Rattle.cs_cfg.specs.declared.instructions.Instruction.{Instruction}
use Rattle.cs_cfg.specs.declared.instructions.Instruction.TheVariants as instruction
use Rattle.cs_cfg.specs.Graph.{Operation, BlockEnd, Jump, Branch, Switch, Return, Finish, Point, Code, before, no_point}
use Rattle.cs_cfg.specs.GraphView as view
use Rattle.cs_cfg.specs.Working.{CodeState, takes}
use Rattle.cs_cfg.specs.CodeSteps.{do_end, do_operation}
use Rattle.cs_cfg.specs.Spots.{SpotState, point_of, begins, after, at_points}

-- this instruction is the first at a point, and the other point is the rest
abbrev pub IsFirst : Instruction → Point → Point → Type 0
IsFirst (instruction.CountedPoint counted_point) here following = here ≡ before (view.reaching counted_point.now) following
IsFirst (instruction.Operation operation) here following = here ≡ before (view.operation operation.now) following
IsFirst (instruction.End end) here following = here ≡ record { operations = []; end = view.block_end end.now }
IsFirst instruction.Nowhere here following = here ≡ no_point

-- how many operands the end of a block takes
abbrev pub takes_at_end : BlockEnd → ℕ
takes_at_end (Jump block) = 0
takes_at_end (Branch at temporary one other) = 1
takes_at_end (Switch at temporary cases otherwise) = 1
takes_at_end (Return temporary) = 1
takes_at_end Finish = 0

-- how many operands the first instruction at a point takes
abbrev pub takes_first : List Operation → BlockEnd → ℕ
takes_first [] end = takes_at_end end
takes_first (operation ∷ operations) end = takes operation.work

abbrev pub takes_from : Point → ℕ
takes_from p = takes_first p.operations p.end

-- the block to which the end of a block leads in any run
abbrev pub jump_of_end : BlockEnd → Option ℕ
jump_of_end (Jump block) = Some block
jump_of_end other = None

-- the block to which a point jumps at once, if it does
abbrev pub jump_first : List Operation → BlockEnd → Option ℕ
jump_first [] end = jump_of_end end
jump_first (operation ∷ operations) end = None

abbrev pub jump_from : Point → Option ℕ
jump_from p = jump_first p.operations p.end

-- the target of the jump at a spot, if there is one
abbrev pub jump_at : Code → Spot → Option Spot
jump_at code spot = option_map (begins spot.function) (jump_from (point_of code spot))

-- only jumps lead from a spot to another
pub data JumpsTo (code : Code) : Spot → Spot → Type 0 where
  here : {spot : Spot} → JumpsTo code spot spot
  jumps : {spot next last : Spot} → jump_at code spot ≡ Some next → JumpsTo code next last → JumpsTo code spot last

-- the jumps from a spot never end
abbrev pub JumpsForEver : Code → Spot → Type 0
JumpsForEver code spot = (last : Spot) → JumpsTo code spot last → (next : Spot) × (jump_at code last ≡ Some next)

-- the spot that a frame at a spot gets to by jumps; none if they never end
abbrev pub IsSettled : Code → Spot → Option Spot → Type 0
IsSettled code spot (Some last) = JumpsTo code spot last × (jump_at code last ≡ None)
IsSettled code spot None = JumpsForEver code spot

-- the spot to which the instruction at a spot leads in any run that continues there: the next one after an operation, or the target of a jump
abbrev pub leads_first : Spot → List Operation → BlockEnd → Option Spot
leads_first spot [] end = option_map (begins spot.function) (jump_of_end end)
leads_first spot (operation ∷ operations) end = Some (after spot)

abbrev pub leads_at : Code → Spot → Option Spot
leads_at code spot = leads_first spot (point_of code spot).operations (point_of code spot).end

-- the number of the spot's operation has more than 32 bits
abbrev pub IsTooFar : Spot → Type 0
IsTooFar spot = 2 ^ 32 ≤ spot.operation

-- the next spot in the block, if it has a number
abbrev pub IsAfter : Spot → Option Spot → Type 0
IsAfter spot (Some next) = next ≡ after spot
IsAfter spot None = IsTooFar (after spot)

-- the spot to which the instruction at a spot leads, if it has a number
abbrev pub IsLed : Code → Spot → Option Spot → Type 0
IsLed code spot (Some next) = leads_at code spot ≡ Some next
IsLed code spot None = (next : Spot) → leads_at code spot ≡ Some next → IsTooFar next

-- the spot of a frame after the instruction at a spot, in any run that continues there; none if that depends on the run, the frame returns,
-- jumps never end, or the spot has no number
abbrev pub IsNext : Code → Spot → Option Spot → Type 0
IsNext code spot (Some last) = (next : Spot) × (leads_at code spot ≡ Some next) × IsSettled code next (Some last)
IsNext code spot None = (next : Spot) → leads_at code spot ≡ Some next → JumpsForEver code next ⊎ IsTooFar next

-- the step of the run from a state whose frames are at spots: an operation works in the state at the next spot
abbrev pub step_first : Code → TypedProgram → RunBudgets → List Operation → BlockEnd → SpotState → Act CodeState
step_first code program budgets [] end m = do_end code end (at_points code m)
step_first code program budgets (operation ∷ operations) end m =
    do_operation code program budgets operation (at_points code (to_do (after m.frame.todo) m))

abbrev pub spot_step : Code → TypedProgram → RunBudgets → SpotState → Act CodeState
spot_step code program budgets m =
    step_first code program budgets (point_of code m.frame.todo).operations (point_of code m.frame.todo).end m
