-- Spots, the positions of a run in the code: a function, a block of it and a number in the block. The point at a spot is the rest of the
-- block; a state whose frames are at spots represents one whose frames are at the points there.
use Rattle.std.specs.Prelude.{ℕ, zero, suc, ◌+◌, List, [], ◌∷◌, length, map, Option, Some, None, option_map, unwrap_or, slice_get}
use Rattle.std.specs.Option.{option_and_then}
use Rattle.cs_meaning.specs.Machine.{CallFrame, Running}
use Rattle.cs_cfg.specs.declared.code.Spot.{Spot}
use Rattle.cs_cfg.specs.Graph.{Operation, Point, Code, no_point, flow_of}
use Rattle.cs_cfg.specs.Working.{CodeState}

-- the rest of a list from the element with a number on; just after the last one it is empty
abbrev pub rest_from : ℕ → List Operation → Option (List Operation)
rest_from zero operations = Some operations
rest_from (suc number) [] = None
rest_from (suc number) (operation ∷ operations) = rest_from number operations

-- the rest of a block from the operation with a number on
abbrev pub point_in : Point → ℕ → Option Point
point_in block number = option_map (λ operations. record { operations = operations; end = block.end }) (rest_from number block.operations)

-- the block of a spot, if there is one
abbrev pub block_at : Code → Spot → Option Point
block_at code spot = option_and_then (λ flow. slice_get flow.blocks spot.block) (flow_of code spot.function)

-- the point at a spot, if there is such a spot
abbrev pub point_at : Code → Spot → Option Point
point_at code spot = option_and_then (λ block. point_in block spot.operation) (block_at code spot)

-- the same for every number: where there is no operation, the frame returns
abbrev pub point_in_or : Point → ℕ → Point
point_in_or block number = unwrap_or (point_in block number) no_point

abbrev pub point_of : Code → Spot → Point
point_of code spot = unwrap_or (point_at code spot) no_point

-- the spot at which a block of a function begins
abbrev pub begins : ℕ → ℕ → Spot
begins function block = record { function = function; block = block; operation = 0 }

-- how many blocks a function has
abbrev pub block_count : Code → ℕ → ℕ
block_count code function = unwrap_or (option_map (λ flow. length flow.blocks) (flow_of code function)) 0

-- the next spot in the block
abbrev pub after : Spot → Spot
after spot = record spot { operation = spot.operation + 1 }

-- the states of a run of the code whose frames are at spots, each in the function of its spot
abbrev pub SpotState : Type 0
SpotState = Running Spot

-- a frame at the point at its spot
abbrev pub at_point : Code → CallFrame Spot → CallFrame Point
at_point code frame = record {
  function = frame.todo.function;
  number = frame.number;
  todo = point_of code frame.todo;
  stack = frame.stack;
  visits = frame.visits;
}

-- a state whose frames are at the points at their spots
abbrev pub at_points : Code → SpotState → CodeState
at_points code m = record {
  frame = at_point code m.frame;
  callers = map (at_point code) m.callers;
  memory = m.memory;
  frames = m.frames;
  allocations = m.allocations;
  calls = m.calls;
}
