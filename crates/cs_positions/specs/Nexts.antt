-- The next step at a point.
use Rattle.std.specs.Prelude.{◌≡◌, [], Option, Some, None, map}
use Rattle.std.specs.Borrow.{Bor}
use Rattle.cs_cfg.specs.declared.code.Block as b
use Rattle.cs_cfg.specs.declared.code.Flow as f
use Rattle.cs_cfg.specs.declared.code.CountedPoint.{CountedPoint}
use Rattle.cs_cfg.specs.Graph.{Operation, Reach, Point, Flow, before, no_point}
use Rattle.cs_cfg.specs.GraphView as view
use Rattle.cs_positions.specs.declared.nexts.Next.{Next}
use Rattle.cs_positions.specs.declared.nexts.Next.TheVariants as next

-- the graph that was found, if any
abbrev pub flow_found : Option (Bor f.Flow) → Option Flow
flow_found None = None
flow_found (Some flow) = Some (view.flow flow.now)

-- the block that was found, or the default one
abbrev pub found_block : Option (Bor b.Block) → Point
found_block None = no_point
found_block (Some block) = view.block block.now

-- a block without its counted point
abbrev pub without_counted_point : b.Block → Point
without_counted_point block = record { operations = map view.operation block.operations.items; end = view.block_end block.end }

-- the operation that reaches a counted point
abbrev pub reaching : CountedPoint → Operation
reaching counted_point = record { at = counted_point.place; temporary = 0; work = Reach counted_point.kind counted_point.number }

-- this step is the next at a point, and the other point follows
abbrev pub IsNext : Next → Point → Point → Type 0
IsNext (next.CountedPoint counted_point) here following = here ≡ before (reaching counted_point.now) following
IsNext (next.Operation operation) here following = here ≡ before (view.operation operation.now) following
IsNext (next.End end) here following = here ≡ record { operations = []; end = view.block_end end.now }
IsNext next.Nowhere here following = here ≡ no_point
