-- The blocks built for a graph, as plain data.
use Rattle.std.specs.Prelude.{◌≡◌, ℕ, suc, ◌+◌, List, [], ◌++◌, map, reverse, length, Some, slice_get}
use Rattle.cs_cfg.specs.Graph.{Point, Jump, Flow, block_of}
use Rattle.cs_cfg.specs.GraphView as view
use Rattle.cs_lower.specs.declared.strips.Strip.{Strip}
use Rattle.cs_lower.specs.declared.building.GraphBuilder.{GraphBuilder}

-- the point at the beginning of a strip
abbrev pub point_of : Strip → Point
point_of strip = record { operations = reverse (map view.operation strip.operations.items); end = view.block_end strip.end }

-- only a jump to a block
abbrev pub jump_to : ℕ → Point
jump_to block = record { operations = []; end = Jump block }

-- the blocks built so far: those of the last counted points, in reverse order, and the others
pub record Built : Type 0 where
  pub counted_points : ℕ
  pub heads : List Point
  pub others : List Point

-- all of these blocks
abbrev pub blocks : Built → List Point
blocks built = built.heads ++ built.others

abbrev pub built_of : GraphBuilder → Built
built_of graph = record { counted_points = graph.counted_points; heads = map view.block graph.heads.items; others = map view.block graph.others.items }

-- a graph contains the built blocks: that of a counted point has the counted point's number, and the others come after those of all counted points
pub record Has (flow : Flow) (built : Built) : Type 0 where
  pub heads : (n counted_point : ℕ) (p : Point) → slice_get built.heads n ≡ Some p → counted_point + suc n ≡ built.counted_points
      → block_of flow counted_point ≡ p
  pub others : (n : ℕ) (p : Point) → slice_get built.others n ≡ Some p → block_of flow (built.counted_points + n) ≡ p

-- more was built, including the blocks of `counted_points` counted points
pub record Grows (counted_points : ℕ) (old new : Built) : Type 0 where
  pub same : new.counted_points ≡ old.counted_points
  pub counts : length new.heads ≡ counted_points + length old.heads
  pub keeps : (flow : Flow) → Has flow new → Has flow old
