-- The points at the positions of frames.
use Rattle.std.specs.Prelude.{ℕ, drop}
use Rattle.cs_cfg.specs.declared.code.Code.{Code}
use Rattle.cs_cfg.specs.Graph.{Point, block_in}
use Rattle.cs_cfg.specs.GraphView.{code}
use Rattle.cs_positions.specs.declared.positions.Position.{Position}

-- the rest of a point once so many of its operations are done
abbrev pub left_of : ℕ → Point → Point
left_of done p = record p { operations = drop done p.operations }

-- the point of a function at a position
abbrev pub point_of : Code → Position → ℕ → Point
point_of graphs position function = left_of position.done (block_in (code graphs) function position.block)
