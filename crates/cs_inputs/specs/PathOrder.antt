-- The order of paths: parameters, globals, results of calls, what calls wrote, allocations; each by name or number, then
-- by cells.
use Rattle.std.specs.Prelude.{ℕ}
use Rattle.std.specs.Ordering.{nat_cmp, ordering_then}
use Rattle.std.specs.Cmp.Lexicographic.{slice_cmp}
use Rattle.std.specs.declared.cmp.Ordering.{Ordering}
use Rattle.cs_inputs.specs.declared.path.Root.{Root}
use Rattle.cs_inputs.specs.declared.path.Root.TheVariants.{Param, Global, Call, Wrote, Malloc}
use Rattle.cs_inputs.specs.declared.path.Path.{Path}

-- the index of a root's kind in the order of kinds
abbrev pub kind_of : Root → ℕ
kind_of (Param name) = 0
kind_of (Global name) = 1
kind_of (Call call) = 2
kind_of (Wrote call argument) = 3
kind_of (Malloc number) = 4

-- roots of the same kind are ordered by their names or numbers, others by their kinds
abbrev pub root_order : Root → Root → Ordering
root_order (Param left) (Param right) = slice_cmp nat_cmp left right
root_order (Global left) (Global right) = slice_cmp nat_cmp left right
root_order (Call left) (Call right) = nat_cmp left right
root_order (Wrote left first) (Wrote right second) = ordering_then (nat_cmp left right) (nat_cmp first second)
root_order (Malloc left) (Malloc right) = nat_cmp left right
root_order left right = nat_cmp (kind_of left) (kind_of right)

-- paths are ordered by their roots, then by their cells
abbrev pub path_order : Path → Path → Ordering
path_order left right = ordering_then (root_order left.root right.root) (slice_cmp nat_cmp left.cells right.cells)
