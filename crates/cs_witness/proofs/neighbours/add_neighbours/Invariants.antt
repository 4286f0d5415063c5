-- The neighbours for the paths before the index were added to the tries, up to the limit of tries.
use Rattle.std.proofs.Common.{◌≡◌, ℤ, ◌++◌, take}
use Rattle.std.specs.Prelude.{flat_map}
use Rattle.cs_inputs.specs.declared.path.Path.{Path}
use Rattle.cs_findings.specs.Neighbours.{replaced}
use Rattle.cs_witness.proofs.neighbours.add_neighbours.Given as goal

abbrev pub invariant-loop-entry : goal.invariant-loop-entry
invariant-loop-entry l =
    l.tries.items ≡ take 64 (l.fn.tries.items ++ flat_map (λ (e : Path × ℤ). replaced l.constants l.inputs e.0) (take l.entry-index l.listed))
