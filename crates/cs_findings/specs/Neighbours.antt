-- Neighbours of a finding's inputs: these inputs, and those with one number replaced by a constant of the program.
use Rattle.std.specs.Prelude.{ℤ, List, ◌∷◌, map, take, flat_map}
use Rattle.std.specs.BTreeMap.{insert_entry}
use Rattle.cs_inputs.specs.declared.path.Path.{Path}
use Rattle.cs_inputs.specs.PathOrder.{path_order}

-- the inputs with the number of a path replaced by each of these numbers
abbrev pub replaced : List ℤ → List (Path × ℤ) → Path → List (List (Path × ℤ))
replaced constants inputs path = map (λ (number : ℤ). insert_entry path_order inputs path number) constants

-- the first 64: the inputs themselves, then for each path in order the inputs with each constant in order
abbrev pub neighbours : List ℤ → List (Path × ℤ) → List (List (Path × ℤ))
neighbours constants inputs = take 64 (inputs ∷ flat_map (λ (entry : Path × ℤ). replaced constants inputs entry.0) inputs)
