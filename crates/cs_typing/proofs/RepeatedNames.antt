-- What holds for a function also holds for it if no name is declared twice among its parameters: for the laws of files.
use Rattle.std.proofs.Common.{Option, Some, None}
use Rattle.cs_ast.specs.declared.place.Place.{Place}
use Rattle.cs_declarations.proofs.FineVerdicts as fine
use Rattle.cs_well_formed.proofs.Verdicts.{IfFine}
use Rattle.cs_file_scope.specs.Functions.{Routed, declared_once}

pub once-then : (P : Routed → Type 0) (twice : Option Place) (r : Routed) → P r → IfFine (declared_once twice r) P
once-then P None r held = held
once-then P (Some at) r held = tt

pub once-fine : (P : Routed → Type 0) (twice : Option Place) (r : Routed) → P r → fine.IfFine (declared_once twice r) P
once-fine P None r held = held
once-fine P (Some at) r held = tt
