-- Functions on the layout of types.
use Rattle.std.specs.Prelude.{ℕ, ◌+◌, ◌-◌, nat_le, Bool, false, ◌&&◌, List, [], ◌∷◌, ◌++◌, map, Option, Some, None}
use Rattle.cs_types.specs.Members.{Member}
use Rattle.cs_types.specs.Shape.{Shape}
use Rattle.cs_ast.specs.TypedProgram.{TypedProgram}
use Rattle.cs_events.specs.Objects as objects
use Rattle.cs_meaning.specs.Types.{begins_in, begins_in_struct, scalar_offsets}
use Rattle.cs_values.specs.declared.objects.Cell.{Cell}
use Rattle.cs_values.specs.View.{cell_of}

-- a predicate on the struct, and the offset in it, that was found; false if none was
abbrev pub in_found : (ℕ → ℕ → Bool) → Option (ℕ × ℕ) → Bool
in_found in_struct None = false
in_found in_struct (Some found) = in_struct found.0 found.1

-- whether a struct begins in a member of a struct, at an offset of that struct
abbrev pub in_member : TypedProgram → ℕ → ℕ → ℕ → Member → Bool
in_member program wanted depth offset m = nat_le m.offset offset && begins_in program (begins_in_struct program wanted depth) m.ty (offset - m.offset)

-- the cell that was found, or else another one
abbrev pub or_cell : Option Cell → objects.Cell → objects.Cell
or_cell None otherwise = otherwise
or_cell (Some cell) otherwise = cell_of cell

-- the offsets of the scalars of a type at an offset
abbrev pub offsets_from : TypedProgram → ℕ → Shape → List ℕ
offsets_from program from ty = map (λ (offset : ℕ). from + offset) (scalar_offsets program ty)

-- the same for the members of a struct there
abbrev pub member_offsets : TypedProgram → ℕ → List Member → List ℕ
member_offsets program from [] = []
member_offsets program from (m ∷ ms) = offsets_from program (from + m.offset) m.ty ++ member_offsets program from ms
