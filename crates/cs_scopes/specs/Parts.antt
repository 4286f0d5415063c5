-- The parts of arrays and structs that the items of initializers are for (C11 6.7.9).
use Rattle.std.specs.Prelude.{ℕ, zero, suc, List, [], ◌∷◌, map, Option, Some, None}
use Rattle.cs_types.specs.declared.structs.StructType.{StructType}
use Rattle.cs_types.specs.Layout.{members_of}
use Rattle.cs_types.specs.Members.{Member}
use Rattle.cs_types.specs.Shape.{Shape, array, struct, shape_of}
use Rattle.cs_scopes.specs.declared.parts.Parts.{Parts}
use Rattle.cs_scopes.specs.declared.parts.Parts.TheVariants as held

-- the members' types
abbrev pub member_types : Option (List Member) → List Shape
member_types (Some members) = map (λ (m : Member). m.ty) members
member_types None = []

-- a type, repeated
abbrev pub copies : ℕ → Shape → List Shape
copies zero ty = []
copies (suc n) ty = ty ∷ copies n ty

-- the types of the parts that a list of items initializes: the elements of an array, the members of a struct
abbrev pub part_types : List StructType → Shape → Option (List Shape)
part_types table (array element count) = Some (copies count element)
part_types table (struct number) = Some (member_types (members_of table number))
part_types table other = None

-- the types of the parts that a list is for, of the type in the code
abbrev pub types_of : Parts → List Shape
types_of (held.Elements element count) = copies count (shape_of element.now)
types_of (held.Members members) = map (λ (m : Member). m.ty) members.now
