-- Structs, made from their members (C11 6.7.2.1).
use Rattle.std.specs.Prelude.{ℕ, List, Some}
use Rattle.cs_types.specs.declared.structs.StructType.{StructType}
use Rattle.cs_types.specs.Layout.{round_up}
use Rattle.cs_types.specs.Members.{Member}

-- the struct with these members, whose end is at `bytes`: its size is a multiple of its alignment (paragraph 17)
abbrev pub struct_of : List ℕ → List Member → ℕ → ℕ → StructType
struct_of tag members bytes align = record { tag = tag; members = Some members; size = round_up bytes align; align = align }
