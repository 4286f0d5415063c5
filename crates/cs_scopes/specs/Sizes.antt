-- The sizes of objects, which are limited (C11 6.5.3.4).
use Rattle.std.specs.Prelude.{ℕ, ◌*◌, ◌^◌, nat_le, if◌then◌else◌, List, Option, Some, None}
use Rattle.std.specs.Option.{option_and_then}
use Rattle.cs_types.specs.declared.data_model.DataModel.{DataModel}
use Rattle.cs_types.specs.declared.structs.StructType.{StructType}
use Rattle.cs_types.specs.IntType.{bytes_of, word_bytes}
use Rattle.cs_types.specs.Shape.{Shape, void, integer, pointer, array, struct}
use Rattle.cs_types.specs.Layout.{complete_of}

-- a number of bytes, if an object may have so many
abbrev pub limited : ℕ → Option ℕ
limited bytes = if nat_le bytes (2 ^ 20) then Some bytes else None

-- the size of a complete type in bytes, if an object may have it
abbrev pub bytes_in : DataModel → List StructType → Shape → Option ℕ
bytes_in model table void = None
bytes_in model table (integer ty) = Some (bytes_of model ty)
bytes_in model table (pointer target) = Some (word_bytes model)
bytes_in model table (array element count) = option_and_then (λ bytes. limited (count * bytes)) (bytes_in model table element)
bytes_in model table (struct number) = option_and_then (λ (laid : StructType). limited laid.size) (complete_of table number)
