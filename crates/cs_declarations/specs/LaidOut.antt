-- The structs that are known at a point of a file have layouts: for what uses their sizes and offsets in the typed program.
use Rattle.std.specs.Prelude.{◌≡◌, ℕ, ◌<◌, List, length, None}
use Rattle.std.specs.List.{All}
use Rattle.cs_types.specs.declared.data_model.DataModel.{DataModel}
use Rattle.cs_types.specs.declared.structs.StructType.{StructType}
use Rattle.cs_types.specs.Layout.{members_of, IsLaidOut}
use Rattle.cs_scopes.specs.declared.scope.Tag.{Tag}
use Rattle.cs_scopes.specs.declared.scope.TagMeaning.{TagMeaning}
use Rattle.cs_scopes.specs.declared.scope.TagMeaning.TheVariants as tag
use Rattle.cs_declarations.specs.Environment.{Environment, model_of, table_of}

-- a struct of the table has no members yet
pub record IsOpen (table : List StructType) (number : ℕ) : Type 0 where
  pub within : number < length table
  pub empty : members_of table number ≡ None

-- a tag denotes an enum or a struct of the table
abbrev pub IsOfTable : List StructType → TagMeaning → Type 0
IsOfTable table (tag.Struct number) = number < length table
IsOfTable table tag.Enum = Unit {0}

-- the structs of a table have layouts, tags denote structs of it, and those whose bodies are being read have no members yet
pub record AreSound (model : DataModel) (table : List StructType) (tags : List Tag) (reading : List ℕ) : Type 0 where
  pub laid_out : IsLaidOut model table
  pub tagged : All (λ (t : Tag). IsOfTable table t.meaning) tags
  pub begun : All (IsOpen table) reading

-- what is known has such structs
abbrev pub IsSound : Environment → Type 0
IsSound k = AreSound (model_of k) (table_of k) k.context.scope.tags k.reading
