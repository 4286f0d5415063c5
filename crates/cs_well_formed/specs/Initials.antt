-- Well-formed initializers (C11 6.7.9).
use Rattle.std.specs.Prelude.{◌≡◌, ℕ, true, ◌≤◌, List, [], ◌∷◌, length, map, Some}
use Rattle.cs_types.specs.declared.data_model.DataModel.{DataModel}
use Rattle.cs_types.specs.Members.{Member}
use Rattle.cs_types.specs.Layout.{members_of}
use Rattle.cs_types.specs.Shape.{Shape, array, struct}
use Rattle.cs_ast.specs.TypedTree.{Initial, Value, Parts, Bytes, Initials, NoPart, Part}
use Rattle.cs_ast.specs.TypedProgram.{TypedProgram}
use Rattle.cs_declarations.specs.Initializers.{InFile, is_admitted, is_character}
use Rattle.cs_scopes.specs.Parts.{copies}
use Rattle.cs_well_formed.specs.Expressions.{Setting, IsWell, IsValueOf}

-- the types of the parts that a list of initializers is for: the elements of an array, or the members of a struct
abbrev pub HasParts : TypedProgram → Shape → List Shape → Type 0
HasParts p (array element count) types = types ≡ copies count element
HasParts p (struct number) types = (members : List Member) × (members_of p.table number ≡ Some members) × (types ≡ map (λ (m : Member). m.ty) members)
HasParts p other types = ⊥

-- an array of characters that can hold these bytes
abbrev pub TakesBytes : Shape → List ℕ → Type 0
TakesBytes ty bytes = (element : Shape) × (count : ℕ) × (ty ≡ array element count) × (is_character element ≡ true) × (length bytes ≤ count)

abbrev mutual
  -- an initializer of an object of a type
  pub IsWellInitial : Setting → Shape → Initial → Type 0
  IsWellInitial s ty (Value v) = IsWell s v × IsValueOf v ty
  IsWellInitial s ty (Bytes bytes) = TakesBytes ty bytes
  IsWellInitial s ty (Parts parts) = (types : List Shape) × HasParts s.program ty types × AreWellParts s types parts

  pub AreWellParts : Setting → List Shape → Initials → Type 0
  AreWellParts s types NoPart = Unit {0}
  AreWellParts s [] (Part first others) = ⊥
  AreWellParts s (ty ∷ types) (Part first others) = IsWellInitial s ty first × AreWellParts s types others

abbrev mutual
  -- the values of an initializer are constants, as those of a file-scope object have to be (paragraph 4)
  pub HasConstantValues : DataModel → Initial → Type 0
  HasConstantValues model (Value v) = is_admitted model InFile v ≡ true
  HasConstantValues model (Bytes bytes) = Unit {0}
  HasConstantValues model (Parts parts) = HaveConstantValues model parts

  pub HaveConstantValues : DataModel → Initials → Type 0
  HaveConstantValues model NoPart = Unit {0}
  HaveConstantValues model (Part first others) = HasConstantValues model first × HaveConstantValues model others
