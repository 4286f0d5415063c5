-- Types that name structs of a table also name structs of a longer one: for the law `types_are_named`, and for the typing of files.
use Rattle.std.proofs.Common.{◌≡◌, ℕ, ◌≤◌, List, [], ◌∷◌, length, map, slice_get, Option, Some, None, sym, subst, arith}
use Rattle.std.specs.Prelude.{IfSome}
use Rattle.std.specs.List.{All, AllByRecursion}
use Rattle.std.proofs.lemmas.List.Elements.{All-weaker, recursion_from_All}
use Rattle.std.proofs.lemmas.Option.{option_and_then_some, slice_get_within, get_or_from_slice_get}
use Rattle.cs_types.specs.declared.structs.StructType.{StructType}
use Rattle.cs_types.specs.Layout.{members_of}
use Rattle.cs_types.specs.Members.{Member}
use Rattle.cs_types.specs.Shape.{Shape, void, integer, pointer, array, struct}
use Rattle.cs_ast.specs.TypedProgram.{Variable, FileObject, Routine}
use Rattle.cs_scopes.specs.Meanings.{Meaning, Typedef, Constant, Global, Local, Function}
use Rattle.cs_scopes.specs.declared.scope.TagMeaning.{TagMeaning}
use Rattle.cs_scopes.specs.declared.scope.TagMeaning.TheVariants as tag
use Rattle.cs_declarations.specs.LaidOut.{IsOfTable}
use Rattle.cs_well_formed.specs.Structs.{NamesStructs, MembersName, StructsName, VariablesName, HasNamedTypes}
use Rattle.cs_well_formed.specs.Agreement.{Keeps, IsNamed}

pub keeps-self : (table : List StructType) → Keeps table table
keeps-self table = record { members = λ number members is. is; longer = omega arith }

pub keeps-trans : (one between other : List StructType) → Keeps one between → Keeps between other → Keeps one other
keeps-trans one between other h k = record {
  members = λ number members is. k.members number members (h.members number members is);
  longer = omega (arith, h.longer, k.longer);
}

-- what holds for each element of a list holds for the one at an index
pub found-at : {A : Type 0} (P : A → Type 0) (xs : List A) (number : ℕ) (x : A) → All P xs → slice_get xs number ≡ Some x → P x
found-at P xs number x held is = subst P (get_or_from_slice_get xs number x x is) (held number x (slice_get_within xs number x is))

-- a type equal to one that names structs
pub named-as : (table : List StructType) (ty other : Shape) → ty ≡ other → NamesStructs table other → NamesStructs table ty
named-as table ty other is h = subst (NamesStructs table) (sym is) h

-- the types of parameters, and of parts of an initializer
abbrev pub AreNamed : List StructType → List Shape → Type 0
AreNamed table [] = Unit {0}
AreNamed table (ty ∷ types) = NamesStructs table ty × AreNamed table types

pub each-named : {A : Type 0} (table : List StructType) (type_in : A → Shape) (xs : List A) → All (λ x. NamesStructs table (type_in x)) xs
    → AreNamed table (map type_in xs)
each-named table type_in xs h = by_recursion xs (recursion_from_All (λ x. NamesStructs table (type_in x)) xs h)
  where
    by_recursion : (ys : List _) → AllByRecursion (λ x. NamesStructs table (type_in x)) ys → AreNamed table (map type_in ys)
    by_recursion [] k = tt
    by_recursion (y ∷ ys) k = (k.0, by_recursion ys k.1)

module _ (table longer : List StructType) (more : length table ≤ length longer) where
  pub names-longer : (ty : Shape) → NamesStructs table ty → NamesStructs longer ty
  names-longer void h = tt
  names-longer (integer ty) h = tt
  names-longer (pointer target) h = names-longer target h
  names-longer (array element count) h = names-longer element h
  names-longer (struct number) h = omega (arith, h, more)

  pub members-longer : (members : List Member) → MembersName table members → MembersName longer members
  members-longer members h = All-weaker (λ (m : Member). NamesStructs table m.ty) (λ (m : Member). NamesStructs longer m.ty) (λ m n. names-longer m.ty n)
      members h

  pub structs-longer : (structs : List StructType) → StructsName table structs → StructsName longer structs
  structs-longer structs h =
      All-weaker (λ (s : StructType). IfSome s.members (MembersName table)) (λ (s : StructType). IfSome s.members (MembersName longer))
      (λ s n. each s.members n) structs h
    where
      each : (members : Option (List Member)) → IfSome members (MembersName table) → IfSome members (MembersName longer)
      each None n = tt
      each (Some members) n = members-longer members n

  pub variables-longer : (variables : List Variable) → VariablesName table variables → VariablesName longer variables
  variables-longer variables h =
      All-weaker (λ (v : Variable). NamesStructs table v.ty) (λ (v : Variable). NamesStructs longer v.ty) (λ v n. names-longer v.ty n) variables h

  pub routine-longer : (r : Routine) → HasNamedTypes table r → HasNamedTypes longer r
  routine-longer r h = record { returns = names-longer r.returns h.returns; variables = variables-longer r.variables h.variables }

  pub routines-longer : (rs : List Routine) → All (HasNamedTypes table) rs → All (HasNamedTypes longer) rs
  routines-longer rs h = All-weaker (HasNamedTypes table) (HasNamedTypes longer) routine-longer rs h

  pub globals-longer : (gs : List FileObject) → All (λ (g : FileObject). NamesStructs table g.ty) gs
      → All (λ (g : FileObject). NamesStructs longer g.ty) gs
  globals-longer gs h = All-weaker (λ (g : FileObject). NamesStructs table g.ty) (λ (g : FileObject). NamesStructs longer g.ty) (λ g n. names-longer g.ty n)
      gs h

  pub meaning-longer : (m : Meaning) → IsNamed table m → IsNamed longer m
  meaning-longer (Typedef ty) h = names-longer ty h
  meaning-longer (Constant value) h = tt
  meaning-longer (Global number ty) h = tt
  meaning-longer (Local number ty) h = tt
  meaning-longer (Function f) h = tt

  pub tag-longer : (m : TagMeaning) → IsOfTable table m → IsOfTable longer m
  tag-longer (tag.Struct number) h = omega (arith, h, more)
  tag-longer tag.Enum h = tt

-- the members of a struct
pub members-named : (table structs : List StructType) (number : ℕ) (members : List Member) → StructsName table structs
    → members_of structs number ≡ Some members → MembersName table members
members-named table structs number members h is =
    option_and_then_some (λ (laid : StructType). laid.members) (slice_get structs number) members is
    (λ laid at has.
    subst (λ o. IfSome o (MembersName table)) has (found-at (λ (s : StructType). IfSome s.members (MembersName table)) structs number laid h at))
