-- The typing of files (C11 6.9): from declarations and functions to the typed file, or to the first type error.
use Rattle.std.specs.Prelude.{List, [], ◌∷◌, Some, None}
use Rattle.cs_types.specs.declared.data_model.DataModel.{DataModel}
use Rattle.cs_types.specs.Shape.{Shape}
use Rattle.cs_ast.specs.declared.place.Place.{Place}
use Rattle.cs_ast.specs.declared.token.Token.{Token}
use Rattle.cs_ast.specs.declared.raw.declaration.RawSpecs.{RawSpecs}
use Rattle.cs_ast.specs.declared.raw.external.RawExternalKind.{RawExternalKind}
use Rattle.cs_ast.specs.declared.raw.external.RawExternalKind.TheVariants as external
use Rattle.cs_ast.specs.declared.raw.external.RawExternal.{RawExternal}
use Rattle.cs_scopes.specs.Verdicts.{Verdict, Fine, lift}
use Rattle.cs_declarations.specs.Bodies.{Typing, specs_type, typedefs_added}
use Rattle.cs_file_scope.specs.Objects.{Filed, with_known, objects_added}
use Rattle.cs_file_scope.specs.Beginning.{begun}
use Rattle.cs_typing.specs.Functions.{function_added}

-- the specifiers of a part of a file
abbrev pub specs_of : RawExternalKind → RawSpecs
specs_of (external.Type s) = s
specs_of (external.Typedef s names) = s
specs_of (external.Objects s objects) = s
specs_of (external.Function s d) = s
specs_of (external.Definition s d body) = s

-- the file after what one of its parts declares; `base` is the type of its specifiers
abbrev pub external_declared : RawExternalKind → Filed → Shape → Verdict Filed
external_declared (external.Type s) f base = Fine f
external_declared (external.Typedef s names) f base = lift (λ k. Fine (with_known k f)) (typedefs_added base names.items f.known)
external_declared (external.Objects s objects) f base = objects_added s base objects.items f
external_declared (external.Function s d) f base = function_added d None f base
external_declared (external.Definition s d body) f base = function_added d (Some body) f base

abbrev pub external_read : RawExternalKind → Filed → Typing → Verdict Filed
external_read kind f ty = external_declared kind (with_known ty.1 f) ty.0

-- the file after a part at a position
abbrev pub external_typed : Place → RawExternalKind → Filed → Verdict Filed
external_typed at kind f = lift (external_read kind f) (specs_type f.known at (specs_of kind))

-- the file after parts, one after another
abbrev pub file_typed : List RawExternal → Filed → Verdict Filed
file_typed [] f = Fine f
file_typed (e ∷ es) f = lift (file_typed es) (external_typed e.place e.kind f)

-- a typed file
abbrev pub typed_file : DataModel → List Token → List RawExternal → Verdict Filed
typed_file model tokens file = file_typed file (begun model tokens file)
