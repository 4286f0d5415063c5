-- The order of a file's functions: that of their names' positions, each in its definition, or else in its first declaration.
use Rattle.std.specs.Prelude.{ℕ, Bool, false, nat_eq, codes, ◌||◌, if◌then◌else◌, List, [], ◌∷◌, ◌++◌, Option, Some, None, option_to_list}
use Rattle.std.specs.Cmp.Lexicographic.{pointwise}
use Rattle.indexmap.specs.IndexSet.{insert_all}
use Rattle.cs_ast.specs.declared.raw.external.RawExternalKind.{RawExternalKind}
use Rattle.cs_ast.specs.declared.raw.external.RawExternalKind.TheVariants as external
use Rattle.cs_ast.specs.declared.raw.external.RawExternal.{RawExternal}

-- a function of the library, which isn't one of the file's (C11 7.22.3)
abbrev pub is_of_library : List ℕ → Bool
is_of_library name = pointwise nat_eq name (codes "malloc") || pointwise nat_eq name (codes "calloc") || pointwise nat_eq name (codes "free")

-- a part of a file is the definition of a function with this name (C11 6.9.1)
abbrev pub defines : List ℕ → RawExternalKind → Bool
defines name (external.Definition s d body) = pointwise nat_eq d.name name
defines name other = false

-- a function with this name is defined in a file
abbrev pub is_defined : List ℕ → List RawExternal → Bool
is_defined name [] = false
is_defined name (e ∷ es) = defines name e.kind || is_defined name es

-- the function whose place in the order may be that of a part of a file: one that is defined there, or one that is declared there and
-- isn't among those that are `defined` in the file
abbrev pub placed : (List ℕ → Bool) → RawExternalKind → Option (List ℕ)
placed defined (external.Definition s d body) = Some d.name
placed defined (external.Function s d) = if is_of_library d.name || defined d.name then None else Some d.name
placed defined other = None

-- the same for all parts of a file
abbrev pub all_placed : (List ℕ → Bool) → List RawExternal → List (List ℕ)
all_placed defined [] = []
all_placed defined (e ∷ es) = option_to_list (placed defined e.kind) ++ all_placed defined es

-- the names of a file's functions: each once, at its first place
abbrev pub order_of : List RawExternal → List (List ℕ)
order_of file = insert_all (pointwise nat_eq) [] (all_placed (λ name. is_defined name file) file)
