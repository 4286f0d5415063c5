-- Parts of typed files, as contracts see the types in the code.
use Rattle.std.specs.Prelude.{List, map, reverse}
use Rattle.cs_scopes.specs.Meanings.{Declaration, declaration_of}
use Rattle.cs_declarations.specs.declared.scopes.Inner.{Inner}

-- the declarations of a scope, in their order
abbrev pub inner_of : Inner → List Declaration
inner_of inner = map declaration_of (reverse inner.list.items)
