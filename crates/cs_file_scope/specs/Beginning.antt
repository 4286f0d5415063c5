-- What is declared before a file is read (C11 7.22.3), and the file's functions in their order.
use Rattle.std.specs.Prelude.{ℕ, List, [], ◌∷◌, codes, map, None}
use Rattle.cs_types.specs.declared.data_model.DataModel.{DataModel}
use Rattle.cs_types.specs.DataModel.{size_type_of}
use Rattle.cs_types.specs.Shape.{Shape, void, integer, pointer}
use Rattle.cs_ast.specs.declared.token.Token.{Token}
use Rattle.cs_ast.specs.declared.raw.external.RawExternal.{RawExternal}
use Rattle.cs_ast.specs.TypedProgram.{Routine}
use Rattle.cs_scopes.specs.declared.scope.Callee.{Callee}
use Rattle.cs_scopes.specs.declared.scope.Callee.TheVariants.{Malloc, Calloc, Free}
use Rattle.cs_scopes.specs.Meanings.{Declaration, Function}
use Rattle.cs_file_scope.specs.Objects.{Filed, with_known}
use Rattle.cs_file_scope.specs.Order.{order_of}
use Rattle.cs_file_scope.specs.Tags.{tags_declared}

-- a function of the library, which is declared before a file
abbrev pub library_function : List ℕ → Callee → Shape → List Shape → Declaration
library_function name callee result parameters =
    record { name = name; meaning = Function (record { callee = callee; result = result; parameters = parameters }) }

-- the functions that are declared before a file (C11 7.22.3)
abbrev pub allocators : DataModel → List Declaration
allocators model =
    library_function (codes "malloc") Malloc (pointer void) (integer (size_type_of model) ∷ [])
    ∷ library_function (codes "calloc") Calloc (pointer void) (integer (size_type_of model) ∷ integer (size_type_of model) ∷ [])
    ∷ library_function (codes "free") Free void (pointer void ∷ [])
    ∷ []

-- a function that isn't declared yet
abbrev pub blank : List ℕ → Routine
blank name = record {
  name = name;
  at = record { file = 0; line = 1; column = 1 };
  returns = void;
  parameters = 0;
  variables = [];
  body = None;
  closes = record { file = 0; line = 1; column = 1 };
  written = [];
}

-- a file of which no part was read yet, with its functions in this order
abbrev pub beginning : DataModel → List (List ℕ) → Filed
beginning model order = record {
  known = record {
    context = record { model = model; table = record { list = [] }; scope = record { declarations = allocators model; tags = [] } };
    reading = [];
    outer = 0;
    literals = [];
  };
  globals = [];
  order = order;
  routines = map blank order;
}

-- a file with these tokens before its parts are read: its functions are numbered, and the tags of its structs are known
abbrev pub begun : DataModel → List Token → List RawExternal → Filed
begun model tokens file =
    with_known (tags_declared tokens (beginning model (order_of file)).known) (beginning model (order_of file))
