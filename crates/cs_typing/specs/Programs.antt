-- The typed program of a file: its structs, objects, literals and functions, and the numbers that occur in it.
use Rattle.std.specs.Prelude.{ℕ, ℤ, pos, List, [], ◌∷◌}
use Rattle.std.specs.Ordering.{int_eq}
use Rattle.indexmap.specs.IndexSet.{insert_all}
use Rattle.cs_types.specs.declared.data_model.DataModel.{DataModel}
use Rattle.cs_ast.specs.declared.token.Token.{Token}
use Rattle.cs_ast.specs.declared.token.TokenKind.{TokenKind}
use Rattle.cs_ast.specs.declared.token.TokenKind.TheVariants.{Number}
use Rattle.cs_ast.specs.declared.raw.external.RawExternal.{RawExternal}
use Rattle.cs_ast.specs.TypedProgram.{TypedProgram}
use Rattle.cs_scopes.specs.Verdicts.{Verdict, Fine, lift}
use Rattle.cs_declarations.specs.Environment.{table_of}
use Rattle.cs_file_scope.specs.Objects.{Filed}
use Rattle.cs_typing.specs.Files.{typed_file}

-- the value of an integer constant, before other numbers
abbrev pub number_before : TokenKind → List ℤ → List ℤ
number_before (Number constant) following = pos constant.value ∷ following
number_before other following = following

-- the values of the integer constants among tokens
abbrev pub numbers_in : List Token → List ℤ
numbers_in [] = []
numbers_in (t ∷ ts) = number_before t.kind (numbers_in ts)

-- the different ones, in the order of their first occurrences
abbrev pub constants_in : List Token → List ℤ
constants_in tokens = insert_all int_eq [] (numbers_in tokens)

-- the program of a typed file, whose positions are in these files
abbrev pub program_of : DataModel → List (List ℕ) → List Token → Filed → TypedProgram
program_of model files tokens f = record {
  model = model;
  files = files;
  table = table_of f.known;
  globals = f.globals;
  literals = f.known.literals;
  routines = f.routines;
  constants = constants_in tokens;
}

-- the program of the parts of a file, or its first type error
abbrev pub typed : DataModel → List (List ℕ) → List Token → List RawExternal → Verdict TypedProgram
typed model files tokens file = lift (λ (f : Filed). Fine (program_of model files tokens f)) (typed_file model tokens file)
