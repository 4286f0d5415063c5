-- A typed program is made from a typed file, and its structs have layouts: for the contract of `typed`.
use Rattle.std.proofs.Common.{◌≡◌, ◌∙◌, ℤ, List, sym, ap, subst}
use Rattle.cs_types.specs.declared.data_model.DataModel.{DataModel}
use Rattle.cs_types.specs.Layout.{IsLaidOut}
use Rattle.cs_ast.specs.declared.raw.external.RawExternal.{RawExternal}
use Rattle.cs_ast.specs.TypedProgram.{TypedProgram}
use Rattle.cs_ast.specs.declared.token.Token.{Token}
use Rattle.std.specs.Prelude.{ℕ}
use Rattle.cs_scopes.specs.Verdicts.{Fine, lift}
use Rattle.cs_scopes.proofs.Lifting.{lift-fine}
use Rattle.cs_declarations.proofs.FineVerdicts.{IfFine, IfFine-lift, IfFine-at}
use Rattle.cs_declarations.specs.Environment.{table_of}
use Rattle.cs_file_scope.specs.Objects.{Filed}
use Rattle.cs_typing.specs.Files.{typed_file}
use Rattle.cs_typing.specs.Programs.{program_of, constants_in, typed}
use Rattle.cs_typing.proofs.SoundFiles.{FiledIsSound, typed_file-sound}

abbrev pub ProgramIsLaidOut : TypedProgram → Type 0
ProgramIsLaidOut p = IsLaidOut p.model p.table

pub typed_laid : (model : DataModel) (files : List (List ℕ)) (tokens : List Token) (file : List RawExternal)
    → IfFine (typed model files tokens file) ProgramIsLaidOut
typed_laid model files tokens file =
    IfFine-lift _ (typed_file model tokens file) (FiledIsSound model) ProgramIsLaidOut (typed_file-sound model tokens file)
    (λ f h. subst (λ (m : DataModel). IsLaidOut m (table_of f.known)) h.1 h.0.laid_out)

pub laid_out : (model : DataModel) (files : List (List ℕ)) (tokens : List Token) (file : List RawExternal) (p : TypedProgram)
    → typed model files tokens file ≡ Fine p → IsLaidOut p.model p.table
laid_out model files tokens file p reported = IfFine-at (typed model files tokens file) ProgramIsLaidOut p reported (typed_laid model files tokens file)

-- the program made from a typed file
pub made : (model : DataModel) (files names : List (List ℕ)) (tokens : List Token) (file : List RawExternal) (f : Filed) (constants : List ℤ)
    → typed_file model tokens file ≡ Fine f → names ≡ files → constants ≡ constants_in tokens
    → typed model files tokens file
    ≡ Fine (record {
      model = model;
      files = names;
      table = table_of f.known;
      globals = f.globals;
      literals = f.known.literals;
      routines = f.routines;
      constants = constants;
    })
made model files names tokens file f constants reported same numbers =
    ap (lift (λ (g : Filed). Fine (program_of model files tokens g))) reported
    ∙ lift-fine (λ (g : Filed). Fine (program_of model files tokens g)) f
    ∙ ap (λ (fs : List (List ℕ)).
    Fine (record {
      model = model;
      files = fs;
      table = table_of f.known;
      globals = f.globals;
      literals = f.known.literals;
      routines = f.routines;
      constants = constants_in tokens;
    })) (sym same)
    ∙ ap (λ (cs : List ℤ).
    Fine (record {
      model = model;
      files = names;
      table = table_of f.known;
      globals = f.globals;
      literals = f.known.literals;
      routines = f.routines;
      constants = cs;
    })) (sym numbers)
