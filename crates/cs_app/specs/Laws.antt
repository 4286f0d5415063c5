-- A file isn't both refused and accepted; if its tokens are a tree, it can only be refused for a type error of that tree.
use Rattle.std.specs.Prelude.{◌≡◌, ℕ, List}
use Rattle.cs_types.specs.declared.data_model.DataModel.{DataModel}
use Rattle.cs_model.specs.declared.kind.Kind.{Kind}
use Rattle.cs_ast.specs.declared.place.Place.{Place}
use Rattle.cs_ast.specs.declared.raw.external.RawExternal.{RawExternal}
use Rattle.cs_lexer.specs.declared.lexer.Lexed.{Lexed}
use Rattle.cs_scopes.specs.declared.refusal.TypeCode.{TypeCode}
use Rattle.cs_scopes.specs.Verdicts.{Fault}
use Rattle.cs_words.specs.declared.command.Command.{Command}
use Rattle.cs_answers.specs.declared.status.Status.{Status}
use Rattle.cs_program.specs.Trees.{Parses, typed_tree}
use Rattle.cs_commands.specs.Refusals.{IsRefusal, type_line}
use Rattle.cs_app.specs.Answers.{Accepts, model_of}

-- no file is both refused and accepted
abbrev pub RefusedIsNotAccepted : Type 0
RefusedIsNotAccepted =
    (checked : List Kind) (command : Command) (file : List ℕ) (status : Status) (text other : List ℕ) → IsRefusal (model_of command) file text
    → Accepts checked command file status other → ⊥

-- the refusal of a file whose tokens are a tree is that of a type error
abbrev pub TreesAreRefusedByTypes : Type 0
TreesAreRefusedByTypes =
    (model : DataModel) (file : List ℕ) (lexed : Lexed) (tree : List RawExternal) (text : List ℕ) → Parses file lexed tree → IsRefusal model file text
    → (code : TypeCode) × (place : Place) × (typed_tree model lexed tree ≡ Fault code place) × (text ≡ type_line lexed.files.items code place)
