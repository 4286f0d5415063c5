-- The answers of the program.
use Rattle.std.specs.Prelude.{◌≡◌, ◌⊎◌, ℕ, List, [], ◌++◌, length, Option, Some, None, codes}
use Rattle.std.specs.Fmt.{decimal}
use Rattle.std.specs.Io.KnownBytes.{Appends}
use Rattle.cs_io.specs.Count.{Rose}
use Rattle.cs_io.specs.Reported.{AppendsPart}
use Rattle.cs_types.specs.declared.data_model.DataModel.{DataModel}
use Rattle.cs_types.specs.declared.data_model.DataModel.TheVariants.{Lp64}
use Rattle.cs_model.specs.declared.kind.Kind.{Kind}
use Rattle.cs_ast.specs.declared.place.Place.{Place}
use Rattle.cs_ast.specs.declared.raw.external.RawExternal.{RawExternal}
use Rattle.cs_ast.specs.TypedProgram.{TypedProgram}
use Rattle.cs_lexer.specs.declared.lexer.Lexed.{Lexed}
use Rattle.cs_scopes.specs.declared.refusal.TypeCode.{TypeCode}
use Rattle.cs_scopes.specs.Verdicts.{Fault}
use Rattle.cs_generate.specs.GeneratedFile.{generated_file}
use Rattle.cs_words.specs.declared.command.Command.{Command}
use Rattle.cs_words.specs.declared.command.Command.TheVariants.{Analyze, Flow, Replay, Generate}
use Rattle.cs_words.specs.Meaning.{WordsMean, AreRefusedAt}
use Rattle.cs_program.specs.Trees.{Parses, HasProgram, typed_tree}
use Rattle.cs_entries.specs.Named.{entry_of}
use Rattle.cs_commands.specs.Flows.{IsFlowAnswer}
use Rattle.cs_commands.specs.Refusals.{IsRefusal, type_line}
use Rattle.cs_commands.specs.Replays.{IsReplayAnswer}
use Rattle.cs_app.specs.Analyses.{IsAnalysisAnswer, IsSummary, entries_named}
use Rattle.cs_answers.specs.declared.status.Status.{Status}
use Rattle.cs_answers.specs.declared.status.Status.TheVariants.{Clean, Found, BadWords, BadFile, NoEntry}

-- the data model of a command
abbrev pub model_of : Command → DataModel
model_of (Analyze words) = words.model
model_of (Flow words) = words.model
model_of (Replay words) = words.model
model_of (Generate words) = Lp64

-- the file of a command: what remains in the source, or the generated file
abbrev pub file_of : Command → Option (List ℕ) → Option (List ℕ)
file_of (Analyze words) left = left
file_of (Flow words) left = left
file_of (Replay words) left = left
file_of (Generate words) left = Some (generated_file words.seed words.size)

-- these bytes are the generated file, if the command generates one
abbrev pub SuitsFile : Command → List ℕ → Type 0
SuitsFile (Analyze words) file = Unit {0}
SuitsFile (Flow words) file = Unit {0}
SuitsFile (Replay words) file = Unit {0}
SuitsFile (Generate words) file = file ≡ generated_file words.seed words.size

-- the command reads its file from the source
abbrev pub Reads : Command → Type 0
Reads (Analyze words) = Unit {0}
Reads (Flow words) = Unit {0}
Reads (Replay words) = Unit {0}
Reads (Generate words) = ⊥

-- what remains in a source is this file, if it is known
abbrev pub IsLeft : Option (List ℕ) → List ℕ → Type 0
IsLeft (Some left) file = file ≡ left
IsLeft None file = Unit {0}

-- the whole file was read, and type-checks
abbrev pub IsRead : Status → Type 0
IsRead Clean = Unit {0}
IsRead Found = Unit {0}
IsRead NoEntry = Unit {0}
IsRead _ = ⊥

-- the program was analyzed, its flow was printed, or its entry was run
abbrev pub IsAnswered : Status → Type 0
IsAnswered Clean = Unit {0}
IsAnswered Found = Unit {0}
IsAnswered _ = ⊥

-- the text was written whole
abbrev pub IsDone : Status → Type 0
IsDone Clean = Unit {0}
IsDone Found = Unit {0}
IsDone BadWords = Unit {0}
IsDone BadFile = Unit {0}
IsDone NoEntry = Unit {0}
IsDone _ = ⊥

-- the answers of commands with checkers of these kinds
module _ (checked : List Kind) where
  -- the answer of a command to a program, whose positions are in these files
  abbrev pub IsProgramAnswer : Command → List (List ℕ) → TypedProgram → Status → List ℕ → Type 0
  IsProgramAnswer (Analyze words) files program status text = IsAnalysisAnswer checked words program status text
  IsProgramAnswer (Flow words) files program status text = IsFlowAnswer program status text
  IsProgramAnswer (Replay words) files program status text = IsReplayAnswer files program words status text
  IsProgramAnswer (Generate words) files program status text = IsSummary checked (length (generated_file words.seed words.size)) program status text

  -- the file type-checks, and this is the command's answer
  pub record Accepts (command : Command) (file : List ℕ) (status : Status) (text : List ℕ) : Type 0 where
    pub lexed : Lexed
    pub tree : List RawExternal
    pub program : TypedProgram
    pub accepted : HasProgram (model_of command) file lexed tree program
    pub answer : IsProgramAnswer command lexed.files.items program status text

  -- the status and the whole text of a command's answer to a file
  abbrev pub IsAnswer : Command → List ℕ → Status → List ℕ → Type 0
  IsAnswer command file BadFile text = IsRefusal (model_of command) file text ⊎ Accepts command file BadFile text
  IsAnswer command file status text = Accepts command file status text

  -- the same for the command's file
  abbrev pub IsFileAnswer : Command → Option (List ℕ) → Status → List ℕ → Type 0
  IsFileAnswer command left status text = (file : List ℕ) × IsLeft (file_of command left) file × IsAnswer command file status text

  -- the whole text for a status, with this command line and this file
  abbrev pub IsWhole : List (List ℕ) → Option (List ℕ) → Status → List ℕ → Type 0
  IsWhole words file BadWords text = (n : ℕ) × AreRefusedAt words n × (text ≡ codes "refused words " ++ (decimal n ++ codes "\n"))
  IsWhole words file status text = (command : Command) × WordsMean words command × IsFileAnswer command file status text

  -- the sink took the whole text of this status
  abbrev pub IsWritten : List (List ℕ) → Option (List ℕ) → Status → Option (List ℕ) → Option (List ℕ) → Type 0
  IsWritten words file status before now = (text : List ℕ) × IsWhole words file status text × Appends before now text

  -- the sink took a part, but not all, of the text of some status
  abbrev pub IsPartWritten : List (List ℕ) → Option (List ℕ) → Option (List ℕ) → Option (List ℕ) → Type 0
  IsPartWritten words file before now =
      (status : Status) × (text : List ℕ) × IsWhole words file status text × AppendsPart before now text

-- one of the two counts of a sink increased
abbrev pub SinkRose : (faults faults' empty_takes empty_takes' : ℕ) → Type 0
SinkRose faults faults' empty_takes empty_takes' = Rose faults faults' ⊎ Rose empty_takes empty_takes'

-- what a command requires of a program: that it has the named function, if one is named
abbrev pub Suits : Command → TypedProgram → Type 0
Suits (Analyze words) program = (entries : List ℕ) × (entries_named words.entry program ≡ Some entries)
Suits (Flow words) program = Unit {0}
Suits (Generate words) program = Unit {0}
Suits (Replay words) program = (entry : ℕ) × (entry_of words.entry program ≡ Some entry)

-- the command line is valid, and the file is a program with what the command requires
pub record IsAcceptable (words : List (List ℕ)) (file : Option (List ℕ)) : Type 0 where
  pub command : Command
  pub meant : WordsMean words command
  pub bytes : List ℕ
  pub reported : file_of command file ≡ Some bytes
  pub lexed : Lexed
  pub tree : List RawExternal
  pub program : TypedProgram
  pub accepted : HasProgram (model_of command) bytes lexed tree program
  pub suits : Suits command program

-- the command line is valid, and the file's syntax tree has a type error
pub record IsTypeRefused (words : List (List ℕ)) (file : Option (List ℕ)) : Type 0 where
  pub command : Command
  pub meant : WordsMean words command
  pub bytes : List ℕ
  pub reported : file_of command file ≡ Some bytes
  pub lexed : Lexed
  pub tree : List RawExternal
  pub parsed : Parses bytes lexed tree
  pub code : TypeCode
  pub place : Place
  pub refused : typed_tree (model_of command) lexed tree ≡ Fault code place

-- the line of this refusal
abbrev pub refused_line : {words : List (List ℕ)} {file : Option (List ℕ)} → IsTypeRefused words file → List ℕ
refused_line r = type_line r.lexed.files.items r.code r.place

-- the file was refused, and the sink took this whole text
abbrev pub IsRefusedWith : List ℕ → Status → Option (List ℕ) → Option (List ℕ) → Type 0
IsRefusedWith text BadFile before now = Appends before now text
IsRefusedWith text _ before now = ⊥
