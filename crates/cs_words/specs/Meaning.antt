-- Which command a command line means, and which word is refused if it isn't valid.
use Rattle.std.specs.Prelude.{◌≡◌, ℕ, ◌+◌, ℤ, IsTrue, List, [], ◌∷◌, ◌++◌, length, map, string_bytes}
use Rattle.std.specs.BTreeMap.{insert_entry}
use Rattle.std.specs.declared.string.String.{String}
use Rattle.std.specs.declared.alloc.Global.{Global}
use Rattle.cs_inputs.specs.declared.path.Path.{Path}
use Rattle.cs_inputs.specs.InputText.{SpellsInput}
use Rattle.cs_inputs.specs.PathOrder.{path_order}
use Rattle.cs_inputs.specs.PathText.{is_name}
pub use Rattle.cs_words.specs.declared.command.Command.{Command}
use Rattle.cs_words.specs.declared.command.Command.TheVariants.{Analyze, Flow, Replay, Generate}
use Rattle.cs_words.specs.declared.command.AnalyzeWords.{AnalyzeWords}
use Rattle.cs_words.specs.declared.command.ReplayWords.{ReplayWords}
use Rattle.cs_words.specs.declared.command.GenerateWords.{GenerateWords}
use Rattle.cs_words.specs.declared.verb.Verb.TheVariants as verbs
use Rattle.cs_words.specs.Options.{Verb, verb_text}
use Rattle.cs_words.specs.Settings.{Given, BeginWithSettings, AreTaken, AreDifferent, AreBudgets, AreAnalysisBudgets, AreSelectedKinds, IsEntry}
use Rattle.cs_words.specs.Settings.{IsJson, IsDataModel}
use Rattle.cs_words.specs.Values.{IsSeed, IsSize}

-- a word of the command line
abbrev pub Word : Type 0
Word = String Global

-- the bytes of each word
abbrev pub words_text : List Word → List (List ℕ)
words_text words = map (λ (word : Word). string_bytes word) words

-- these inputs are the earlier ones with those of the words entered in order
abbrev pub AreEntered : List (Path × ℤ) → List (List ℕ) → List (Path × ℤ) → Type 0
AreEntered before [] after = after ≡ before
AreEntered before (word ∷ words) after = (path : Path) × (number : ℤ) × SpellsInput word path number
    × AreEntered (insert_entry path_order before path number) words after

-- an analysis: its settings, and no word after them
pub record IsAnalysis (given : List Given) (others : List (List ℕ)) (analysis : AnalyzeWords) : Type 0 where
  pub budgets : AreAnalysisBudgets given analysis.budgets
  pub kinds : AreSelectedKinds given analysis.kinds
  pub entry : IsEntry given analysis.entry
  pub json : IsJson given analysis.json
  pub model : IsDataModel given analysis.model
  pub no_more : others ≡ []

-- a generated file: the two numbers after the command
pub record IsGeneration (others : List (List ℕ)) (generation : GenerateWords) : Type 0 where
  pub seed : List ℕ
  pub size : List ℕ
  pub whole : others ≡ seed ∷ size ∷ []
  pub is_seed : IsSeed seed generation.seed
  pub is_size : IsSize size generation.size

-- a replay: its settings, and after them a function's name and any number of inputs
pub record IsReplay (given : List Given) (others : List (List ℕ)) (replay : ReplayWords) : Type 0 where
  pub budgets : AreBudgets given replay.budgets
  pub model : IsDataModel given replay.model
  pub name : IsTrue (is_name replay.entry)
  pub input_words : List (List ℕ)
  pub whole : others ≡ replay.entry ∷ input_words
  pub inputs : AreEntered [] input_words replay.inputs

-- the command that a verb, settings and the words after them mean
abbrev pub AskFor : Verb → List Given → List (List ℕ) → Command → Type 0
AskFor verbs.Analyze given others (Analyze words) = IsAnalysis given others words
AskFor verbs.Flow given others (Flow words) = (others ≡ []) × IsDataModel given words.model
AskFor verbs.Replay given others (Replay words) = IsReplay given others words
AskFor verbs.Generate given others (Generate words) = IsGeneration others words
AskFor verb given others command = ⊥

-- words mean a command: the command's own word, then settings of its options, none twice, then the other words that it takes
pub record WordsMean (words : List (List ℕ)) (command : Command) : Type 0 where
  pub verb : Verb
  pub given : List Given
  pub others : List (List ℕ)
  pub following : List (List ℕ)
  pub first : words ≡ verb_text verb ∷ following
  pub settings : BeginWithSettings given others following
  pub taken : AreTaken verb given
  pub different : AreDifferent given
  pub asks : AskFor verb given others command

-- words can be continued to a command: with more words after them, or none, they mean one
abbrev pub BeginsACommand : List (List ℕ) → Type 0
BeginsACommand words = (more : List (List ℕ)) × (command : Command) × WordsMean (words ++ more) command

-- with the next word they can't be continued to a command; or there is no next word, and they mean none
abbrev pub EndBefore : List (List ℕ) → List (List ℕ) → Type 0
EndBefore before [] = (command : Command) → WordsMean before command → ⊥
EndBefore before (word ∷ others) = BeginsACommand (before ++ word ∷ []) → ⊥

-- the first word, by its number from 1, that can't continue a command; or the number after the last word, if words are missing
pub record AreRefusedAt (words : List (List ℕ)) (number : ℕ) : Type 0 where
  pub before : List (List ℕ)
  pub following : List (List ℕ)
  pub whole : words ≡ before ++ following
  pub counts : number ≡ length before + 1
  pub begin : BeginsACommand before
  pub end : EndBefore before following
