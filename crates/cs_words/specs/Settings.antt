-- Settings, each an option with its value's text, and the words that set them.
use Rattle.std.specs.Prelude.{◌≡◌, ℕ, ◌⊎◌, Bool, false, nat_eq, IsTrue, List, [], ◌∷◌, ◌++◌, Option, Some, None, codes}
use Rattle.std.specs.Prelude.{if◌then◌else◌}
use Rattle.cs_events.specs.declared.outcome.RunBudgets.{RunBudgets}
use Rattle.cs_inputs.specs.PathText.{is_name}
use Rattle.cs_model.specs.declared.kind.Kind.{Kind}
use Rattle.cs_results.specs.declared.budgets.Budgets.{Budgets}
use Rattle.cs_results.specs.Selected.{every_kind}
use Rattle.cs_types.specs.declared.data_model.DataModel.TheVariants.{Lp64}
use Rattle.cs_words.specs.declared.option_name.OptionName.TheVariants.{Visits, Depth, Events, Nodes, Splits, Kinds, Entry, Format, Model}
pub use Rattle.cs_words.specs.Options.{OptionName}
use Rattle.cs_words.specs.Options.{Verb, setting_text, takes}
use Rattle.cs_words.specs.Values.{DataModel, IsVisits, IsDepth, IsEvents, IsNodes, IsSplits, IsKinds, IsFormat, IsModel}

-- a setting
pub record Given : Type 0 where
  pub setting : OptionName
  pub text : List ℕ

-- the word `--name`, or `--name=value` with a value's text
abbrev pub option_text : OptionName → Option (List ℕ) → List ℕ
option_text setting None = codes "--" ++ setting_text setting
option_text setting (Some text) = codes "--" ++ setting_text setting ++ codes "=" ++ text

-- words begin with a setting, as `--name value` or `--name=value`, and others follow
abbrev pub BeginWithSetting : Given → List (List ℕ) → List (List ℕ) → Type 0
BeginWithSetting given others words = (words ≡ option_text given.setting None ∷ given.text ∷ others)
    ⊎ (words ≡ option_text given.setting (Some given.text) ∷ others)

-- words are those of settings, in order, and others follow
abbrev pub BeginWithSettings : List Given → List (List ℕ) → List (List ℕ) → Type 0
BeginWithSettings [] others words = words ≡ others
BeginWithSettings (given ∷ rest) others words = (following : List (List ℕ)) × BeginWithSetting given following words
    × BeginWithSettings rest others following

-- the indices of the options in their table, which distinguish them
abbrev pub place_of : OptionName → ℕ
place_of Visits = 0
place_of Depth = 1
place_of Events = 2
place_of Nodes = 3
place_of Splits = 4
place_of Kinds = 5
place_of Entry = 6
place_of Format = 7
place_of Model = 8

abbrev pub is_same : OptionName → OptionName → Bool
is_same one other = nat_eq (place_of one) (place_of other)

-- the text of an option's value, if it is given
abbrev pub text_of : OptionName → List Given → Option (List ℕ)
text_of setting [] = None
text_of setting (given ∷ rest) = if is_same setting given.setting then Some given.text else text_of setting rest

-- each is a setting of an option that the command has
abbrev pub AreTaken : Verb → List Given → Type 0
AreTaken verb [] = Unit {0}
AreTaken verb (given ∷ rest) = IsTrue (takes verb given.setting) × AreTaken verb rest

-- no option is given twice
abbrev pub AreDifferent : List Given → Type 0
AreDifferent [] = Unit {0}
AreDifferent (given ∷ rest) = (text_of given.setting rest ≡ None) × AreDifferent rest

-- a value: that of its text if one is given, else the default
abbrev pub IsGivenOr : {X : Type 0} → (List ℕ → X → Type 0) → X → Option (List ℕ) → X → Type 0
IsGivenOr Yields default None value = value ≡ default
IsGivenOr Yields default (Some text) value = Yields text value

-- the budgets of a run, with their defaults
pub record AreBudgets (given : List Given) (budgets : RunBudgets) : Type 0 where
  pub visits : IsGivenOr IsVisits 4 (text_of Visits given) budgets.visits
  pub depth : IsGivenOr IsDepth 5 (text_of Depth given) budgets.depth
  pub events : IsGivenOr IsEvents 20000 (text_of Events given) budgets.events

-- the budgets of an analysis, with their defaults
pub record AreAnalysisBudgets (given : List Given) (budgets : Budgets) : Type 0 where
  pub visits : IsGivenOr IsVisits 4 (text_of Visits given) budgets.visits
  pub depth : IsGivenOr IsDepth 5 (text_of Depth given) budgets.depth
  pub events : IsGivenOr IsEvents 20000 (text_of Events given) budgets.events
  pub nodes : IsGivenOr IsNodes 150000 (text_of Nodes given) budgets.nodes
  pub splits : IsGivenOr IsSplits 64 (text_of Splits given) budgets.splits

-- the kinds whose reports are printed, by default all
abbrev pub AreSelectedKinds : List Given → List Kind → Type 0
AreSelectedKinds given kinds = IsGivenOr IsKinds every_kind (text_of Kinds given) kinds

-- the function that is analyzed, if one is given
abbrev pub IsNamed : Option (List ℕ) → Option (List ℕ) → Type 0
IsNamed None entry = entry ≡ None
IsNamed (Some text) entry = IsTrue (is_name text) × (entry ≡ Some text)

abbrev pub IsEntry : List Given → Option (List ℕ) → Type 0
IsEntry given entry = IsNamed (text_of Entry given) entry

-- whether the output is JSON; by default it isn't
abbrev pub IsJson : List Given → Bool → Type 0
IsJson given json = IsGivenOr IsFormat false (text_of Format given) json

-- the data model, by default LP64
abbrev pub IsDataModel : List Given → DataModel → Type 0
IsDataModel given model = IsGivenOr IsModel Lp64 (text_of Model given) model
