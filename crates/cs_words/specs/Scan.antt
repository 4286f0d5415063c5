-- The results of the functions that read the settings; the contracts of parts of `words_of` cite these definitions.
use Rattle.std.specs.Prelude.{◌≡◌, ℕ, Bool, true, false, is_some, nat_eq, ◌==◌, IsTrue, map, ℤ, List, [], ◌∷◌, ◌++◌, ◌+◌, length}
use Rattle.std.specs.Prelude.{Option, Some, None, Result, Ok, Err}
use Rattle.std.specs.List.{find, filter_map, list_all, slice_split}
use Rattle.std.specs.Cmp.Lexicographic.{pointwise}
use Rattle.std.specs.Borrow.{Bor}
use Rattle.cs_model.specs.declared.kind.Kind.{Kind}
use Rattle.cs_model.specs.Kinds.{kind_name}
use Rattle.cs_results.specs.Selected.{every_kind}
use Rattle.cs_inputs.specs.PathText.{is_name}
use Rattle.cs_inputs.specs.declared.path.Path.{Path}
use Rattle.cs_inputs.specs.declared.refusal.PathRefusal.{PathRefusal}
use Rattle.cs_inputs.specs.declared.refusal.PathRefusal.TheVariants as paths
use Rattle.cs_inputs.specs.InputText.{SpellsInput}
pub use Rattle.cs_words.specs.declared.settings.Settings.{Settings}
use Rattle.cs_words.specs.declared.option_name.OptionName.TheVariants.{Visits, Depth, Events, Nodes, Splits, Kinds, Entry, Format, Model}
use Rattle.cs_words.specs.declared.option_word.OptionWord.{OptionWord}
use Rattle.cs_words.specs.declared.option_word.OptionWord.TheVariants.{Alone, With}
use Rattle.cs_words.specs.declared.refusal.WordsRefusal.{WordsRefusal}
use Rattle.cs_words.specs.declared.refusal.WordsRefusal.TheVariants.{Words, Memory}
pub use Rattle.cs_words.specs.Options.{OptionName}
use Rattle.cs_words.specs.Options.{Verb, verb_text}
use Rattle.cs_words.specs.Values.{DataModel, IsVisits, IsDepth, IsEvents, IsNodes, IsSplits, IsKinds, IsFormat, IsModel}
use Rattle.cs_words.specs.Settings.{Given, option_text, BeginWithSettings, is_same, text_of, AreTaken, AreDifferent}
use Rattle.cs_words.specs.Meaning.{Command, WordsMean, AreEntered, AreRefusedAt}

-- the option that a word names, and the value's text in the word
abbrev pub setting_in : OptionWord → OptionName
setting_in (Alone setting) = setting
setting_in (With setting text) = setting

abbrev pub text_in : OptionWord → Option (List ℕ)
text_in (Alone setting) = None
text_in (With setting text) = Some text.now

-- a word names this option
abbrev pub IsOption : List ℕ → OptionWord → Type 0
IsOption word option = word ≡ option_text (setting_in option) (text_in option)

-- the option's word is the first, followed by the others
pub record IsFirstOption (option : OptionWord) (others words : List (List ℕ)) : Type 0 where
  pub word : List ℕ
  pub whole : words ≡ word ∷ others
  pub names : IsOption word option

-- a field of the settings found: None if the option isn't given, else the value of the text
abbrev pub IsFound : {X : Type 0} → (List ℕ → X → Type 0) → Option (List ℕ) → Option X → Type 0
IsFound Yields None found = found ≡ None
IsFound {X} Yields (Some text) found = (value : X) × (found ≡ Some value) × Yields text value

-- the kind with this name, if there is one
abbrev pub kind_of : List ℕ → Option Kind
kind_of name = find (λ (kind : Kind). pointwise nat_eq (kind_name kind) name) every_kind

-- whether the parts of a text between its commas are names of kinds
abbrev pub are_kinds : List ℕ → Bool
are_kinds text = list_all (λ (name : List ℕ). is_some (kind_of name)) (slice_split (λ b. b == 44) text)

-- the kinds that a text names, or all of them if there is no text
abbrev pub AreKindsOf : Option (Bor (List ℕ)) → List Kind → Type 0
AreKindsOf None kinds = kinds ≡ every_kind
AreKindsOf (Some text) kinds = kinds ≡ filter_map kind_of (slice_split (λ b. b == 44) text.now)

-- a field keeps a text, which passes a test
abbrev pub IsKept : (List ℕ → Bool) → List ℕ → Bor (List ℕ) → Type 0
IsKept test text kept = (kept.now ≡ text) × IsTrue (test text)

-- an option's field is the value of its text, if it's given
abbrev pub IsSetTo : OptionName → Option (List ℕ) → Settings → Type 0
IsSetTo Visits text settings = IsFound IsVisits text settings.visits
IsSetTo Depth text settings = IsFound IsDepth text settings.depth
IsSetTo Events text settings = IsFound IsEvents text settings.events
IsSetTo Nodes text settings = IsFound IsNodes text settings.nodes
IsSetTo Splits text settings = IsFound IsSplits text settings.splits
IsSetTo Kinds text settings = IsFound (IsKept are_kinds) text settings.kinds
IsSetTo Entry text settings = IsFound (IsKept is_name) text settings.entry
IsSetTo Format text settings = IsFound IsFormat text settings.json
IsSetTo Model text settings = IsFound IsModel text settings.model

-- whether an option's field is set
abbrev pub is_set : OptionName → Settings → Bool
is_set Visits settings = is_some settings.visits
is_set Depth settings = is_some settings.depth
is_set Events settings = is_some settings.events
is_set Nodes settings = is_some settings.nodes
is_set Splits settings = is_some settings.splits
is_set Kinds settings = is_some settings.kinds
is_set Entry settings = is_some settings.entry
is_set Format settings = is_some settings.json
is_set Model settings = is_some settings.model

-- a text is that of a value of an option
abbrev pub HasValue : OptionName → List ℕ → Type 0
HasValue Visits text = (value : ℕ) × IsVisits text value
HasValue Depth text = (value : ℕ) × IsDepth text value
HasValue Events text = (value : ℕ) × IsEvents text value
HasValue Nodes text = (value : ℕ) × IsNodes text value
HasValue Splits text = (value : ℕ) × IsSplits text value
HasValue Kinds text = IsTrue (are_kinds text)
HasValue Entry text = IsTrue (is_name text)
HasValue Format text = (value : Bool) × IsFormat text value
HasValue Model text = (value : DataModel) × IsModel text value

-- settings with one more: the option is set to the text's value, and the others are unchanged
pub record IsSetBesides (setting : OptionName) (text : List ℕ) (before after : Settings) : Type 0 where
  pub here : IsSetTo setting (Some text) after
  pub elsewhere : (other : OptionName) → is_same other setting ≡ false → (reported : Option (List ℕ)) → IsSetTo other reported before
      → IsSetTo other reported after

-- words are read up to the rest: a command's word, and settings of its options, which the fields contain
pub record AreReadTo (verb : Verb) (words : List (List ℕ)) (settings : Settings) (rest : List (List ℕ)) : Type 0 where
  pub given : List Given
  pub done : List (List ℕ)
  pub whole : words ≡ (verb_text verb ∷ done) ++ rest
  pub spelled : BeginWithSettings given [] done
  pub taken : AreTaken verb given
  pub different : AreDifferent given
  pub fields : (setting : OptionName) → IsSetTo setting (text_of setting given) settings

-- the first word doesn't name an option
abbrev pub BeginWithNoOption : List (List ℕ) → Type 0
BeginWithNoOption [] = Unit {0}
BeginWithNoOption (word ∷ words) = (setting : OptionName) (text : Option (List ℕ)) → word ≡ option_text setting text → ⊥

-- all settings are read
pub record AreReadWhole (verb : Verb) (words : List (List ℕ)) (settings : Settings) (rest : List (List ℕ)) : Type 0 where
  pub read : AreReadTo verb words settings rest
  pub no_more : BeginWithNoOption rest

-- a refusal of the words is right
abbrev pub IsRefusal : List (List ℕ) → WordsRefusal → Type 0
IsRefusal words (Words number) = AreRefusedAt words number
IsRefusal words Memory = Unit {0}

-- the refusal of a word, by its number from 1: with the words after it, it is one of this many remaining words
abbrev pub IsRefusalBefore : ℕ → ℕ → WordsRefusal → Type 0
IsRefusalBefore total left (Words number) = number + left ≡ total + 1
IsRefusalBefore total left Memory = ⊥

-- the same for a word that isn't an input, unless memory ran out
abbrev pub IsRefusalFor : PathRefusal → ℕ → ℕ → WordsRefusal → Type 0
IsRefusalFor paths.BadPath total left refusal = IsRefusalBefore total left refusal
IsRefusalFor paths.BadNumber total left refusal = IsRefusalBefore total left refusal
IsRefusalFor paths.TooWide total left refusal = IsRefusalBefore total left refusal
IsRefusalFor paths.Memory total left refusal = refusal ≡ Memory

-- the only command that the words mean, or a right refusal
abbrev pub IsRight : List (List ℕ) → Result Command WordsRefusal → Type 0
IsRight words (Ok command) = WordsMean words command × ((other : Command) → WordsMean words other → other ≡ command)
IsRight words (Err refusal) = IsRefusal words refusal

-- the first word that isn't an input, among those after a function's name: its number plus the count of words from it to the end is the
-- count of all words plus 1
pub record IsNoInputAt (words : List (List ℕ)) (total number : ℕ) : Type 0 where
  pub before : List (List ℕ)
  pub word : List ℕ
  pub following : List (List ℕ)
  pub whole : words ≡ before ++ word ∷ following
  pub counts : number + length (word ∷ following) ≡ total + 1
  pub inputs : List (Path × ℤ)
  pub entered : AreEntered [] before inputs
  pub none : (path : Path) (number : ℤ) → SpellsInput word path number → ⊥

-- the inputs that are read, or why they can't be
abbrev pub AreInputsRead : List (List ℕ) → ℕ → Result (List (Path × ℤ)) WordsRefusal → Type 0
AreInputsRead words total (Ok inputs) = AreEntered [] words inputs
AreInputsRead words total (Err (Words number)) = IsNoInputAt words total number
AreInputsRead words total (Err Memory) = Unit {0}
