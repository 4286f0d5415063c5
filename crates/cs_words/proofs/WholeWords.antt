-- All words of a command are read, and mean nothing else: for `analyze_words`, `replay_words` and
-- `words_of`.
use Rattle.std.proofs.Common.{◌≡◌, ℕ, ◌+◌, ◌<◌, true, false, List, [], ◌∷◌, ◌++◌, length, Result, Ok, Err, ap, sym, ◌∙◌, refl}
use Rattle.std.proofs.Common.{subst, append_assoc, inl, inr, arith, ◌≤◌, lit<, lit≤}
use Rattle.std.specs.Borrow.{Bor}
use Rattle.std.specs.Prelude.{◌⊎◌, ℤ, unwrap_or, option_map, codes, IfOk, IfErr}
use Rattle.std.proofs.lemmas.List.{append-nil}
use Rattle.cs_inputs.specs.declared.path.Path.{Path}
use Rattle.cs_inputs.specs.InputText.{SpellsInput}
use Rattle.cs_inputs.specs.PathText.{is_name}
use Rattle.cs_types.specs.declared.data_model.DataModel.TheVariants.{Lp64}
use Rattle.cs_words.specs.declared.command.Command.TheVariants.{Analyze, Flow, Replay, Generate}
use Rattle.cs_results.specs.declared.budgets.Budgets.{Budgets}
use Rattle.cs_words.specs.declared.command.AnalyzeWords.{AnalyzeWords}
use Rattle.cs_words.specs.declared.command.FlowWords.{FlowWords}
use Rattle.cs_words.specs.declared.command.ReplayWords.{ReplayWords}
use Rattle.cs_words.specs.declared.command.GenerateWords.{GenerateWords}
use Rattle.cs_words.specs.declared.refusal.WordsRefusal.{WordsRefusal}
use Rattle.cs_words.specs.declared.refusal.WordsRefusal.TheVariants.{Words, Memory}
use Rattle.cs_words.specs.declared.verb.Verb.TheVariants as verbs
use Rattle.cs_words.specs.Options.{Verb, verb_text}
use Rattle.cs_words.specs.Values.{IsNumberIn, IsSeed, IsSize}
use Rattle.cs_words.specs.Settings.{Given, AreBudgets, IsDataModel}
use Rattle.cs_words.specs.Meaning.{Command, IsAnalysis, IsReplay, IsGeneration, AskFor, WordsMean, BeginsACommand, AreRefusedAt, AreEntered}
use Rattle.cs_words.specs.Scan.{Settings, AreReadTo, AreReadWhole, BeginWithNoOption, IsRefusal, IsRight, IsNoInputAt, AreKindsOf}
use Rattle.cs_words.proofs.EnteredInputs.{entered_at, same_entered}
use Rattle.cs_words.proofs.FoundFields.{budgets_found, analysis_budgets_found, kinds_found, entry_found, json_found, model_found, same_budgets}
use Rattle.cs_words.proofs.FoundFields.{same_analysis_budgets, same_kinds, same_entry, same_json, same_model, some_budgets, some_model}
use Rattle.cs_words.proofs.ReadSettings.{goes_on, asks_here, means_with, spelled_by}
use Rattle.cs_words.proofs.SettingWords.{cut_off, asks_no_option}
use Rattle.cs_words.proofs.Refusals.{not_meant, one_refusal, refused_first, refused_end, refused_so, asks_from, refused_inside}

-- ---- the clauses of a right answer
pub right_ok : (words : List (List ℕ)) (r : Result Command WordsRefusal) → IsRight words r → IfOk r (λ command. WordsMean words command)
right_ok words (Ok command) h = h.0
right_ok words (Err refusal) h = tt

pub right_err : (words : List (List ℕ)) (r : Result Command WordsRefusal) → IsRight words r → IfErr r (IsRefusal words)
right_err words (Ok command) h = tt
right_err words (Err refusal) h = h

pub accepts : (words : List (List ℕ)) (r : Result Command WordsRefusal) → IsRight words r → (command : Command) → WordsMean words command
    → (r ≡ Ok command) ⊎ (r ≡ Err Memory)
accepts words (Ok found) h command m = inl (ap Ok (sym (h.1 command m)))
accepts words (Err (Words number)) h command m = absurd (not_meant words number h command m)
accepts words (Err Memory) h command m = inr refl

pub refuses : (words : List (List ℕ)) (r : Result Command WordsRefusal) → IsRight words r → (number : ℕ) → AreRefusedAt words number
    → (r ≡ Err (Words number)) ⊎ (r ≡ Err Memory)
refuses words (Ok found) h number r = absurd (not_meant words number r found h.0)
refuses words (Err (Words other)) h number r = inl (ap (λ (n : ℕ). Err (Words n)) (one_refusal words other number h r))
refuses words (Err Memory) h number r = inr refl

-- ---- the meaning, if all settings were read
pub all_asked : (verb : Verb) (words : List (List ℕ)) (settings : Settings) (rest : List (List ℕ)) → (whole : AreReadWhole verb words settings rest)
    → (command : Command) → WordsMean words command → AskFor verb whole.read.given rest command
all_asked verb words settings rest whole command m =
    asks_here verb whole.read.given rest command whole.no_more
    (goes_on verb whole.read.given whole.read.done rest command whole.read.spelled
    (subst (λ (w : List (List ℕ)). WordsMean w command) whole.read.whole m))

all_meant : (verb : Verb) (words : List (List ℕ)) (settings : Settings) (rest : List (List ℕ)) → (read : AreReadTo verb words settings rest)
    → (command : Command) → AskFor verb read.given rest command → WordsMean words command
all_meant verb words settings rest read command asks =
    subst (λ (w : List (List ℕ)). WordsMean w command) (sym read.whole)
    (means_with verb read.given read.done rest command read.spelled read.taken read.different asks)

-- ---- `analyze` and `flow`
only_analyze : (given : List Given) (rest : List (List ℕ)) (words : AnalyzeWords) → IsAnalysis given rest words
    → (other : Command) → AskFor verbs.Analyze given rest other → other ≡ Analyze words
only_analyze given rest words is (Analyze other) asks =
    let budgets : other.budgets ≡ words.budgets = same_analysis_budgets given other.budgets words.budgets asks.budgets is.budgets in
    let kinds : other.kinds ≡ words.kinds = same_kinds given other.kinds words.kinds asks.kinds is.kinds in
    let entry : other.entry ≡ words.entry = same_entry given other.entry words.entry asks.entry is.entry in
    let json : other.json ≡ words.json = same_json given other.json words.json asks.json is.json in
    let model : other.model ≡ words.model = same_model given other.model words.model asks.model is.model in
    (λ i. Analyze (record { budgets = budgets i; kinds = kinds i; entry = entry i; json = json i; model = model i }))
only_analyze given rest words is (Flow other) asks = absurd asks
only_analyze given rest words is (Replay other) asks = absurd asks
only_analyze given rest words is (Generate other) asks = absurd asks

only_flow : (given : List Given) (rest : List (List ℕ)) (words : FlowWords) → IsDataModel given words.model
    → (other : Command) → AskFor verbs.Flow given rest other → other ≡ Flow words
only_flow given rest words model (Analyze other) asks = absurd asks
only_flow given rest words model (Flow other) asks =
    let models : other.model ≡ words.model = same_model given other.model words.model asks.1 model in
    (λ i. Flow (record { model = models i }))
only_flow given rest words model (Replay other) asks = absurd asks
only_flow given rest words model (Generate other) asks = absurd asks

-- the budgets of the fields, with their defaults
pub record IsReadBudgets (settings : Settings) (budgets : Budgets) : Type 0 where
  pub visits : budgets.visits ≡ unwrap_or settings.visits 4
  pub depth : budgets.depth ≡ unwrap_or settings.depth 5
  pub events : budgets.events ≡ unwrap_or settings.events 20000
  pub nodes : budgets.nodes ≡ unwrap_or settings.nodes 150000
  pub splits : budgets.splits ≡ unwrap_or settings.splits 64

pub analyze_right : (words : List (List ℕ)) (settings : Settings) (rest : List (List ℕ)) (found : AnalyzeWords)
    → AreReadWhole verbs.Analyze words settings rest → rest ≡ [] → IsReadBudgets settings found.budgets → AreKindsOf settings.kinds found.kinds
    → found.entry ≡ option_map (λ (text : Bor (List ℕ)). text.now) settings.entry → found.json ≡ unwrap_or settings.json false
    → found.model ≡ unwrap_or settings.model Lp64 → IsRight words (Ok (Analyze found))
analyze_right words settings rest found whole none read kinds entry json model =
    let given = whole.read.given in
    let fields = whole.read.fields in
    let asks : IsAnalysis given rest found = record {
      budgets = analysis_budgets_found given settings found.budgets fields read.visits read.depth read.events read.nodes read.splits;
      kinds = kinds_found given settings found.kinds fields kinds;
      entry = entry_found given settings found.entry fields entry;
      json = json_found given settings found.json fields json;
      model = model_found given settings found.model fields model;
      no_more = none;
    } in (
      all_meant verbs.Analyze words settings rest whole.read (Analyze found) asks,
      λ other m. only_analyze given rest found asks other (all_asked verbs.Analyze words settings rest whole other m),
    )

pub flow_right : (words : List (List ℕ)) (settings : Settings) (rest : List (List ℕ)) (found : FlowWords) → AreReadWhole verbs.Flow words settings rest
    → rest ≡ [] → found.model ≡ unwrap_or settings.model Lp64 → IsRight words (Ok (Flow found))
flow_right words settings rest found whole none is =
    let model = model_found whole.read.given settings found.model whole.read.fields is in (
      all_meant verbs.Flow words settings rest whole.read (Flow found) (none, model),
      λ other m. only_flow whole.read.given rest found model other (all_asked verbs.Flow words settings rest whole other m),
    )

-- a command without arguments after its settings
abbrev pub AsksForNoMore : Verb → Type 0
AsksForNoMore verb = (given : List Given) (word : List ℕ) (more : List (List ℕ)) (command : Command) → AskFor verb given (word ∷ more) command → ⊥

pub nothing_analyzed : AsksForNoMore verbs.Analyze
nothing_analyzed given word more (Analyze words) asks = let e = asks.no_more in absurd (cc)
nothing_analyzed given word more (Flow words) asks = asks
nothing_analyzed given word more (Replay words) asks = asks
nothing_analyzed given word more (Generate words) asks = asks

pub nothing_reported : AsksForNoMore verbs.Flow
nothing_reported given word more (Analyze words) asks = asks
nothing_reported given word more (Flow words) asks = let e = asks.0 in absurd (cc)
nothing_reported given word more (Replay words) asks = asks
nothing_reported given word more (Generate words) asks = asks

pub one_more : (verb : Verb) → AsksForNoMore verb → (words : List (List ℕ)) (settings : Settings) (rest : List (List ℕ)) (number : ℕ)
    → AreReadWhole verb words settings rest → 0 < length rest → number + length rest ≡ length words + 1 → AreRefusedAt words number
one_more verb none words settings [] number whole some counts = absurd (omega arith)
one_more verb none words settings (word ∷ following) number whole some counts =
    refused_first verb words settings (word ∷ following) number word following whole.read refl counts
    (λ more command on. none whole.read.given word more command (asks_here verb whole.read.given (word ∷ more) command whole.no_more on))

-- ---- `replay`
no_entry_asked : (given : List Given) (command : Command) → AskFor verbs.Replay given [] command → ⊥
no_entry_asked given (Analyze words) asks = asks
no_entry_asked given (Flow words) asks = asks
no_entry_asked given (Replay words) asks = let e = asks.whole in absurd (cc)
no_entry_asked given (Generate words) asks = asks

pub no_entry : (words : List (List ℕ)) (settings : Settings) (rest : List (List ℕ)) (number : ℕ) → AreReadWhole verbs.Replay words settings rest
    → rest ≡ [] → number + length rest ≡ length words + 1 → AreRefusedAt words number
no_entry words settings rest number whole none counts =
    refused_end verbs.Replay words settings rest number whole.read none counts
    (λ command on. no_entry_asked whole.read.given command (asks_here verbs.Replay whole.read.given [] command tt on))

entry_asked : (given : List Given) (word : List ℕ) (more : List (List ℕ)) (command : Command) → is_name word ≡ false
    → AskFor verbs.Replay given (word ∷ more) command → ⊥
entry_asked given word more (Analyze words) absent asks = asks
entry_asked given word more (Flow words) absent asks = asks
entry_asked given word more (Generate words) absent asks = asks
entry_asked given word more (Replay words) absent asks =
    let e = asks.whole in
    let same : words.entry ≡ word = cc in
    let name : is_name words.entry ≡ true = asks.name in
    let both : is_name words.entry ≡ false = ap is_name same ∙ absent in
    absurd (cc)

pub bad_entry : (words : List (List ℕ)) (settings : Settings) (rest : List (List ℕ)) (number : ℕ) (word : List ℕ) (following : List (List ℕ))
    → AreReadWhole verbs.Replay words settings rest → rest ≡ word ∷ following → is_name word ≡ false → number + length rest ≡ length words + 1
    → AreRefusedAt words number
bad_entry words settings rest number word following whole is absent counts =
    let first : BeginWithNoOption (word ∷ following) = subst BeginWithNoOption is whole.no_more in
    refused_first verbs.Replay words settings rest number word following whole.read is counts
    (λ more command on. entry_asked whole.read.given word more command absent (asks_here verbs.Replay whole.read.given (word ∷ more) command first on))

-- a run that the words read so far describe, whatever its inputs
replay_of : (given : List Given) (settings : Settings) (rest : List (List ℕ)) (found : ReplayWords) (numbers : List (List ℕ))
    → AreBudgets given found.budgets → IsDataModel given found.model → rest ≡ found.entry ∷ numbers → is_name found.entry ≡ true
    → AreEntered [] numbers found.inputs → IsReplay given rest found
replay_of given settings rest found numbers budgets model whole name inputs = record {
  budgets = budgets;
  model = model;
  name = name;
  input_words = numbers;
  whole = whole;
  inputs = inputs;
}

input_asked : (given : List Given) (entry : List ℕ) (before : List (List ℕ)) (word : List ℕ) (more : List (List ℕ)) (command : Command)
    → ((path : Path) (number : ℤ) → SpellsInput word path number → ⊥) → AskFor verbs.Replay given (entry ∷ before ++ word ∷ more) command
    → ⊥
input_asked given entry before word more (Analyze words) none asks = asks
input_asked given entry before word more (Flow words) none asks = asks
input_asked given entry before word more (Generate words) none asks = asks
input_asked given entry before word more (Replay words) none asks =
    let e = asks.whole in
    let numbers : asks.input_words ≡ before ++ word ∷ more = cc in
    let at = entered_at [] before word more words.inputs (subst (λ (w : List (List ℕ)). AreEntered [] w words.inputs) numbers asks.inputs) in
    none at.0 at.1 at.2

pub bad_input : (words : List (List ℕ)) (settings : Settings) (rest : List (List ℕ)) (number : ℕ) (entry : List ℕ) (others : List (List ℕ))
    → AreReadWhole verbs.Replay words settings rest → rest ≡ entry ∷ others → is_name entry ≡ true → IsNoInputAt others (length words) number
    → AreRefusedAt words number
bad_input words settings rest number entry others whole is name bad =
    let given = whole.read.given in
    let done = verb_text verbs.Replay ∷ whole.read.done in
    let front : List (List ℕ) = entry ∷ bad.before in
    let parts : words ≡ (done ++ front) ++ bad.word ∷ bad.following = whole.read.whole
    ∙ ap (λ (w : List (List ℕ)). done ++ w) (is ∙ ap (λ (w : List (List ℕ)). entry ∷ w) bad.whole)
    ∙ sym (append_assoc done front (bad.word ∷ bad.following)) in
    refused_so words (done ++ front) (bad.word ∷ bad.following) number parts bad.counts begin end
  where
    begin : BeginsACommand ((verb_text verbs.Replay ∷ whole.read.done) ++ entry ∷ bad.before)
    begin =
        let reported = (spelled_by verbs.Replay words settings rest whole.read).reported in
        let budgets = some_budgets whole.read.given reported in
        let model = some_model whole.read.given reported in
        let found : ReplayWords = record { budgets = budgets.0; entry = entry; inputs = bad.inputs; model = model.0 } in
        let asks : IsReplay whole.read.given (entry ∷ bad.before) found =
        replay_of whole.read.given settings (entry ∷ bad.before) found bad.before budgets.1 model.1 refl name bad.entered in (
          [],
          Replay found,
          subst (λ (w : List (List ℕ)). WordsMean w (Replay found)) (sym (append-nil ((verb_text verbs.Replay ∷ whole.read.done) ++ entry ∷ bad.before)))
              (means_with verbs.Replay whole.read.given whole.read.done (entry ∷ bad.before) (Replay found) whole.read.spelled whole.read.taken
              whole.read.different asks),
        )

    end : BeginsACommand (((verb_text verbs.Replay ∷ whole.read.done) ++ entry ∷ bad.before) ++ bad.word ∷ []) → ⊥
    end h =
        let done = verb_text verbs.Replay ∷ whole.read.done in
        let parts = append_assoc (done ++ entry ∷ bad.before) (bad.word ∷ []) h.0 ∙ append_assoc done (entry ∷ bad.before) (bad.word ∷ h.0) in
        let on = goes_on verbs.Replay whole.read.given whole.read.done (entry ∷ bad.before ++ bad.word ∷ h.0) h.1 whole.read.spelled
        (subst (λ (w : List (List ℕ)). WordsMean w h.1) parts h.2) in
        let first : BeginWithNoOption (entry ∷ others) = subst BeginWithNoOption is whole.no_more in
        input_asked whole.read.given entry bad.before bad.word h.0 h.1 bad.none
        (asks_here verbs.Replay whole.read.given (entry ∷ bad.before ++ bad.word ∷ h.0) h.1 first on)

only_replay : (given : List Given) (rest : List (List ℕ)) (found : ReplayWords) → IsReplay given rest found
    → (other : Command) → AskFor verbs.Replay given rest other → other ≡ Replay found
only_replay given rest found is (Analyze other) asks = absurd asks
only_replay given rest found is (Flow other) asks = absurd asks
only_replay given rest found is (Generate other) asks = absurd asks
only_replay given rest found is (Replay other) asks =
    let budgets : other.budgets ≡ found.budgets = same_budgets given other.budgets found.budgets asks.budgets is.budgets in
    let model : other.model ≡ found.model = same_model given other.model found.model asks.model is.model in
    let one = asks.whole in
    let two = is.whole in
    let entry : other.entry ≡ found.entry = cc in
    let numbers : asks.input_words ≡ is.input_words = cc in
    let inputs : other.inputs ≡ found.inputs =
    same_entered is.input_words [] other.inputs found.inputs (subst (λ (w : List (List ℕ)). AreEntered [] w other.inputs) numbers asks.inputs)
    is.inputs in
    (λ i. Replay (record { budgets = budgets i; entry = entry i; inputs = inputs i; model = model i }))

pub replay_right : (words : List (List ℕ)) (settings : Settings) (rest : List (List ℕ)) (found : ReplayWords) (others : List (List ℕ))
    → AreReadWhole verbs.Replay words settings rest → rest ≡ found.entry ∷ others → is_name found.entry ≡ true → AreEntered [] others found.inputs
    → found.budgets.visits ≡ unwrap_or settings.visits 4 → found.budgets.depth ≡ unwrap_or settings.depth 5
    → found.budgets.events ≡ unwrap_or settings.events 20000 → found.model ≡ unwrap_or settings.model Lp64 → IsRight words (Ok (Replay found))
replay_right words settings rest found others whole is name inputs v d e m =
    let given = whole.read.given in
    let asks : IsReplay given rest found =
    replay_of given settings rest found others (budgets_found given settings found.budgets whole.read.fields v d e)
    (model_found given settings found.model whole.read.fields m) is name inputs in (
      all_meant verbs.Replay words settings rest whole.read (Replay found) asks,
      λ other means. only_replay given rest found asks other (all_asked verbs.Replay words settings rest whole other means),
    )

-- ---- `generate`
one_number : (least greatest : ℕ) (text : List ℕ) (one other : ℕ) → IsNumberIn least greatest text one → IsNumberIn least greatest text other
    → one ≡ other
one_number least greatest text one other h k = h.value ∙ sym k.value

only_generation : (given : List Given) (rest : List (List ℕ)) (found : GenerateWords) → IsGeneration rest found
    → (other : Command) → AskFor verbs.Generate given rest other → other ≡ Generate found
only_generation given rest found is (Analyze other) asks = absurd asks
only_generation given rest found is (Flow other) asks = absurd asks
only_generation given rest found is (Replay other) asks = absurd asks
only_generation given rest found is (Generate other) asks =
    let whole : asks.seed ∷ asks.size ∷ [] ≡ is.seed ∷ is.size ∷ [] = sym asks.whole ∙ is.whole in
    let seeds : asks.seed ≡ is.seed = cc in
    let sizes : asks.size ≡ is.size = cc in
    let seed : other.seed ≡ found.seed =
    one_number 0 999999999 is.seed other.seed found.seed (subst (λ (t : List ℕ). IsSeed t other.seed) seeds asks.is_seed) is.is_seed in
    let size : other.size ≡ found.size =
    one_number 0 4000 is.size other.size found.size (subst (λ (t : List ℕ). IsSize t other.size) sizes asks.is_size) is.is_size in
    (λ i. Generate (record { seed = seed i; size = size i }))

pub generate_right : (words : List (List ℕ)) (settings : Settings) (rest : List (List ℕ)) (found : GenerateWords)
    → AreReadWhole verbs.Generate words settings rest → IsGeneration rest found → IsRight words (Ok (Generate found))
generate_right words settings rest found whole asks = (
  all_meant verbs.Generate words settings rest whole.read (Generate found) asks,
  λ other m. only_generation whole.read.given rest found asks other (all_asked verbs.Generate words settings rest whole other m),
)

-- the arguments of `generate`, one by one
generation_whole : (given : List Given) (rest : List (List ℕ)) (command : Command) → AskFor verbs.Generate given rest command
    → (seed size : List ℕ) × (a b : ℕ) × (rest ≡ seed ∷ size ∷ []) × IsSeed seed a × IsSize size b
generation_whole given rest (Analyze words) asks = absurd asks
generation_whole given rest (Flow words) asks = absurd asks
generation_whole given rest (Replay words) asks = absurd asks
generation_whole given rest (Generate words) asks = (asks.seed, asks.size, words.seed, words.size, asks.whole, asks.is_seed, asks.is_size)

nothing : (greatest : ℕ) → 0 ≤ greatest → IsNumberIn 0 greatest (codes "0") 0
nothing greatest h = record { digits = refl; some = lit< tt; few = lit≤ tt; value = refl; from_least = lit≤ tt; to_greatest = h }

some_generation : (seed size : List ℕ) (a b : ℕ) → IsSeed seed a → IsSize size b → IsGeneration (seed ∷ size ∷ []) (record { seed = a; size = b })
some_generation seed size a b is_seed is_size = record { seed = seed; size = size; whole = refl; is_seed = is_seed; is_size = is_size }

-- not a seed
pub bad_seed : (words : List (List ℕ)) (settings : Settings) (rest : List (List ℕ)) (number : ℕ) (word : List ℕ) (others : List (List ℕ))
    → AreReadWhole verbs.Generate words settings rest → rest ≡ word ∷ others → ((n : ℕ) → IsSeed word n → ⊥)
    → number + length rest ≡ length words + 1 → AreRefusedAt words number
bad_seed words settings rest number word others whole is none counts =
    let first : BeginWithNoOption (word ∷ others) = subst BeginWithNoOption is whole.no_more in
    refused_first verbs.Generate words settings rest number word others whole.read is counts (λ more command on.
    let parts = generation_whole whole.read.given (word ∷ more) command (asks_here verbs.Generate whole.read.given (word ∷ more) command first on) in
    let e = parts.4 in
    let same : word ≡ parts.0 = cc in
    none parts.2 (subst (λ (t : List ℕ). IsSeed t parts.2) (sym same) parts.5))

pub no_seed : (words : List (List ℕ)) (settings : Settings) (rest : List (List ℕ)) (number : ℕ) → AreReadWhole verbs.Generate words settings rest
    → rest ≡ [] → number + length rest ≡ length words + 1 → AreRefusedAt words number
no_seed words settings rest number whole none counts =
    refused_end verbs.Generate words settings rest number whole.read none counts (λ command on.
    let parts = generation_whole whole.read.given [] command (asks_here verbs.Generate whole.read.given [] command tt on) in
    let e = parts.4 in absurd (cc))

-- a seed, but not a size
pub bad_size : (words : List (List ℕ)) (settings : Settings) (rest : List (List ℕ)) (number : ℕ) (seed : List ℕ) (a : ℕ) (following : List (List ℕ))
    → AreReadWhole verbs.Generate words settings rest → rest ≡ seed ∷ following → IsSeed seed a
    → ((word : List ℕ) (others : List (List ℕ)) (n : ℕ) → following ≡ word ∷ others → IsSize word n → ⊥)
    → number + length following ≡ length words + 1 → AreRefusedAt words number
bad_size words settings rest number seed a following whole is is_seed none counts =
    refused_inside verbs.Generate words settings rest number (seed ∷ []) following whole is counts
    (asks_from verbs.Generate whole.read.given whole.read.done (seed ∷ []) (codes "0" ∷ []) (Generate (record { seed = a; size = 0 }))
    (spelled_by verbs.Generate words settings rest whole.read) (some_generation seed (codes "0") a 0 is_seed (nothing 4000 (lit≤ tt))))
    (subst BeginWithNoOption is whole.no_more)
    (λ command end asks.
    let parts = generation_whole whole.read.given (seed ∷ []) command asks in
    let e = parts.4 in absurd (cc))
    (λ word others more command begins asks.
    let parts = generation_whole whole.read.given (seed ∷ word ∷ more) command asks in
    let e = parts.4 in
    let same : word ≡ parts.1 = cc in
    none word others parts.3 begins (subst (λ (t : List ℕ). IsSize t parts.3) (sym same) parts.6))

-- a word after the size
pub third_word : (words : List (List ℕ)) (settings : Settings) (rest : List (List ℕ)) (number : ℕ) (seed size : List ℕ) (a b : ℕ)
    (following : List (List ℕ)) → AreReadWhole verbs.Generate words settings rest → rest ≡ seed ∷ size ∷ following → IsSeed seed a
    → IsSize size b
    → 0 < length following → number + length following ≡ length words + 1 → AreRefusedAt words number
third_word words settings rest number seed size a b following whole is is_seed is_size some counts =
    refused_inside verbs.Generate words settings rest number (seed ∷ size ∷ []) following whole is counts
    (asks_from verbs.Generate whole.read.given whole.read.done (seed ∷ size ∷ []) [] (Generate (record { seed = a; size = b }))
    (spelled_by verbs.Generate words settings rest whole.read) (some_generation seed size a b is_seed is_size))
    (subst BeginWithNoOption is whole.no_more)
    (λ command end asks. let none : length following ≡ 0 = ap length end in absurd (omega arith))
    (λ word others more command begins asks.
    let parts = generation_whole whole.read.given (seed ∷ size ∷ word ∷ more) command asks in
    let e = parts.4 in absurd (cc))

-- ---- words mean only one command
only_asked : (verb : Verb) (given : List Given) (rest : List (List ℕ)) (one other : Command) → AskFor verb given rest one → AskFor verb given rest other
    → other ≡ one
only_asked verbs.Analyze given rest (Analyze found) other one asks = only_analyze given rest found one other asks
only_asked verbs.Analyze given rest (Flow found) other one asks = absurd one
only_asked verbs.Analyze given rest (Replay found) other one asks = absurd one
only_asked verbs.Analyze given rest (Generate found) other one asks = absurd one
only_asked verbs.Flow given rest (Analyze found) other one asks = absurd one
only_asked verbs.Flow given rest (Flow found) other one asks = only_flow given rest found one.1 other asks
only_asked verbs.Flow given rest (Replay found) other one asks = absurd one
only_asked verbs.Flow given rest (Generate found) other one asks = absurd one
only_asked verbs.Replay given rest (Analyze found) other one asks = absurd one
only_asked verbs.Replay given rest (Flow found) other one asks = absurd one
only_asked verbs.Replay given rest (Replay found) other one asks = only_replay given rest found one other asks
only_asked verbs.Replay given rest (Generate found) other one asks = absurd one
only_asked verbs.Generate given rest (Analyze found) other one asks = absurd one
only_asked verbs.Generate given rest (Flow found) other one asks = absurd one
only_asked verbs.Generate given rest (Replay found) other one asks = absurd one
only_asked verbs.Generate given rest (Generate found) other one asks = only_generation given rest found one other asks

pub one_command : (words : List (List ℕ)) (one other : Command) → WordsMean words one → WordsMean words other → other ≡ one
one_command words one other m n =
    let cut = cut_off m.given m.others m.following m.settings in
    let whole : words ≡ (verb_text m.verb ∷ cut.0) ++ m.others = m.first ∙ ap (λ (w : List (List ℕ)). verb_text m.verb ∷ w) cut.1 in
    let on = goes_on m.verb m.given cut.0 m.others other cut.2 (subst (λ (w : List (List ℕ)). WordsMean w other) whole n) in
    only_asked m.verb m.given m.others one other m.asks (asks_here m.verb m.given m.others other (asks_no_option m.verb m.given m.others one m.asks) on)
