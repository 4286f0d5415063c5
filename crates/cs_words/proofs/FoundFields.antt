-- The fields of the options found, and their values according to the given texts: for `Settings` and all that reads them.
use Rattle.std.proofs.Common.{◌≡◌, ℕ, true, false, List, Option, Some, None, ap, sym, ◌∙◌, refl, subst}
use Rattle.std.specs.Prelude.{is_some, unwrap_or, nat_eq, codes, if◌then◌else◌}
use Rattle.std.specs.Cmp.Lexicographic.{pointwise}
use Rattle.std.specs.Borrow.{Bor}
use Rattle.std.specs.Prelude.{Bool, IsTrue, option_map}
use Rattle.cs_inputs.specs.PathText.{is_name}
use Rattle.cs_model.specs.declared.kind.Kind.{Kind}
use Rattle.cs_results.specs.declared.budgets.Budgets.{Budgets}
use Rattle.cs_results.specs.Selected.{every_kind}
use Rattle.cs_events.specs.declared.outcome.RunBudgets.{RunBudgets}
use Rattle.cs_types.specs.declared.data_model.DataModel.TheVariants.{Lp64, Ilp32}
use Rattle.cs_words.specs.declared.option_name.OptionName.TheVariants.{Visits, Depth, Events, Nodes, Splits, Kinds, Entry, Format, Model}
use Rattle.cs_words.specs.Options.{OptionName}
use Rattle.cs_words.specs.Values.{DataModel, IsNumberIn, IsVisits, IsDepth, IsEvents, IsNodes, IsSplits, IsKinds, IsFormat, IsModel, format_text}
use Rattle.cs_words.specs.Values.{model_text}
use Rattle.cs_words.specs.Settings.{Given, text_of, IsGivenOr, AreBudgets, AreAnalysisBudgets, AreSelectedKinds, IsNamed, IsEntry, IsJson, IsDataModel}
use Rattle.cs_words.specs.Scan.{Settings, IsFound, IsKept, IsSetTo, is_set, HasValue, AreKindsOf, are_kinds, kind_of}
use Rattle.cs_words.proofs.KindTexts.{some_kinds, are_kinds_of, kinds_named, one_list, only_list}

-- ---- one field
unset : {X : Type 0} (Yields : List ℕ → X → Type 0) (reported : Option (List ℕ)) (found : Option X) → IsFound Yields reported found
    → is_some found ≡ false → reported ≡ None
unset Yields None found h e = refl
unset Yields (Some text) found h e = absurd (let k : is_some found ≡ true = ap is_some h.1 in cc)

-- a text that is given has a value
abbrev pub IsReportedBy : {X : Type 0} → (List ℕ → X → Type 0) → Option (List ℕ) → Type 0
IsReportedBy Yields None = Unit {0}
IsReportedBy {X} Yields (Some text) = (value : X) × Yields text value

reported_by : {X : Type 0} (Yields : List ℕ → X → Type 0) (reported : Option (List ℕ)) (found : Option X) → IsFound Yields reported found
    → IsReportedBy Yields reported
reported_by Yields None found h = tt
reported_by Yields (Some text) found h = (h.0, h.2)

given_or : {X : Type 0} (Yields : List ℕ → X → Type 0) (default : X) (reported : Option (List ℕ)) → IsReportedBy Yields reported
    → (value : X) × IsGivenOr Yields default reported value
given_or Yields default None h = (default, refl)
given_or Yields default (Some text) h = h

pub unwrapped : {X : Type 0} (Yields : List ℕ → X → Type 0) (default : X) (reported : Option (List ℕ)) (found : Option X) (value : X)
    → IsFound Yields reported found → value ≡ unwrap_or found default → IsGivenOr Yields default reported value
unwrapped Yields default None found value h e = e ∙ ap (λ o. unwrap_or o default) h
unwrapped Yields default (Some text) found value h e = subst (λ v. Yields text v) (sym (e ∙ ap (λ o. unwrap_or o default) h.1)) h.2

reported_value : {X : Type 0} (Yields : List ℕ → X → Type 0) (default : X) (reported : Option (List ℕ)) (value : X) (text : List ℕ)
    → IsGivenOr Yields default reported value → reported ≡ Some text → (v : X) × Yields text v
reported_value Yields default None value text h e = absurd (cc)
reported_value Yields default (Some other) value text h e = (value, subst (λ (t : List ℕ). Yields t value) (let s : other ≡ text = cc in s) h)

one_value : {X : Type 0} (Yields : List ℕ → X → Type 0)
    → ((text : List ℕ) (one other : X) → Yields text one → Yields text other → one ≡ other)
    → (default : X) (reported : Option (List ℕ)) (one other : X) → IsGivenOr Yields default reported one → IsGivenOr Yields default reported other
    → one ≡ other
one_value Yields one_reported default None one other h k = h ∙ sym k
one_value Yields one_reported default (Some text) one other h k = one_reported text one other h k

-- ---- the fields of all options
pub not_set : (setting : OptionName) (reported : Option (List ℕ)) (settings : Settings) → IsSetTo setting reported settings
    → is_set setting settings ≡ false → reported ≡ None
not_set Visits reported settings h e = unset IsVisits reported settings.visits h e
not_set Depth reported settings h e = unset IsDepth reported settings.depth h e
not_set Events reported settings h e = unset IsEvents reported settings.events h e
not_set Nodes reported settings h e = unset IsNodes reported settings.nodes h e
not_set Splits reported settings h e = unset IsSplits reported settings.splits h e
not_set Kinds reported settings h e = unset (IsKept are_kinds) reported settings.kinds h e
not_set Entry reported settings h e = unset (IsKept is_name) reported settings.entry h e
not_set Format reported settings h e = unset IsFormat reported settings.json h e
not_set Model reported settings h e = unset IsModel reported settings.model h e

pub none_is_unset : (setting : OptionName) (settings : Settings) → IsSetTo setting None settings → is_set setting settings ≡ false
none_is_unset Visits settings h = ap is_some h
none_is_unset Depth settings h = ap is_some h
none_is_unset Events settings h = ap is_some h
none_is_unset Nodes settings h = ap is_some h
none_is_unset Splits settings h = ap is_some h
none_is_unset Kinds settings h = ap is_some h
none_is_unset Entry settings h = ap is_some h
none_is_unset Format settings h = ap is_some h
none_is_unset Model settings h = ap is_some h

-- a text that is given passes this test
abbrev pub PassesIfGiven : (List ℕ → Bool) → Option (List ℕ) → Type 0
PassesIfGiven test None = Unit {0}
PassesIfGiven test (Some text) = IsTrue (test text)

passes : (test : List ℕ → Bool) (reported : Option (List ℕ)) (found : Option (Bor (List ℕ))) → IsFound (IsKept test) reported found
    → PassesIfGiven test reported
passes test None found h = tt
passes test (Some text) found h = h.2.1

-- a text that is given is a value of its option
abbrev pub IsReported : OptionName → Option (List ℕ) → Type 0
IsReported Visits reported = IsReportedBy IsVisits reported
IsReported Depth reported = IsReportedBy IsDepth reported
IsReported Events reported = IsReportedBy IsEvents reported
IsReported Nodes reported = IsReportedBy IsNodes reported
IsReported Splits reported = IsReportedBy IsSplits reported
IsReported Kinds reported = PassesIfGiven are_kinds reported
IsReported Entry reported = PassesIfGiven is_name reported
IsReported Format reported = IsReportedBy IsFormat reported
IsReported Model reported = IsReportedBy IsModel reported

pub reported_from : (setting : OptionName) (reported : Option (List ℕ)) (settings : Settings) → IsSetTo setting reported settings
    → IsReported setting reported
reported_from Visits reported settings h = reported_by IsVisits reported settings.visits h
reported_from Depth reported settings h = reported_by IsDepth reported settings.depth h
reported_from Events reported settings h = reported_by IsEvents reported settings.events h
reported_from Nodes reported settings h = reported_by IsNodes reported settings.nodes h
reported_from Splits reported settings h = reported_by IsSplits reported settings.splits h
reported_from Kinds reported settings h = passes are_kinds reported settings.kinds h
reported_from Entry reported settings h = passes is_name reported settings.entry h
reported_from Format reported settings h = reported_by IsFormat reported settings.json h
reported_from Model reported settings h = reported_by IsModel reported settings.model h

pub reported_some : (setting : OptionName) (text : List ℕ) → HasValue setting text → IsReported setting (Some text)
reported_some Visits text h = h
reported_some Depth text h = h
reported_some Events text h = h
reported_some Nodes text h = h
reported_some Splits text h = h
reported_some Kinds text h = h
reported_some Entry text h = h
reported_some Format text h = h
reported_some Model text h = h

-- ---- the requested values
pub some_budgets : (given : List Given) → ((setting : OptionName) → IsReported setting (text_of setting given))
    → (budgets : RunBudgets) × AreBudgets given budgets
some_budgets given reported =
    let visits = given_or IsVisits 4 (text_of Visits given) (reported Visits) in
    let depth = given_or IsDepth 5 (text_of Depth given) (reported Depth) in
    let events = given_or IsEvents 20000 (text_of Events given) (reported Events) in
    (record { visits = visits.0; depth = depth.0; events = events.0 }, record { visits = visits.1; depth = depth.1; events = events.1 })

pub some_analysis_budgets : (given : List Given) → ((setting : OptionName) → IsReported setting (text_of setting given))
    → (budgets : Budgets) × AreAnalysisBudgets given budgets
some_analysis_budgets given reported =
    let visits = given_or IsVisits 4 (text_of Visits given) (reported Visits) in
    let depth = given_or IsDepth 5 (text_of Depth given) (reported Depth) in
    let events = given_or IsEvents 20000 (text_of Events given) (reported Events) in
    let nodes = given_or IsNodes 150000 (text_of Nodes given) (reported Nodes) in
    let splits = given_or IsSplits 64 (text_of Splits given) (reported Splits) in (
      record { visits = visits.0; depth = depth.0; events = events.0; nodes = nodes.0; splits = splits.0 },
      record { visits = visits.1; depth = depth.1; events = events.1; nodes = nodes.1; splits = splits.1 },
    )

kinds_given : (reported : Option (List ℕ)) → PassesIfGiven are_kinds reported → IsReportedBy IsKinds reported
kinds_given None h = tt
kinds_given (Some text) h = some_kinds text h

pub some_selected : (given : List Given) → ((setting : OptionName) → IsReported setting (text_of setting given))
    → (kinds : List Kind) × AreSelectedKinds given kinds
some_selected given reported = given_or IsKinds every_kind (text_of Kinds given) (kinds_given (text_of Kinds given) (reported Kinds))

entry_given : (reported : Option (List ℕ)) → PassesIfGiven is_name reported → (entry : Option (List ℕ)) × IsNamed reported entry
entry_given None h = (None, refl)
entry_given (Some text) h = (Some text, (h, refl))

pub some_entry : (given : List Given) → ((setting : OptionName) → IsReported setting (text_of setting given))
    → (entry : Option (List ℕ)) × IsEntry given entry
some_entry given reported = entry_given (text_of Entry given) (reported Entry)

pub some_json : (given : List Given) → ((setting : OptionName) → IsReported setting (text_of setting given)) → (json : Bool) × IsJson given json
some_json given reported = given_or IsFormat false (text_of Format given) (reported Format)

pub some_model : (given : List Given) → ((setting : OptionName) → IsReported setting (text_of setting given))
    → (model : DataModel) × IsDataModel given model
some_model given reported = given_or IsModel Lp64 (text_of Model given) (reported Model)

pub budgets_found : (given : List Given) (settings : Settings) (budgets : RunBudgets)
    → ((setting : OptionName) → IsSetTo setting (text_of setting given) settings) → budgets.visits ≡ unwrap_or settings.visits 4
    → budgets.depth ≡ unwrap_or settings.depth 5 → budgets.events ≡ unwrap_or settings.events 20000 → AreBudgets given budgets
budgets_found given settings budgets fields v d e = record {
  visits = unwrapped IsVisits 4 (text_of Visits given) settings.visits budgets.visits (fields Visits) v;
  depth = unwrapped IsDepth 5 (text_of Depth given) settings.depth budgets.depth (fields Depth) d;
  events = unwrapped IsEvents 20000 (text_of Events given) settings.events budgets.events (fields Events) e;
}

pub analysis_budgets_found : (given : List Given) (settings : Settings) (budgets : Budgets)
    → ((setting : OptionName) → IsSetTo setting (text_of setting given) settings) → budgets.visits ≡ unwrap_or settings.visits 4
    → budgets.depth ≡ unwrap_or settings.depth 5 → budgets.events ≡ unwrap_or settings.events 20000
    → budgets.nodes ≡ unwrap_or settings.nodes 150000 → budgets.splits ≡ unwrap_or settings.splits 64 → AreAnalysisBudgets given budgets
analysis_budgets_found given settings budgets fields v d e n s = record {
  visits = unwrapped IsVisits 4 (text_of Visits given) settings.visits budgets.visits (fields Visits) v;
  depth = unwrapped IsDepth 5 (text_of Depth given) settings.depth budgets.depth (fields Depth) d;
  events = unwrapped IsEvents 20000 (text_of Events given) settings.events budgets.events (fields Events) e;
  nodes = unwrapped IsNodes 150000 (text_of Nodes given) settings.nodes budgets.nodes (fields Nodes) n;
  splits = unwrapped IsSplits 64 (text_of Splits given) settings.splits budgets.splits (fields Splits) s;
}

kinds_from : (reported : Option (List ℕ)) (found : Option (Bor (List ℕ))) (kinds : List Kind) → IsFound (IsKept are_kinds) reported found
    → AreKindsOf found kinds → IsGivenOr IsKinds every_kind reported kinds
kinds_from None None kinds h is = is
kinds_from None (Some text) kinds h is = absurd (cc)
kinds_from (Some text) None kinds h is = absurd (let e = h.1 in cc)
kinds_from (Some text) (Some kept) kinds h is =
    let same : kept ≡ h.0 = let e = h.1 in cc in
    let texts : kept.now ≡ text = ap (λ (b : Bor (List ℕ)). b.now) same ∙ h.2.0 in
    kinds_named text kinds h.2.1 (subst (λ (t : List ℕ). kinds ≡ are_kinds_of t) texts is)

pub kinds_found : (given : List Given) (settings : Settings) (kinds : List Kind) → ((setting : OptionName) → IsSetTo setting (text_of setting given) settings)
    → AreKindsOf settings.kinds kinds → AreSelectedKinds given kinds
kinds_found given settings kinds fields is = kinds_from (text_of Kinds given) settings.kinds kinds (fields Kinds) is

entry_from : (reported : Option (List ℕ)) (found : Option (Bor (List ℕ))) (entry : Option (List ℕ)) → IsFound (IsKept is_name) reported found
    → entry ≡ option_map (λ (text : Bor (List ℕ)). text.now) found → IsNamed reported entry
entry_from None None entry h is = is
entry_from None (Some text) entry h is = absurd (cc)
entry_from (Some text) None entry h is = absurd (let e = h.1 in cc)
entry_from (Some text) (Some kept) entry h is =
    let same : kept ≡ h.0 = let e = h.1 in cc in
    let texts : kept.now ≡ text = ap (λ (b : Bor (List ℕ)). b.now) same ∙ h.2.0 in
    (h.2.1, is ∙ ap Some texts)

pub entry_found : (given : List Given) (settings : Settings) (entry : Option (List ℕ))
    → ((setting : OptionName) → IsSetTo setting (text_of setting given) settings)
    → entry ≡ option_map (λ (text : Bor (List ℕ)). text.now) settings.entry → IsEntry given entry
entry_found given settings entry fields is = entry_from (text_of Entry given) settings.entry entry (fields Entry) is

pub json_found : (given : List Given) (settings : Settings) (json : Bool) → ((setting : OptionName) → IsSetTo setting (text_of setting given) settings)
    → json ≡ unwrap_or settings.json false → IsJson given json
json_found given settings json fields e = unwrapped IsFormat false (text_of Format given) settings.json json (fields Format) e

pub model_found : (given : List Given) (settings : Settings) (model : DataModel) → ((setting : OptionName) → IsSetTo setting (text_of setting given) settings)
    → model ≡ unwrap_or settings.model Lp64 → IsDataModel given model
model_found given settings model fields e = unwrapped IsModel Lp64 (text_of Model given) settings.model model (fields Model) e

-- the value of a budget, from its text
pub visits_reported : (given : List Given) (budgets : RunBudgets) (text : List ℕ) → AreBudgets given budgets → text_of Visits given ≡ Some text
    → HasValue Visits text
visits_reported given budgets text h e = reported_value IsVisits 4 (text_of Visits given) budgets.visits text h.visits e

pub depth_reported : (given : List Given) (budgets : RunBudgets) (text : List ℕ) → AreBudgets given budgets → text_of Depth given ≡ Some text
    → HasValue Depth text
depth_reported given budgets text h e = reported_value IsDepth 5 (text_of Depth given) budgets.depth text h.depth e

pub events_reported : (given : List Given) (budgets : RunBudgets) (text : List ℕ) → AreBudgets given budgets → text_of Events given ≡ Some text
    → HasValue Events text
events_reported given budgets text h e = reported_value IsEvents 20000 (text_of Events given) budgets.events text h.events e

pub model_reported : (given : List Given) (model : DataModel) (text : List ℕ) → IsDataModel given model → text_of Model given ≡ Some text
    → HasValue Model text
model_reported given model text h e = reported_value IsModel Lp64 (text_of Model given) model text h e

-- an option whose value is a budget
abbrev pub IsNumberSetting : OptionName → Type 0
IsNumberSetting Visits = Unit {0}
IsNumberSetting Depth = Unit {0}
IsNumberSetting Events = Unit {0}
IsNumberSetting Nodes = Unit {0}
IsNumberSetting Splits = Unit {0}
IsNumberSetting Kinds = ⊥
IsNumberSetting Entry = ⊥
IsNumberSetting Format = ⊥
IsNumberSetting Model = ⊥

pub analysis_number_reported : (given : List Given) (budgets : Budgets) (setting : OptionName) (text : List ℕ) → AreAnalysisBudgets given budgets
    → IsNumberSetting setting → text_of setting given ≡ Some text → HasValue setting text
analysis_number_reported given budgets Visits text h is e = reported_value IsVisits 4 (text_of Visits given) budgets.visits text h.visits e
analysis_number_reported given budgets Depth text h is e = reported_value IsDepth 5 (text_of Depth given) budgets.depth text h.depth e
analysis_number_reported given budgets Events text h is e = reported_value IsEvents 20000 (text_of Events given) budgets.events text h.events e
analysis_number_reported given budgets Nodes text h is e = reported_value IsNodes 150000 (text_of Nodes given) budgets.nodes text h.nodes e
analysis_number_reported given budgets Splits text h is e = reported_value IsSplits 64 (text_of Splits given) budgets.splits text h.splits e
analysis_number_reported given budgets Kinds text h is e = absurd is
analysis_number_reported given budgets Entry text h is e = absurd is
analysis_number_reported given budgets Format text h is e = absurd is
analysis_number_reported given budgets Model text h is e = absurd is

kinds_value : (reported : Option (List ℕ)) (kinds : List Kind) (text : List ℕ) → IsGivenOr IsKinds every_kind reported kinds → reported ≡ Some text
    → IsTrue (are_kinds text)
kinds_value reported kinds text h e =
    let value = reported_value IsKinds every_kind reported kinds text h e in
    one_list text value.0 value.1

pub kinds_reported : (given : List Given) (kinds : List Kind) (text : List ℕ) → AreSelectedKinds given kinds → text_of Kinds given ≡ Some text
    → HasValue Kinds text
kinds_reported given kinds text h e = kinds_value (text_of Kinds given) kinds text h e

entry_value : (reported entry : Option (List ℕ)) (text : List ℕ) → IsNamed reported entry → reported ≡ Some text → IsTrue (is_name text)
entry_value None entry text h e = absurd (cc)
entry_value (Some other) entry text h e = subst (λ (t : List ℕ). IsTrue (is_name t)) (let s : other ≡ text = cc in s) h.0

pub entry_reported : (given : List Given) (entry : Option (List ℕ)) (text : List ℕ) → IsEntry given entry → text_of Entry given ≡ Some text
    → HasValue Entry text
entry_reported given entry text h e = entry_value (text_of Entry given) entry text h e

pub json_reported : (given : List Given) (json : Bool) (text : List ℕ) → IsJson given json → text_of Format given ≡ Some text → HasValue Format text
json_reported given json text h e = reported_value IsFormat false (text_of Format given) json text h e

-- ---- there are no others
one_number : (least greatest : ℕ) (text : List ℕ) (one other : ℕ) → IsNumberIn least greatest text one → IsNumberIn least greatest text other
    → one ≡ other
one_number least greatest text one other h k = h.value ∙ sym k.value

model_of : List ℕ → DataModel
model_of text = if pointwise nat_eq text (codes "lp64") then Lp64 else Ilp32

model_back : (model : DataModel) → model_of (model_text model) ≡ model
unfolding model_of
model_back Lp64 = refl
model_back Ilp32 = refl

pub same_budgets : (given : List Given) (one other : RunBudgets) → AreBudgets given one → AreBudgets given other → one ≡ other
same_budgets given one other h k =
    let visits = one_value IsVisits (one_number 1 1000) 4 (text_of Visits given) one.visits other.visits h.visits k.visits in
    let depth = one_value IsDepth (one_number 1 64) 5 (text_of Depth given) one.depth other.depth h.depth k.depth in
    let events = one_value IsEvents (one_number 1 1000000) 20000 (text_of Events given) one.events other.events h.events k.events in
    λ i. record { visits = visits i; depth = depth i; events = events i }

pub same_model : (given : List Given) (one other : DataModel) → IsDataModel given one → IsDataModel given other → one ≡ other
same_model given one other h k =
    one_value IsModel (λ text m n f g. sym (model_back m) ∙ ap model_of (f ∙ sym g) ∙ model_back n) Lp64 (text_of Model given) one other h k

pub same_analysis_budgets : (given : List Given) (one other : Budgets) → AreAnalysisBudgets given one → AreAnalysisBudgets given other → one ≡ other
same_analysis_budgets given one other h k =
    let visits = one_value IsVisits (one_number 1 1000) 4 (text_of Visits given) one.visits other.visits h.visits k.visits in
    let depth = one_value IsDepth (one_number 1 64) 5 (text_of Depth given) one.depth other.depth h.depth k.depth in
    let events = one_value IsEvents (one_number 1 1000000) 20000 (text_of Events given) one.events other.events h.events k.events in
    let nodes = one_value IsNodes (one_number 1 200000) 150000 (text_of Nodes given) one.nodes other.nodes h.nodes k.nodes in
    let splits = one_value IsSplits (one_number 1 4096) 64 (text_of Splits given) one.splits other.splits h.splits k.splits in
    λ i. record { visits = visits i; depth = depth i; events = events i; nodes = nodes i; splits = splits i }

pub same_kinds : (given : List Given) (one other : List Kind) → AreSelectedKinds given one → AreSelectedKinds given other → one ≡ other
same_kinds given one other h k =
    one_value IsKinds (λ text m n f g. only_list text m n f g) every_kind (text_of Kinds given) one other h k

same_named : (reported one other : Option (List ℕ)) → IsNamed reported one → IsNamed reported other → one ≡ other
same_named None one other h k = h ∙ sym k
same_named (Some text) one other h k = h.1 ∙ sym k.1

pub same_entry : (given : List Given) (one other : Option (List ℕ)) → IsEntry given one → IsEntry given other → one ≡ other
same_entry given one other h k = same_named (text_of Entry given) one other h k

json_of : List ℕ → Bool
json_of text = pointwise nat_eq text (codes "json")

json_back : (json : Bool) → json_of (format_text json) ≡ json
unfolding json_of
json_back true = refl
json_back false = refl

pub same_json : (given : List Given) (one other : Bool) → IsJson given one → IsJson given other → one ≡ other
same_json given one other h k =
    one_value IsFormat (λ text m n f g. sym (json_back m) ∙ ap json_of (f ∙ sym g) ∙ json_back n) false (text_of Format given) one other h k
