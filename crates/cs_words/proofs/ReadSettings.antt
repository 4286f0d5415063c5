-- After a command's word and some settings are read: which words can be continued to a command, and how the settings grow. For
-- `settings_of`, `with_option` and what reads the rest.
use Rattle.std.proofs.Common.{◌≡◌, ℕ, Bool, true, false, List, [], ◌∷◌, ◌++◌, Option, Some, None, ap, sym, ◌∙◌, refl, subst}
use Rattle.std.proofs.Common.{append_assoc, inl, inr, ◌≤◌, lit<, lit≤}
use Rattle.std.specs.Prelude.{◌⊎◌, codes}
use Rattle.std.proofs.lemmas.List.{append-nil}
use Rattle.cs_words.specs.declared.command.Command.TheVariants.{Analyze, Flow, Replay, Generate}
use Rattle.cs_words.specs.declared.option_name.OptionName.TheVariants.{Visits, Depth, Events, Nodes, Splits, Kinds, Entry, Format, Model}
use Rattle.cs_words.specs.declared.verb.Verb.TheVariants as verbs
use Rattle.cs_words.specs.Options.{Verb, OptionName, verb_text, takes}
use Rattle.cs_words.specs.Values.{IsNumberIn}
use Rattle.cs_words.specs.Settings.{Given, option_text, BeginWithSetting, BeginWithSettings, is_same, text_of, AreTaken, AreDifferent}
use Rattle.cs_words.specs.Meaning.{Command, AskFor, WordsMean, BeginsACommand}
use Rattle.cs_words.specs.Scan.{Settings, IsSetTo, is_set, HasValue, IsSetBesides, AreReadTo, BeginWithNoOption}
use Rattle.cs_words.proofs.OptionTexts.{same_verb, same_option, same_place}
use Rattle.cs_words.proofs.GivenTexts.{text_here, not_given, different_more, taken_more, taken_here, text_more}
use Rattle.cs_words.proofs.SettingWords.{heads, joined, followed, asks_no_option, after_read, none_left}
use Rattle.cs_words.proofs.FoundFields.{IsReported, not_set, reported_from, reported_some, some_budgets, some_analysis_budgets, some_selected, some_entry}
use Rattle.cs_words.proofs.FoundFields.{some_json, some_model, visits_reported, depth_reported, events_reported, analysis_number_reported, kinds_reported}
use Rattle.cs_words.proofs.FoundFields.{entry_reported, json_reported, model_reported}

-- ---- words that continue
-- words after the settings that were read continue to a command
pub record GoOn (verb : Verb) (given : List Given) (words : List (List ℕ)) (command : Command) : Type 0 where
  pub later : List Given
  pub others : List (List ℕ)
  pub settings : BeginWithSettings later others words
  pub taken : AreTaken verb (given ++ later)
  pub different : AreDifferent (given ++ later)
  pub asks : AskFor verb (given ++ later) others command

pub goes_on : (verb : Verb) (given : List Given) (done words : List (List ℕ)) (command : Command) → BeginWithSettings given [] done
    → WordsMean ((verb_text verb ∷ done) ++ words) command → GoOn verb given words command
goes_on verb given done words command spelled m =
    let first = heads (verb_text verb) (verb_text m.verb) (done ++ words) m.following m.first in
    let verbs : m.verb ≡ verb = sym (same_verb verb m.verb first.0) in
    let read = after_read given m.given done m.others words (asks_no_option m.verb m.given m.others command m.asks) spelled
    (subst (λ (w : List (List ℕ)). BeginWithSettings m.given m.others w) (sym first.1) m.settings) in
    record {
      later = read.0;
      others = m.others;
      settings = read.2;
      taken = subst (λ (v : Verb). AreTaken v (given ++ read.0)) verbs (subst (λ (g : List Given). AreTaken m.verb g) read.1 m.taken);
      different = subst (λ (g : List Given). AreDifferent g) read.1 m.different;
      asks = subst (λ (v : Verb). AskFor v (given ++ read.0) m.others command) verbs
          (subst (λ (g : List Given). AskFor m.verb g m.others command) read.1 m.asks);
    }

-- if the first word isn't an option's, the command's arguments begin there
pub asks_here : (verb : Verb) (given : List Given) (words : List (List ℕ)) (command : Command) → BeginWithNoOption words → GoOn verb given words command
    → AskFor verb given words command
asks_here verb given words command absent on =
    let none = none_left on.later on.others words absent on.settings in
    let whole : given ++ on.later ≡ given = ap (λ (g : List Given). given ++ g) none.0 ∙ append-nil given in
    subst (λ (w : List (List ℕ)). AskFor verb given w command) (sym none.1) (subst (λ (g : List Given). AskFor verb g on.others command) whole on.asks)

-- ---- settings that were read
pub record AreSpelled (verb : Verb) (given : List Given) (done : List (List ℕ)) : Type 0 where
  pub words : BeginWithSettings given [] done
  pub taken : AreTaken verb given
  pub different : AreDifferent given
  pub reported : (setting : OptionName) → IsReported setting (text_of setting given)

pub means_with : (verb : Verb) (given : List Given) (done others : List (List ℕ)) (command : Command) → BeginWithSettings given [] done
    → AreTaken verb given → AreDifferent given → AskFor verb given others command → WordsMean ((verb_text verb ∷ done) ++ others) command
means_with verb given done others command words taken different asks = record {
  verb = verb;
  given = given;
  others = others;
  following = done ++ others;
  first = refl;
  settings = followed given done others words;
  taken = taken;
  different = different;
  asks = asks;
}

nothing : (greatest : ℕ) → 0 ≤ greatest → IsNumberIn 0 greatest (codes "0") 0
nothing greatest h = record { digits = refl; some = lit< tt; few = lit≤ tt; value = refl; from_least = lit≤ tt; to_greatest = h }

-- they can be continued to a command
completed : (verb : Verb) (given : List Given) → ((setting : OptionName) → IsReported setting (text_of setting given))
    → (others : List (List ℕ)) × (command : Command) × AskFor verb given others command
completed verbs.Analyze given reported =
    let budgets = some_analysis_budgets given reported in
    let kinds = some_selected given reported in
    let entry = some_entry given reported in
    let json = some_json given reported in
    let model = some_model given reported in (
      [],
      Analyze (record { budgets = budgets.0; kinds = kinds.0; entry = entry.0; json = json.0; model = model.0 }),
      record { budgets = budgets.1; kinds = kinds.1; entry = entry.1; json = json.1; model = model.1; no_more = refl },
    )
completed verbs.Generate given reported = (
  codes "0" ∷ codes "0" ∷ [],
  Generate (record { seed = 0; size = 0 }),
  record { seed = codes "0"; size = codes "0"; whole = refl; is_seed = nothing 999999999 (lit≤ tt); is_size = nothing 4000 (lit≤ tt) },
)
completed verbs.Flow given reported =
    let model = some_model given reported in
    ([], Flow (record { model = model.0 }), (refl, model.1))
completed verbs.Replay given reported =
    let model = some_model given reported in
    let budgets = some_budgets given reported in (
      codes "f" ∷ [],
      Replay (record { budgets = budgets.0; entry = codes "f"; inputs = []; model = model.0 }),
      record { budgets = budgets.1; model = model.1; name = refl; input_words = []; whole = refl; inputs = refl },
    )

pub begins : (verb : Verb) (given : List Given) (done : List (List ℕ)) → AreSpelled verb given done → BeginsACommand (verb_text verb ∷ done)
begins verb given done s =
    let end = completed verb given s.reported in
    (end.0, end.1, means_with verb given done end.0 end.1 s.words s.taken s.different end.2)

reported_more : (g : Given) (given : List Given) → text_of g.setting given ≡ None → HasValue g.setting g.text
    → ((setting : OptionName) → IsReported setting (text_of setting given)) → (setting : OptionName) (same : Bool) → is_same setting g.setting ≡ same
    → IsReported setting (text_of setting (given ++ g ∷ []))
reported_more g given none value reported setting true is =
    subst (λ (s : OptionName). IsReported s (text_of s (given ++ g ∷ []))) (sym (same_place setting g.setting is))
    (subst (λ (t : Option (List ℕ)). IsReported g.setting t) (sym (text_here g given [] none)) (reported_some g.setting g.text value))
reported_more g given none value reported setting false is =
    subst (λ (t : Option (List ℕ)). IsReported setting t) (sym (text_more setting g given is)) (reported setting)

pub spelled_more : (verb : Verb) (g : Given) (given : List Given) (done words : List (List ℕ)) → AreSpelled verb given done
    → takes verb g.setting ≡ true → text_of g.setting given ≡ None → HasValue g.setting g.text → BeginWithSetting g [] words
    → AreSpelled verb (given ++ g ∷ []) (done ++ words)
spelled_more verb g given done words s taken none value begins = record {
  words = joined given (g ∷ []) done [] words s.words ([], begins, refl);
  taken = taken_more verb g given s.taken taken;
  different = different_more g given s.different none;
  reported = λ setting. reported_more g given none value s.reported setting (is_same setting g.setting) refl;
}

-- ---- the same for the result of the scan
pub spelled_by : (verb : Verb) (words : List (List ℕ)) (settings : Settings) (rest : List (List ℕ)) → (read : AreReadTo verb words settings rest)
    → AreSpelled verb read.given read.done
spelled_by verb words settings rest read = record {
  words = read.spelled;
  taken = read.taken;
  different = read.different;
  reported = λ setting. reported_from setting (text_of setting read.given) settings (read.fields setting);
}

fields_more : (g : Given) (given : List Given) (before after : Settings) → text_of g.setting given ≡ None → IsSetBesides g.setting g.text before after
    → ((setting : OptionName) → IsSetTo setting (text_of setting given) before) → (setting : OptionName) (same : Bool) → is_same setting g.setting ≡ same
    → IsSetTo setting (text_of setting (given ++ g ∷ [])) after
fields_more g given before after none set fields setting true is =
    subst (λ (s : OptionName). IsSetTo s (text_of s (given ++ g ∷ [])) after) (sym (same_place setting g.setting is))
    (subst (λ (t : Option (List ℕ)). IsSetTo g.setting t after) (sym (text_here g given [] none)) set.here)
fields_more g given before after none set fields setting false is =
    subst (λ (t : Option (List ℕ)). IsSetTo setting t after) (sym (text_more setting g given is))
    (set.elsewhere setting is (text_of setting given) (fields setting))

pub read_more : (verb : Verb) (g : Given) (words : List (List ℕ)) (before after : Settings) (rest own left : List (List ℕ))
    → AreReadTo verb words before rest → rest ≡ own ++ left → BeginWithSetting g [] own → takes verb g.setting ≡ true
    → is_set g.setting before ≡ false → IsSetBesides g.setting g.text before after → AreReadTo verb words after left
read_more verb g words before after rest own left read whole begins taken unset set =
    let none : text_of g.setting read.given ≡ None = not_set g.setting (text_of g.setting read.given) before (read.fields g.setting) unset in
    record {
      given = read.given ++ g ∷ [];
      done = read.done ++ own;
      whole = read.whole ∙ ap (λ (w : List (List ℕ)). (verb_text verb ∷ read.done) ++ w) whole
          ∙ sym (append_assoc (verb_text verb ∷ read.done) own left);
      spelled = joined read.given (g ∷ []) read.done [] own read.spelled ([], begins, refl);
      taken = taken_more verb g read.given read.taken taken;
      different = different_more g read.given read.different none;
      fields = λ setting. fields_more g read.given before after none set read.fields setting (is_same setting g.setting) refl;
    }

-- ---- an option's word that can be continued
asked_value : (verb : Verb) (setting : OptionName) (given : List Given) (others : List (List ℕ)) (command : Command) (text : List ℕ)
    → AskFor verb given others command → takes verb setting ≡ true → text_of setting given ≡ Some text → HasValue setting text
asked_value verbs.Analyze Visits given others (Analyze words) text asks taken e = analysis_number_reported given words.budgets Visits text asks.budgets tt e
asked_value verbs.Analyze Depth given others (Analyze words) text asks taken e = analysis_number_reported given words.budgets Depth text asks.budgets tt e
asked_value verbs.Analyze Events given others (Analyze words) text asks taken e = analysis_number_reported given words.budgets Events text asks.budgets tt e
asked_value verbs.Analyze Nodes given others (Analyze words) text asks taken e = analysis_number_reported given words.budgets Nodes text asks.budgets tt e
asked_value verbs.Analyze Splits given others (Analyze words) text asks taken e = analysis_number_reported given words.budgets Splits text asks.budgets tt e
asked_value verbs.Analyze Kinds given others (Analyze words) text asks taken e = kinds_reported given words.kinds text asks.kinds e
asked_value verbs.Analyze Entry given others (Analyze words) text asks taken e = entry_reported given words.entry text asks.entry e
asked_value verbs.Analyze Format given others (Analyze words) text asks taken e = json_reported given words.json text asks.json e
asked_value verbs.Analyze Model given others (Analyze words) text asks taken e = model_reported given words.model text asks.model e
asked_value verbs.Analyze setting given others (Flow words) text asks taken e = absurd asks
asked_value verbs.Analyze setting given others (Replay words) text asks taken e = absurd asks
asked_value verbs.Analyze setting given others (Generate words) text asks taken e = absurd asks
asked_value verbs.Flow Model given others (Flow words) text asks taken e = model_reported given words.model text asks.1 e
asked_value verbs.Flow Model given others (Analyze words) text asks taken e = absurd asks
asked_value verbs.Flow Model given others (Replay words) text asks taken e = absurd asks
asked_value verbs.Flow Model given others (Generate words) text asks taken e = absurd asks
asked_value verbs.Flow setting given others command text asks taken e = absurd (cc)
asked_value verbs.Replay Visits given others (Replay words) text asks taken e = visits_reported given words.budgets text asks.budgets e
asked_value verbs.Replay Depth given others (Replay words) text asks taken e = depth_reported given words.budgets text asks.budgets e
asked_value verbs.Replay Events given others (Replay words) text asks taken e = events_reported given words.budgets text asks.budgets e
asked_value verbs.Replay Model given others (Replay words) text asks taken e = model_reported given words.model text asks.model e
asked_value verbs.Replay setting given others (Replay words) text asks taken e = absurd (cc)
asked_value verbs.Replay setting given others (Analyze words) text asks taken e = absurd asks
asked_value verbs.Replay setting given others (Flow words) text asks taken e = absurd asks
asked_value verbs.Replay setting given others (Generate words) text asks taken e = absurd asks
asked_value verbs.Generate setting given others command text asks taken e = absurd (cc)

-- what holds for an option whose word can be continued to a command
pub record IsGoodOption (verb : Verb) (given : List Given) (setting : OptionName) (reported : Option (List ℕ)) (following : List (List ℕ)) : Type 0 where
  pub text : List ℕ
  pub taken : takes verb setting ≡ true
  pub new : text_of setting given ≡ None
  pub value : HasValue setting text
  pub place : (reported ≡ Some text) ⊎ ((reported ≡ None) × (rest : List (List ℕ)) × (following ≡ text ∷ rest))

good_here : (verb : Verb) (given later : List Given) (g : Given) (others : List (List ℕ)) (command : Command) (setting : OptionName)
    (reported : Option (List ℕ)) (following : List (List ℕ)) → setting ≡ g.setting
    → ((reported ≡ Some g.text) ⊎ ((reported ≡ None) × (rest : List (List ℕ)) × (following ≡ g.text ∷ rest)))
    → AreTaken verb (given ++ g ∷ later) → AreDifferent (given ++ g ∷ later) → AskFor verb (given ++ g ∷ later) others command
    → IsGoodOption verb given setting reported following
good_here verb given later g others command setting reported following same place taken different asks =
    let takes_it : takes verb g.setting ≡ true = taken_here verb g given later taken in
    let new : text_of g.setting given ≡ None = not_given g given later different in
    let value : HasValue g.setting g.text =
    asked_value verb g.setting (given ++ g ∷ later) others command g.text asks takes_it (text_here g given later new) in
    subst (λ (s : OptionName). IsGoodOption verb given s reported following) (sym same)
    (record { text = g.text; taken = takes_it; new = new; value = value; place = place })

begin_alone : (setting : OptionName) (reported : Option (List ℕ)) (word : List ℕ) (following others : List (List ℕ))
    → word ≡ option_text setting reported → word ∷ following ≡ others → BeginWithNoOption others → ⊥
begin_alone setting reported word following [] is e absent = absurd (cc)
begin_alone setting reported word following (w ∷ ws) is e absent = absent setting reported (sym (heads word w following ws e).0 ∙ is)

named : (verb : Verb) (given later : List Given) (others following : List (List ℕ)) (command : Command) (setting : OptionName) (reported : Option (List ℕ))
    (word : List ℕ) → word ≡ option_text setting reported → BeginWithNoOption others → BeginWithSettings later others (word ∷ following)
    → AreTaken verb (given ++ later) → AreDifferent (given ++ later) → AskFor verb (given ++ later) others command
    → IsGoodOption verb given setting reported following
named verb given [] others following command setting reported word is absent begins taken different asks =
    absurd (begin_alone setting reported word following others is begins absent)
named verb given (g ∷ gs) others following command setting reported word is absent begins taken different asks = at begins.1
  where
    at : BeginWithSetting g begins.0 (word ∷ following) → IsGoodOption verb given setting reported following
    at (inl e) =
        let first = heads word (option_text g.setting None) following (g.text ∷ begins.0) e in
        let same = same_option setting g.setting reported None (sym is ∙ first.0) in
        good_here verb given gs g others command setting reported following same.0 (inr (same.1, begins.0, first.1)) taken different asks
    at (inr e) =
        let first = heads word (option_text g.setting (Some g.text)) following begins.0 e in
        let same = same_option setting g.setting reported (Some g.text) (sym is ∙ first.0) in
        good_here verb given gs g others command setting reported following same.0 (inl same.1) taken different asks

pub good_option : (verb : Verb) (given : List Given) (following : List (List ℕ)) (command : Command) (setting : OptionName) (reported : Option (List ℕ))
    (word : List ℕ) → word ≡ option_text setting reported → GoOn verb given (word ∷ following) command
    → IsGoodOption verb given setting reported following
good_option verb given following command setting reported word is on =
    named verb given on.later on.others following command setting reported word is (asks_no_option verb (given ++ on.later) on.others command on.asks)
    on.settings on.taken on.different on.asks
