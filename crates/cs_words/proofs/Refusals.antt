-- Which word is refused, and that there is one such word if no command is meant: for `words_of` and all that refuses.
use Rattle.std.proofs.Common.{◌≡◌, ℕ, ◌+◌, true, false, List, [], ◌∷◌, ◌++◌, length, Option, Some, None, ap, sym, ◌∙◌, refl, subst}
use Rattle.std.proofs.Common.{append_assoc, inl, inr, arith, length-append, lit<, lit≤}
use Rattle.std.specs.Prelude.{◌⊎◌, codes}
use Rattle.std.proofs.lemmas.List.{append-nil}
use Rattle.cs_types.specs.declared.data_model.DataModel.TheVariants.{Lp64}
use Rattle.cs_words.specs.declared.option_word.OptionWord.{OptionWord}
use Rattle.cs_words.specs.declared.option_name.OptionName.TheVariants.{Visits, Depth, Events, Nodes, Splits, Kinds, Entry, Format, Model}
use Rattle.cs_words.specs.Options.{Verb, OptionName, verb_text, takes}
use Rattle.cs_words.specs.Settings.{Given, option_text, BeginWithSettings, text_of}
use Rattle.cs_words.specs.Meaning.{Command, AskFor, WordsMean, BeginsACommand, EndBefore, AreRefusedAt}
use Rattle.cs_words.specs.Scan.{Settings, IsSetTo, is_set, HasValue, IsSetBesides, AreReadTo, AreReadWhole, BeginWithNoOption, IsFirstOption, setting_in}
use Rattle.cs_words.specs.Scan.{text_in}
use Rattle.cs_words.proofs.FoundFields.{none_is_unset, not_set}
use Rattle.cs_words.proofs.ReadSettings.{GoOn, goes_on, asks_here, AreSpelled, means_with, begins, spelled_by, spelled_more, read_more, IsGoodOption}
use Rattle.cs_words.proofs.ReadSettings.{good_option}

-- ---- words and the first of them
pub shorter : (words more : List (List ℕ)) → BeginsACommand (words ++ more) → BeginsACommand words
shorter words more h = (more ++ h.0, h.1, subst (λ (w : List (List ℕ)). WordsMean w h.1) (append_assoc words more h.0) h.2)

begins_itself : (words : List (List ℕ)) (command : Command) → WordsMean words command → BeginsACommand words
begins_itself words command m = ([], command, subst (λ (w : List (List ℕ)). WordsMean w command) (sym (append-nil words)) m)

-- a refused word doesn't continue the words before it to a command
ends_there : (before following : List (List ℕ)) → EndBefore before following → (word : List ℕ) (more : List (List ℕ)) → following ≡ word ∷ more
    → BeginsACommand (before ++ word ∷ []) → ⊥
ends_there before [] end word more e h = absurd (cc)
ends_there before (w ∷ ws) end word more e h = end (subst (λ (v : List ℕ). BeginsACommand (before ++ v ∷ [])) (let s : word ≡ w = cc in s) h)

none_meant : (before following : List (List ℕ)) → EndBefore before following → (command : Command) → WordsMean (before ++ following) command → ⊥
none_meant before [] end command m = end command (subst (λ (w : List (List ℕ)). WordsMean w command) (append-nil before) m)
none_meant before (w ∷ ws) end command m =
    end (ws, command, subst (λ (v : List (List ℕ)). WordsMean v command) (sym (append_assoc before (w ∷ []) ws)) m)

pub not_meant : (words : List (List ℕ)) (number : ℕ) → AreRefusedAt words number → (command : Command) → WordsMean words command → ⊥
not_meant words number r command m = none_meant r.before r.following r.end command (subst (λ (w : List (List ℕ)). WordsMean w command) r.whole m)

-- one of two beginnings of the same words continues the other
one_front : (a c b d : List (List ℕ)) → a ++ b ≡ c ++ d
    → (a ≡ c) ⊎ (((word : List ℕ) × (more : List (List ℕ)) × (others : List (List ℕ)) × (b ≡ word ∷ others) × (c ≡ a ++ word ∷ more))
    ⊎ ((word : List ℕ) × (more : List (List ℕ)) × (others : List (List ℕ)) × (d ≡ word ∷ others) × (a ≡ c ++ word ∷ more)))
one_front [] [] b d e = inl refl
one_front [] (y ∷ c) b d e = inr (inl (y, c, c ++ d, e, refl))
one_front (x ∷ a) [] b d e = inr (inr (x, a, a ++ b, sym e, refl))
one_front (x ∷ a) (y ∷ c) b d e =
    let first : x ≡ y = cc in
    let tails : a ++ b ≡ c ++ d = cc in
    elim (one_front a c b d tails) [
      | inl same ↦ inl (λ i. first i ∷ same i)
      | inr longer ↦ elim longer [
        | inl h ↦ inr (inl (h.0, h.1, h.2, h.3, λ i. sym first i ∷ h.4 i))
        | inr h ↦ inr (inr (h.0, h.1, h.2, h.3, λ i. first i ∷ h.4 i))
      ]
    ]

past_end : (before following more : List (List ℕ)) (word : List ℕ) (others front : List (List ℕ)) → EndBefore before following
    → following ≡ word ∷ others → front ≡ before ++ word ∷ more → BeginsACommand front → ⊥
past_end before following more word others front end e longer h =
    ends_there before following end word others e
    (shorter (before ++ word ∷ []) more (subst BeginsACommand (longer ∙ sym (append_assoc before (word ∷ []) more)) h))

-- only one word is refused
pub one_refusal : (words : List (List ℕ)) (m n : ℕ) → AreRefusedAt words m → AreRefusedAt words n → m ≡ n
one_refusal words m n r s =
    elim (one_front r.before s.before r.following s.following (sym r.whole ∙ s.whole)) [
      | inl same ↦ r.counts ∙ ap (λ (w : List (List ℕ)). length w + 1) same ∙ sym s.counts
      | inr longer ↦ elim longer [
        | inl h ↦ absurd (past_end r.before r.following h.1 h.0 h.2 s.before r.end h.3 h.4 s.begin)
        | inr h ↦ absurd (past_end s.before s.following h.1 h.0 h.2 r.before s.end h.3 h.4 r.begin)
      ]
    ]

-- ---- the refusal of a word, by the words that remain
pub refused_so : (words before following : List (List ℕ)) (number : ℕ) → words ≡ before ++ following → number + length following ≡ length words + 1
    → BeginsACommand before → EndBefore before following → AreRefusedAt words number
refused_so words before following number whole counts begin end = record {
  before = before;
  following = following;
  whole = whole;
  counts = omega (arith, ap length whole, length-append before following);
  begin = begin;
  end = end;
}

-- a word after the settings that were read is refused if it can't be continued
pub no_word : (verb : Verb) (given : List Given) (done : List (List ℕ)) (word : List ℕ) → BeginWithSettings given [] done
    → ((more : List (List ℕ)) (command : Command) → GoOn verb given (word ∷ more) command → ⊥)
    → BeginsACommand ((verb_text verb ∷ done) ++ word ∷ []) → ⊥
no_word verb given done word spelled none h =
    none h.0 h.1 (goes_on verb given done (word ∷ h.0) h.1 spelled
    (subst (λ (w : List (List ℕ)). WordsMean w h.1) (append_assoc (verb_text verb ∷ done) (word ∷ []) h.0) h.2))

pub refused_first : (verb : Verb) (words : List (List ℕ)) (settings : Settings) (rest : List (List ℕ)) (number : ℕ) (word : List ℕ)
    (following : List (List ℕ)) → (read : AreReadTo verb words settings rest) → rest ≡ word ∷ following → number + length rest ≡ length words + 1
    → ((more : List (List ℕ)) (command : Command) → GoOn verb read.given (word ∷ more) command → ⊥) → AreRefusedAt words number
refused_first verb words settings rest number word following read is counts none =
    refused_so words (verb_text verb ∷ read.done) (word ∷ following) number (read.whole
    ∙ ap (λ (w : List (List ℕ)). (verb_text verb ∷ read.done) ++ w) is) (ap (λ (w : List (List ℕ)). number + length w) (sym is) ∙ counts)
    (begins verb read.given read.done (spelled_by verb words settings rest read)) (no_word verb read.given read.done word read.spelled none)

-- the same if words are missing
pub refused_end : (verb : Verb) (words : List (List ℕ)) (settings : Settings) (rest : List (List ℕ)) (number : ℕ)
    → (read : AreReadTo verb words settings rest) → rest ≡ [] → number + length rest ≡ length words + 1
    → ((command : Command) → GoOn verb read.given [] command → ⊥) → AreRefusedAt words number
refused_end verb words settings rest number read is counts none =
    refused_so words (verb_text verb ∷ read.done) [] number (read.whole ∙ ap (λ (w : List (List ℕ)). (verb_text verb ∷ read.done) ++ w) is)
    (ap (λ (w : List (List ℕ)). number + length w) (sym is) ∙ counts) (begins verb read.given read.done (spelled_by verb words settings rest read))
    (λ command m.
    none command (goes_on verb read.given read.done [] command read.spelled
    (subst (λ (w : List (List ℕ)). WordsMean w command) (sym (append-nil (verb_text verb ∷ read.done))) m)))

-- ---- an option's word
-- an option that the command doesn't have, or that was given before
pub unfit : (verb : Verb) (words : List (List ℕ)) (settings : Settings) (rest others : List (List ℕ)) (number : ℕ) (option : OptionWord)
    → AreReadTo verb words settings rest → IsFirstOption option others rest → number + length rest ≡ length words + 1
    → (takes verb (setting_in option) ≡ false) ⊎ (is_set (setting_in option) settings ≡ true) → AreRefusedAt words number
unfit verb words settings rest others number option read first counts fault =
    refused_first verb words settings rest number first.word others read first.whole counts
    (λ more command on. absent (good_option verb read.given more command (setting_in option) (text_in option) first.word first.names on) fault)
  where
    absent : {more : List (List ℕ)} → IsGoodOption verb read.given (setting_in option) (text_in option) more
        → (takes verb (setting_in option) ≡ false) ⊎ (is_set (setting_in option) settings ≡ true) → ⊥
    absent good (inl f) = let t = good.taken in absurd (cc)
    absent good (inr t) =
        let f : is_set (setting_in option) settings ≡ false =
        none_is_unset (setting_in option) settings
        (subst (λ (o : Option (List ℕ)). IsSetTo (setting_in option) o settings) good.new (read.fields (setting_in option))) in
        absurd (cc)

-- the text after the `=` isn't a value
pub bad_joined : (verb : Verb) (words : List (List ℕ)) (settings : Settings) (rest others : List (List ℕ)) (number : ℕ) (option : OptionWord)
    (text : List ℕ) → AreReadTo verb words settings rest → IsFirstOption option others rest → number + length rest ≡ length words + 1
    → text_in option ≡ Some text → (HasValue (setting_in option) text → ⊥) → AreRefusedAt words number
bad_joined verb words settings rest others number option text read first counts is none =
    refused_first verb words settings rest number first.word others read first.whole counts
    (λ more command on. absent (good_option verb read.given more command (setting_in option) (text_in option) first.word first.names on))
  where
    at : (good_text : List ℕ) (more : List (List ℕ)) → HasValue (setting_in option) good_text
        → (text_in option ≡ Some good_text) ⊎ ((text_in option ≡ None) × (rest : List (List ℕ)) × (more ≡ good_text ∷ rest)) → ⊥
    at good_text more value (inl e) = none (subst (λ (t : List ℕ). HasValue (setting_in option) t) (let s : good_text ≡ text = cc in s) value)
    at good_text more value (inr e) = let f = e.0 in absurd (cc)

    absent : {more : List (List ℕ)} → IsGoodOption verb read.given (setting_in option) (text_in option) more → ⊥
    absent {more} good = at good.text more good.value good.place

-- a value of each option
sample : (setting : OptionName) → (text : List ℕ) × HasValue setting text
sample Visits = (codes "1", (1, record { digits = refl; some = lit< tt; few = lit≤ tt; value = refl; from_least = lit≤ tt; to_greatest = lit≤ tt }))
sample Depth = (codes "1", (1, record { digits = refl; some = lit< tt; few = lit≤ tt; value = refl; from_least = lit≤ tt; to_greatest = lit≤ tt }))
sample Events = (codes "1", (1, record { digits = refl; some = lit< tt; few = lit≤ tt; value = refl; from_least = lit≤ tt; to_greatest = lit≤ tt }))
sample Nodes = (codes "1", (1, record { digits = refl; some = lit< tt; few = lit≤ tt; value = refl; from_least = lit≤ tt; to_greatest = lit≤ tt }))
sample Splits = (codes "1", (1, record { digits = refl; some = lit< tt; few = lit≤ tt; value = refl; from_least = lit≤ tt; to_greatest = lit≤ tt }))
sample Kinds = (codes "null", refl)
sample Entry = (codes "f", refl)
sample Format = (codes "json", (true, refl))
sample Model = (codes "lp64", (Lp64, refl))

begins_alone : (verb : Verb) (words : List (List ℕ)) (settings : Settings) (rest others : List (List ℕ)) (option : OptionWord)
    → (read : AreReadTo verb words settings rest) → (first : IsFirstOption option others rest) → text_in option ≡ None
    → takes verb (setting_in option) ≡ true → is_set (setting_in option) settings ≡ false
    → BeginsACommand ((verb_text verb ∷ read.done) ++ first.word ∷ [])
begins_alone verb words settings rest others option read first is taken unset =
    let setting = setting_in option in
    let value = sample setting in
    let word : first.word ≡ option_text setting None = first.names ∙ ap (option_text setting) is in
    let none : text_of setting read.given ≡ None = not_set setting (text_of setting read.given) settings (read.fields setting) unset in
    let more = spelled_more verb (record { setting = setting; text = value.0 }) read.given read.done (first.word ∷ value.0 ∷ [])
    (spelled_by verb words settings rest read) taken none value.1 (inl (ap (λ (w : List ℕ). w ∷ value.0 ∷ []) word)) in
    shorter ((verb_text verb ∷ read.done) ++ first.word ∷ []) (value.0 ∷ [])
    (subst BeginsACommand (sym (append_assoc (verb_text verb ∷ read.done) (first.word ∷ []) (value.0 ∷ [])))
    (begins verb (read.given ++ record { setting = setting; text = value.0 } ∷ []) (read.done ++ first.word ∷ value.0 ∷ []) more))

-- the word after an option's isn't a value, or is missing
pub bad_after : (verb : Verb) (words : List (List ℕ)) (settings : Settings) (rest others : List (List ℕ)) (number : ℕ) (option : OptionWord)
    → AreReadTo verb words settings rest → IsFirstOption option others rest → number + length others ≡ length words + 1 → text_in option ≡ None
    → takes verb (setting_in option) ≡ true → is_set (setting_in option) settings ≡ false
    → ((text : List ℕ) (left : List (List ℕ)) → others ≡ text ∷ left → HasValue (setting_in option) text → ⊥) → AreRefusedAt words number
bad_after verb words settings rest others number option read first counts is taken unset none =
    refused_so words ((verb_text verb ∷ read.done) ++ first.word ∷ []) others number (read.whole
    ∙ ap (λ (w : List (List ℕ)). (verb_text verb ∷ read.done) ++ w) first.whole
    ∙ sym (append_assoc (verb_text verb ∷ read.done) (first.word ∷ []) others)) counts
    (begins_alone verb words settings rest others option read first is taken unset) (at others none)
  where
    absent : (more : List (List ℕ)) (command : Command) → WordsMean ((verb_text verb ∷ read.done) ++ first.word ∷ more) command
        → (text : List ℕ) × HasValue (setting_in option) text × (left : List (List ℕ)) × (more ≡ text ∷ left)
    absent more command m =
        let good = good_option verb read.given more command (setting_in option) (text_in option) first.word first.names
        (goes_on verb read.given read.done (first.word ∷ more) command read.spelled m) in
        elim good.place [
          | inl e ↦ absurd (let f : None ≡ Some good.text = sym is ∙ e in cc)
          | inr e ↦ (good.text, good.value, e.1, e.2)
        ]

    at : (following : List (List ℕ))
        → ((text : List ℕ) (left : List (List ℕ)) → following ≡ text ∷ left → HasValue (setting_in option) text → ⊥)
        → EndBefore ((verb_text verb ∷ read.done) ++ first.word ∷ []) following
    at [] none = λ command m.
        let good = absent [] command m in
        let e = good.3 in absurd (cc)
    at (word ∷ left) none = λ h.
        let whole = append_assoc ((verb_text verb ∷ read.done) ++ first.word ∷ []) (word ∷ []) h.0
        ∙ append_assoc (verb_text verb ∷ read.done) (first.word ∷ []) (word ∷ h.0) in
        let good = absent (word ∷ h.0) h.1 (subst (λ (w : List (List ℕ)). WordsMean w h.1) whole h.2) in
        let e = good.3 in
        none word left refl (subst (λ (t : List ℕ). HasValue (setting_in option) t) (let s : good.0 ≡ word = cc in s) good.1)

-- ---- a setting is read
pub joined_read : (verb : Verb) (words : List (List ℕ)) (before after : Settings) (rest others : List (List ℕ)) (option : OptionWord) (text : List ℕ)
    → AreReadTo verb words before rest → IsFirstOption option others rest → text_in option ≡ Some text → takes verb (setting_in option) ≡ true
    → is_set (setting_in option) before ≡ false → IsSetBesides (setting_in option) text before after → AreReadTo verb words after others
joined_read verb words before after rest others option text read first is taken unset set =
    read_more verb (record { setting = setting_in option; text = text }) words before after rest (first.word ∷ []) others read first.whole
    (inr (ap (λ (w : List ℕ). w ∷ []) (first.names ∙ ap (option_text (setting_in option)) is))) taken unset set

pub after_read : (verb : Verb) (words : List (List ℕ)) (before after : Settings) (rest others left : List (List ℕ)) (option : OptionWord) (text : List ℕ)
    → AreReadTo verb words before rest → IsFirstOption option others rest → text_in option ≡ None → others ≡ text ∷ left
    → takes verb (setting_in option) ≡ true → is_set (setting_in option) before ≡ false → IsSetBesides (setting_in option) text before after
    → AreReadTo verb words after left
after_read verb words before after rest others left option text read first is following taken unset set =
    read_more verb (record { setting = setting_in option; text = text }) words before after rest (first.word ∷ text ∷ []) left read (first.whole
    ∙ ap (λ (w : List (List ℕ)). first.word ∷ w) following)
    (inl (ap (λ (w : List ℕ). w ∷ text ∷ []) (first.names ∙ ap (option_text (setting_in option)) is))) taken unset set

-- ---- words after the settings
-- the first word, if there is one, isn't an option's
abbrev pub IsNoOptionFirst : List (List ℕ) → List (List ℕ) → Type 0
IsNoOptionFirst front following = BeginWithNoOption (front ++ following)

same_front : (front : List (List ℕ)) (word : List ℕ) (others more : List (List ℕ)) → BeginWithNoOption (front ++ word ∷ others)
    → BeginWithNoOption (front ++ word ∷ more)
same_front [] word others more absent = absent
same_front (first ∷ front) word others more absent = absent

-- some words after the settings are the beginning of the command's arguments
pub asks_from : (verb : Verb) (given : List Given) (done front more : List (List ℕ)) (command : Command) → AreSpelled verb given done
    → AskFor verb given (front ++ more) command → BeginsACommand ((verb_text verb ∷ done) ++ front)
asks_from verb given done front more command s asks = (
  more,
  command,
  subst (λ (w : List (List ℕ)). WordsMean w command) (sym (append_assoc (verb_text verb ∷ done) front more))
      (means_with verb given done (front ++ more) command s.words s.taken s.different asks),
)

-- some words after the settings are the beginning of arguments, and with the next word, or at the end, they aren't
pub refused_inside : (verb : Verb) (words : List (List ℕ)) (settings : Settings) (rest : List (List ℕ)) (number : ℕ) (front following : List (List ℕ))
    → (whole : AreReadWhole verb words settings rest) → rest ≡ front ++ following → number + length following ≡ length words + 1
    → BeginsACommand ((verb_text verb ∷ whole.read.done) ++ front) → IsNoOptionFirst front following
    → ((command : Command) → following ≡ [] → AskFor verb whole.read.given front command → ⊥)
    → ((word : List ℕ) (others more : List (List ℕ)) (command : Command) → following ≡ word ∷ others
    → AskFor verb whole.read.given (front ++ word ∷ more) command → ⊥)
    → AreRefusedAt words number
refused_inside verb words settings rest number front following whole is counts begin absent none_at_end none_with =
    refused_so words (done ++ front) following number (whole.read.whole ∙ ap (λ (w : List (List ℕ)). done ++ w) is
    ∙ sym (append_assoc done front following)) counts begin
    (at following absent (λ command. none_at_end command) (λ word others more command. none_with word others more command))
  where
    done : List (List ℕ)
    done = verb_text verb ∷ whole.read.done

    at : (left : List (List ℕ)) → IsNoOptionFirst front left
        → ((command : Command) → left ≡ [] → AskFor verb whole.read.given front command → ⊥)
        → ((word : List ℕ) (others more : List (List ℕ)) (command : Command) → left ≡ word ∷ others
        → AskFor verb whole.read.given (front ++ word ∷ more) command → ⊥) → EndBefore ((verb_text verb ∷ whole.read.done) ++ front) left
    at [] absent none_at_end none_with = λ command m.
        let on = goes_on verb whole.read.given whole.read.done front command whole.read.spelled m in
        none_at_end command refl (asks_here verb whole.read.given front command (subst BeginWithNoOption (append-nil front) absent) on)
    at (word ∷ others) absent none_at_end none_with = λ h.
        let parts = append_assoc ((verb_text verb ∷ whole.read.done) ++ front) (word ∷ []) h.0
        ∙ append_assoc (verb_text verb ∷ whole.read.done) front (word ∷ h.0) in
        let on = goes_on verb whole.read.given whole.read.done (front ++ word ∷ h.0) h.1 whole.read.spelled
        (subst (λ (w : List (List ℕ)). WordsMean w h.1) parts h.2) in
        none_with word others h.0 h.1 refl
        (asks_here verb whole.read.given (front ++ word ∷ h.0) h.1 (same_front front word others h.0 absent) on)
