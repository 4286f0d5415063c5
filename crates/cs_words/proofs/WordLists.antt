-- Words as lists of bytes, and the results of reading them: for all functions that iterate over the words.
use Rattle.std.proofs.Common.{◌≡◌, ℕ, ◌+◌, ◌<◌, true, false, List, [], ◌∷◌, length, Some, None, Result, Ok, Err, ap, sym, ◌∙◌, refl}
use Rattle.std.proofs.Common.{subst, inl, inr, arith, ◌≤◌}
use Rattle.std.specs.Prelude.{◌⊎◌, ℤ, MatchResult, IsErrAnd, string_bytes, codes}
use Rattle.std.proofs.lemmas.List.{length-map, length-append}
use Rattle.cs_inputs.specs.declared.path.Path.{Path}
use Rattle.cs_inputs.specs.declared.refusal.PathRefusal.{PathRefusal}
use Rattle.cs_inputs.specs.declared.refusal.PathRefusal.TheVariants as paths
use Rattle.cs_inputs.specs.InputText.{SpellsInput}
use Rattle.cs_inputs.specs.PathText.{is_name}
use Rattle.cs_types.specs.declared.data_model.DataModel.TheVariants.{Lp64}
use Rattle.cs_words.specs.declared.command.Command.TheVariants.{Flow, Generate}
use Rattle.cs_words.specs.declared.option_word.OptionWord.{OptionWord}
use Rattle.cs_words.specs.declared.scan.ParsedOptions.{ParsedOptions}
use Rattle.cs_words.specs.declared.refusal.WordsRefusal.{WordsRefusal}
use Rattle.cs_words.specs.declared.refusal.WordsRefusal.TheVariants.{Words, Memory}
use Rattle.cs_words.specs.declared.verb.Verb.TheVariants as verbs
use Rattle.cs_words.specs.Options.{Verb, OptionName, verb_text, takes}
use Rattle.cs_words.specs.Meaning.{Word, words_text, Command, BeginsACommand, AreRefusedAt}
use Rattle.cs_words.specs.Scan.{Settings, is_set, HasValue, IsSetBesides, AreReadTo, AreReadWhole, IsFirstOption, setting_in, text_in, IsRefusal}
use Rattle.cs_words.specs.Scan.{IsRefusalBefore, IsRefusalFor, IsRight, AreInputsRead}
use Rattle.cs_words.proofs.EnteredInputs.{AreEnteredTo, no_input}
use Rattle.cs_words.proofs.SettingWords.{heads}
use Rattle.cs_words.proofs.Refusals.{unfit, bad_joined, bad_after, joined_read, after_read}
use Rattle.cs_words.specs.Values.{IsSeed, IsSize}
use Rattle.cs_words.proofs.WholeWords.{AsksForNoMore, one_more, no_entry, bad_entry, bad_input, bad_seed, no_seed, bad_size, third_word, generate_right}

-- ---- lists of words
words_length : (words : List Word) → length (words_text words) ≡ length words
words_length words = length-map words (λ (word : Word). string_bytes word)

counts_text : (words rest : List Word) (number : ℕ) → number + length rest ≡ length words + 1
    → number + length (words_text rest) ≡ length (words_text words) + 1
counts_text words rest number counts = omega (arith, words_length words, words_length rest)

pub first_text : (words : List Word) (word : Word) (others : List Word) (bytes : List ℕ) → words ≡ word ∷ others → bytes ≡ string_bytes word
    → words_text words ≡ bytes ∷ words_text others
first_text words word others bytes whole is = ap words_text whole ∙ ap (λ (b : List ℕ). b ∷ words_text others) (sym is)

pub no_text : (words : List Word) → length words ≡ 0 → words_text words ≡ []
no_text [] none = refl
no_text (word ∷ words) none = absurd (omega arith)

some_text : (words : List Word) → 0 < length words → 0 < length (words_text words)
some_text words some = omega (arith, words_length words)

-- the words that remain after the settings are some of all words
pub rest_within : (verb : Verb) (words rest : List Word) (settings : Settings) → AreReadWhole verb (words_text words) settings (words_text rest)
    → length rest ≤ length words
rest_within verb words rest settings whole =
    let parts = ap length whole.read.whole ∙ length-append (verb_text verb ∷ whole.read.done) (words_text rest) in
    omega (arith, parts, words_length words, words_length rest)

-- a refusal, by the words that remain
refusal_before : (words rest : List Word) (refusal : WordsRefusal) → IsRefusalBefore (length words) (length rest) refusal
    → ((number : ℕ) → number + length (words_text rest) ≡ length (words_text words) + 1 → AreRefusedAt (words_text words) number)
    → IsRefusal (words_text words) refusal
refusal_before words rest (Words number) counts so = so number (counts_text words rest number counts)
refusal_before words rest Memory counts so = absurd counts

-- ---- the first word
begins_empty : BeginsACommand []
begins_empty = (
  codes "flow" ∷ [],
  Flow (record { model = Lp64 }),
  record { verb = verbs.Flow; given = []; others = []; following = []; first = refl; settings = refl; taken = tt; different = tt; asks = (refl, refl) },
)

pub no_verb : (words : List (List ℕ)) (first : List ℕ) (following : List (List ℕ)) → words ≡ first ∷ following
    → ((verb : Verb) → verb_text verb ≡ first → ⊥) → AreRefusedAt words 1
no_verb words first following whole none = record {
  before = [];
  following = first ∷ following;
  whole = whole;
  counts = refl;
  begin = begins_empty;
  end = λ h. none h.2.verb (sym (heads first (verb_text h.2.verb) h.0 h.2.following h.2.first).0);
}

pub no_words : (words : List Word) → length words ≡ 0 → AreRefusedAt (words_text words) 1
no_words words none = record {
  before = [];
  following = [];
  whole = no_text words none;
  counts = refl;
  begin = begins_empty;
  end = λ command m. absurd (let e = m.first in cc);
}

-- ---- an option's word
pub unfit_option : (verb : Verb) (words rest others : List Word) (settings : Settings) (option : OptionWord) (refusal : WordsRefusal)
    → AreReadTo verb (words_text words) settings (words_text rest) → IsFirstOption option (words_text others) (words_text rest)
    → IsRefusalBefore (length words) (length rest) refusal → (takes verb (setting_in option) ≡ false) ⊎ (is_set (setting_in option) settings ≡ true)
    → IsRefusal (words_text words) refusal
unfit_option verb words rest others settings option refusal read first counts fault =
    refusal_before words rest refusal counts (λ number c.
    unfit verb (words_text words) settings (words_text rest) (words_text others) number option read first c fault)

abbrev pub IsValueRead : (words at left : List Word) (setting : OptionName) (text : List ℕ) (before : Settings) → Result ParsedOptions WordsRefusal → Type 0
IsValueRead words at left setting text before result =
    MatchResult result (λ after. IsSetBesides setting text before after.settings × (after.rest.now ≡ left))
    (λ refusal. (HasValue setting text → ⊥) × IsRefusalBefore (length words) (length at) refusal)

abbrev pub IsSettingRead : (verb : Verb) (words : List Word) → Result ParsedOptions WordsRefusal → Type 0
IsSettingRead verb words result =
    MatchResult result (λ after. AreReadTo verb (words_text words) after.settings (words_text after.rest.now)) (IsRefusal (words_text words))

pub joined_step : (verb : Verb) (words rest others : List Word) (settings : Settings) (option : OptionWord) (text : List ℕ)
    (result : Result ParsedOptions WordsRefusal) → AreReadTo verb (words_text words) settings (words_text rest)
    → IsFirstOption option (words_text others) (words_text rest) → text_in option ≡ Some text → takes verb (setting_in option) ≡ true
    → is_set (setting_in option) settings ≡ false → IsValueRead words rest others (setting_in option) text settings result
    → IsSettingRead verb words result
joined_step verb words rest others settings option text (Ok after) read first is taken unset h =
    subst (λ (w : List Word). AreReadTo verb (words_text words) after.settings (words_text w)) (sym h.1)
    (joined_read verb (words_text words) settings after.settings (words_text rest) (words_text others) option text read first is taken unset h.0)
joined_step verb words rest others settings option text (Err refusal) read first is taken unset h =
    refusal_before words rest refusal h.1 (λ number c.
    bad_joined verb (words_text words) settings (words_text rest) (words_text others) number option text read first c is h.0)

pub after_step : (verb : Verb) (words rest others left : List Word) (settings : Settings) (option : OptionWord) (text : List ℕ)
    (result : Result ParsedOptions WordsRefusal) → AreReadTo verb (words_text words) settings (words_text rest)
    → IsFirstOption option (words_text others) (words_text rest) → text_in option ≡ None → words_text others ≡ text ∷ words_text left
    → takes verb (setting_in option) ≡ true → is_set (setting_in option) settings ≡ false
    → IsValueRead words others left (setting_in option) text settings result → IsSettingRead verb words result
after_step verb words rest others left settings option text (Ok after) read first is following taken unset h =
    subst (λ (w : List Word). AreReadTo verb (words_text words) after.settings (words_text w)) (sym h.1)
    (after_read verb (words_text words) settings after.settings (words_text rest) (words_text others) (words_text left) option text read first is following
    taken unset h.0)
after_step verb words rest others left settings option text (Err refusal) read first is following taken unset h =
    refusal_before words others refusal h.1
    (λ number c. bad_after verb (words_text words) settings (words_text rest) (words_text others) number option read first c is taken unset
    (λ reported more e value.
    h.0 (subst (λ (t : List ℕ). HasValue (setting_in option) t) (heads reported text more (words_text left) (sym e ∙ following)).0 value)))

pub nothing_after : (verb : Verb) (words rest others : List Word) (settings : Settings) (option : OptionWord) (refusal : WordsRefusal)
    → AreReadTo verb (words_text words) settings (words_text rest) → IsFirstOption option (words_text others) (words_text rest) → text_in option ≡ None
    → length others ≡ 0 → takes verb (setting_in option) ≡ true → is_set (setting_in option) settings ≡ false
    → IsRefusalBefore (length words) (length others) refusal → IsRefusal (words_text words) refusal
nothing_after verb words rest others settings option refusal read first is none taken unset counts =
    refusal_before words others refusal counts
    (λ number c.
    bad_after verb (words_text words) settings (words_text rest) (words_text others) number option read first c is taken unset
    (λ reported more e value. absurd (let no_more = no_text others none in cc)))

-- ---- the words after the settings
pub extra_word : (verb : Verb) → AsksForNoMore verb → (words rest : List Word) (settings : Settings) (refusal : WordsRefusal)
    → AreReadWhole verb (words_text words) settings (words_text rest) → 0 < length rest → IsRefusalBefore (length words) (length rest) refusal
    → IsRefusal (words_text words) refusal
extra_word verb none words rest settings refusal whole some counts =
    refusal_before words rest refusal counts (λ number c.
    one_more verb none (words_text words) settings (words_text rest) number whole (some_text rest some) c)

pub missing_entry : (words rest : List Word) (settings : Settings) (refusal : WordsRefusal)
    → AreReadWhole verbs.Replay (words_text words) settings (words_text rest) → length rest ≡ 0 → IsRefusalBefore (length words) (length rest) refusal
    → IsRefusal (words_text words) refusal
missing_entry words rest settings refusal whole none counts =
    refusal_before words rest refusal counts (λ number c. no_entry (words_text words) settings (words_text rest) number whole (no_text rest none) c)

pub no_name_there : (words rest others : List Word) (settings : Settings) (entry : List ℕ) (refusal : WordsRefusal)
    → AreReadWhole verbs.Replay (words_text words) settings (words_text rest) → words_text rest ≡ entry ∷ words_text others → is_name entry ≡ false
    → IsRefusalBefore (length words) (length rest) refusal → IsRefusal (words_text words) refusal
no_name_there words rest others settings entry refusal whole is name counts =
    refusal_before words rest refusal counts (λ number c.
    bad_entry (words_text words) settings (words_text rest) number entry (words_text others) whole is name c)

refused_input : (words rest others : List Word) (settings : Settings) (entry : List ℕ) (refusal : WordsRefusal)
    → AreReadWhole verbs.Replay (words_text words) settings (words_text rest) → words_text rest ≡ entry ∷ words_text others → is_name entry ≡ true
    → AreInputsRead (words_text others) (length words) (Err refusal) → IsRefusal (words_text words) refusal
refused_input words rest others settings entry (Words number) whole is name bad =
    bad_input (words_text words) settings (words_text rest) number entry (words_text others) whole is name
    (subst (λ (n : ℕ). AreInputsRead (words_text others) n (Err (Words number))) (sym (words_length words)) bad)
refused_input words rest others settings entry Memory whole is name bad = tt

pub passed_on : (words : List (List ℕ)) (result : Result Command WordsRefusal) (refusal : WordsRefusal) → IsErrAnd result (λ e. e ≡ refusal)
    → IsRefusal words refusal → IsRight words result
passed_on words (Ok command) refusal e h = absurd e
passed_on words (Err other) refusal e h = subst (λ (r : WordsRefusal). IsRefusal words r) (sym e) h

pub input_refused : (words rest others : List Word) (settings : Settings) (entry : List ℕ) (refusal : WordsRefusal) (result : Result Command WordsRefusal)
    → AreReadWhole verbs.Replay (words_text words) settings (words_text rest) → words_text rest ≡ entry ∷ words_text others → is_name entry ≡ true
    → AreInputsRead (words_text others) (length words) (Err refusal) → IsErrAnd result (λ e. e ≡ refusal) → IsRight (words_text words) result
input_refused words rest others settings entry refusal result whole is name bad e =
    passed_on (words_text words) result refusal e (refused_input words rest others settings entry refusal whole is name bad)

-- ---- `generate`
pub seed_refused : (words rest others : List Word) (settings : Settings) (seed : List ℕ) (refusal : WordsRefusal)
    → AreReadWhole verbs.Generate (words_text words) settings (words_text rest) → words_text rest ≡ seed ∷ words_text others
    → ((n : ℕ) → IsSeed seed n → ⊥) → IsRefusalBefore (length words) (length rest) refusal → IsRefusal (words_text words) refusal
seed_refused words rest others settings seed refusal whole is none counts =
    refusal_before words rest refusal counts (λ number c.
    bad_seed (words_text words) settings (words_text rest) number seed (words_text others) whole is none c)

pub seed_missing : (words rest : List Word) (settings : Settings) (refusal : WordsRefusal)
    → AreReadWhole verbs.Generate (words_text words) settings (words_text rest) → length rest ≡ 0 → IsRefusalBefore (length words) (length rest) refusal
    → IsRefusal (words_text words) refusal
seed_missing words rest settings refusal whole none counts =
    refusal_before words rest refusal counts (λ number c. no_seed (words_text words) settings (words_text rest) number whole (no_text rest none) c)

pub size_refused : (words rest others : List Word) (settings : Settings) (seed : List ℕ) (a : ℕ) (refusal : WordsRefusal)
    → AreReadWhole verbs.Generate (words_text words) settings (words_text rest) → words_text rest ≡ seed ∷ words_text others → IsSeed seed a
    → ((word : List ℕ) (more : List (List ℕ)) (n : ℕ) → words_text others ≡ word ∷ more → IsSize word n → ⊥)
    → IsRefusalBefore (length words) (length others) refusal → IsRefusal (words_text words) refusal
size_refused words rest others settings seed a refusal whole is is_seed none counts =
    refusal_before words others refusal counts (λ number c.
    bad_size (words_text words) settings (words_text rest) number seed a (words_text others) whole is is_seed none c)

pub third_refused : (words rest more : List Word) (settings : Settings) (seed size : List ℕ) (a b : ℕ) (refusal : WordsRefusal)
    → AreReadWhole verbs.Generate (words_text words) settings (words_text rest) → words_text rest ≡ seed ∷ size ∷ words_text more → IsSeed seed a
    → IsSize size b → 0 < length more → IsRefusalBefore (length words) (length more) refusal → IsRefusal (words_text words) refusal
third_refused words rest more settings seed size a b refusal whole is is_seed is_size some counts =
    refusal_before words more refusal counts (λ number c.
    third_word (words_text words) settings (words_text rest) number seed size a b (words_text more) whole is is_seed is_size (some_text more some) c)

pub size_missing : (words rest others : List Word) (settings : Settings) (seed : List ℕ) (a : ℕ) (refusal : WordsRefusal)
    → AreReadWhole verbs.Generate (words_text words) settings (words_text rest) → words_text rest ≡ seed ∷ words_text others → IsSeed seed a
    → length others ≡ 0 → IsRefusalBefore (length words) (length others) refusal → IsRefusal (words_text words) refusal
size_missing words rest others settings seed a refusal whole is is_seed none counts =
    size_refused words rest others settings seed a refusal whole is is_seed (λ word more n e is_size. absurd (let no_more = no_text others none in cc)) counts

pub no_size : (words rest others more : List Word) (settings : Settings) (seed size : List ℕ) (a : ℕ) (refusal : WordsRefusal)
    → AreReadWhole verbs.Generate (words_text words) settings (words_text rest) → words_text rest ≡ seed ∷ words_text others → IsSeed seed a
    → words_text others ≡ size ∷ words_text more → ((n : ℕ) → IsSize size n → ⊥) → IsRefusalBefore (length words) (length others) refusal
    → IsRefusal (words_text words) refusal
no_size words rest others more settings seed size a refusal whole is is_seed following none counts =
    size_refused words rest others settings seed a refusal whole is is_seed (λ word later n e is_size.
    let same : word ≡ size = (heads word size later (words_text more) (sym e ∙ following)).0 in
    none n (subst (λ (t : List ℕ). IsSize t n) same is_size)) counts

pub generated : (words rest more : List Word) (settings : Settings) (seed size : List ℕ) (a b : ℕ)
    → AreReadWhole verbs.Generate (words_text words) settings (words_text rest) → words_text rest ≡ seed ∷ size ∷ words_text more → IsSeed seed a
    → IsSize size b → length more ≡ 0 → IsRight (words_text words) (Ok (Generate (record { seed = a; size = b })))
generated words rest more settings seed size a b whole is is_seed is_size none =
    generate_right (words_text words) settings (words_text rest) (record { seed = a; size = b }) whole (record {
      seed = seed;
      size = size;
      whole = is ∙ ap (λ (w : List (List ℕ)). seed ∷ size ∷ w) (no_text more none);
      is_seed = is_seed;
      is_size = is_size;
    })

-- ---- an input's word
abbrev pub AcceptsInputs : List ℕ → Result (Path × ℤ) PathRefusal → Type 0
AcceptsInputs word result = (path : Path) (number : ℤ) → SpellsInput word path number → (result ≡ Ok (path, number)) ⊎ (result ≡ Err paths.Memory)

not_spelled : (word : List ℕ) (result : Result (Path × ℤ) PathRefusal) (cause : PathRefusal) → result ≡ Err cause → (cause ≡ paths.Memory → ⊥)
    → AcceptsInputs word result → (path : Path) (number : ℤ) → SpellsInput word path number → ⊥
not_spelled word result cause is other accepts path number spells = elim (accepts path number spells) [ inl e ↦ absurd (cc) | inr e ↦ other (cc) ]

pub no_input_there : (words following rest others : List Word) (inputs : List (Path × ℤ)) (word : List ℕ) (result : Result (Path × ℤ) PathRefusal)
    (cause : PathRefusal) (refusal : WordsRefusal) → AreEnteredTo (words_text following) inputs (words_text rest)
    → words_text rest ≡ word ∷ words_text others → result ≡ Err cause → AcceptsInputs word result
    → IsRefusalFor cause (length words) (length rest) refusal → AreInputsRead (words_text following) (length words) (Err refusal)
no_input_there words following rest others inputs word result cause refusal to first is accepts fault = at cause refusal is fault
  where
    so : (number : ℕ) → number + length rest ≡ length words + 1 → (cause : PathRefusal) → result ≡ Err cause → (cause ≡ paths.Memory → ⊥)
        → AreInputsRead (words_text following) (length words) (Err (Words number))
    so number counts cause is other =
        no_input (words_text following) inputs (words_text rest) word (words_text others) (length words) number to first (omega (arith, words_length rest))
        (not_spelled word result cause is other accepts)

    at : (cause : PathRefusal) (refusal : WordsRefusal) → result ≡ Err cause → IsRefusalFor cause (length words) (length rest) refusal
        → AreInputsRead (words_text following) (length words) (Err refusal)
    at paths.BadPath (Words number) is counts = so number counts paths.BadPath is (λ e. absurd (cc))
    at paths.BadPath Memory is counts = absurd counts
    at paths.BadNumber (Words number) is counts = so number counts paths.BadNumber is (λ e. absurd (cc))
    at paths.BadNumber Memory is counts = absurd counts
    at paths.TooWide (Words number) is counts = so number counts paths.TooWide is (λ e. absurd (cc))
    at paths.TooWide Memory is counts = absurd counts
    at paths.Memory (Words number) is e = absurd (cc)
    at paths.Memory Memory is e = tt
