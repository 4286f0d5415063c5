-- The words of settings can be read in only one way, and can be followed by those of others: for `settings_of`.
use Rattle.std.proofs.Common.{◌≡◌, ℕ, true, false, List, [], ◌∷◌, ◌++◌, Option, Some, None, ap, sym, ◌∙◌, refl, subst, inl, inr}
use Rattle.std.specs.List.{list_all}
use Rattle.cs_inputs.specs.InputText.{is_digit}
use Rattle.cs_inputs.specs.PathText.{is_name}
use Rattle.cs_words.specs.declared.command.Command.TheVariants.{Analyze, Flow, Replay, Generate}
use Rattle.cs_words.specs.declared.verb.Verb.TheVariants as verbs
use Rattle.cs_words.specs.Options.{Verb, OptionName}
use Rattle.cs_words.specs.Settings.{Given, option_text, BeginWithSetting, BeginWithSettings}
use Rattle.cs_words.specs.Meaning.{Command, AskFor}
use Rattle.cs_words.specs.Scan.{BeginWithNoOption}
use Rattle.cs_words.proofs.OptionTexts.{same_option, no_name}

pub heads : {X : Type 0} (x y : X) (xs ys : List X) → x ∷ xs ≡ y ∷ ys → (x ≡ y) × (xs ≡ ys)
heads x y xs ys e = (cc, cc)

same_given : (g h : Given) → g.setting ≡ h.setting → g.text ≡ h.text → g ≡ h
same_given g h settings texts = λ i. record { setting = settings i; text = texts i }

-- words begin with only one setting
one_setting : (g h : Given) (b c words : List (List ℕ)) → BeginWithSetting g b words → BeginWithSetting h c words → (g ≡ h) × (b ≡ c)
one_setting g h b c words (inl e) (inl d) =
    let first = heads (option_text g.setting None) (option_text h.setting None) (g.text ∷ b) (h.text ∷ c) (sym e ∙ d) in
    let second = heads g.text h.text b c first.1 in
    (same_given g h (same_option g.setting h.setting None None first.0).0 second.0, second.1)
one_setting g h b c words (inl e) (inr d) =
    let first = heads (option_text g.setting None) (option_text h.setting (Some h.text)) (g.text ∷ b) c (sym e ∙ d) in
    let texts : None ≡ Some h.text = (same_option g.setting h.setting None (Some h.text) first.0).1 in
    absurd (cc)
one_setting g h b c words (inr e) (inl d) =
    let first = heads (option_text g.setting (Some g.text)) (option_text h.setting None) b (h.text ∷ c) (sym e ∙ d) in
    let texts : Some g.text ≡ None = (same_option g.setting h.setting (Some g.text) None first.0).1 in
    absurd (cc)
one_setting g h b c words (inr e) (inr d) =
    let first = heads (option_text g.setting (Some g.text)) (option_text h.setting (Some h.text)) b c (sym e ∙ d) in
    let same = same_option g.setting h.setting (Some g.text) (Some h.text) first.0 in
    let texts : g.text ≡ h.text = let e = same.1 in cc in
    (same_given g h same.0 texts, first.1)

-- ---- words joined
longer : (g : Given) (b words t : List (List ℕ)) → BeginWithSetting g b words → BeginWithSetting g (b ++ t) (words ++ t)
longer g b words t (inl e) = inl (ap (λ (w : List (List ℕ)). w ++ t) e)
longer g b words t (inr e) = inr (ap (λ (w : List (List ℕ)). w ++ t) e)

pub joined : (given later : List Given) (done others t : List (List ℕ)) → BeginWithSettings given [] done → BeginWithSettings later others t
    → BeginWithSettings (given ++ later) others (done ++ t)
joined [] later done others t h k = subst (λ (d : List (List ℕ)). BeginWithSettings later others (d ++ t)) (sym h) k
joined (g ∷ gs) later done others t h k = (h.0 ++ t, longer g h.0 done t h.1, joined gs later h.0 others t h.2 k)

pub followed : (given : List Given) (done others : List (List ℕ)) → BeginWithSettings given [] done → BeginWithSettings given others (done ++ others)
followed [] done others h = ap (λ (d : List (List ℕ)). d ++ others) h
followed (g ∷ gs) done others h = (h.0 ++ others, longer g h.0 done others h.1, followed gs h.0 others h.2)

-- settings are separated from the words after them
pub cut_off : (given : List Given) (others words : List (List ℕ)) → BeginWithSettings given others words
    → (done : List (List ℕ)) × (words ≡ done ++ others) × BeginWithSettings given [] done
cut_off [] others words h = ([], h, refl)
cut_off (g ∷ gs) others words h =
    let rest = cut_off gs others h.0 h.2 in
    let first = shortened g h.0 words h.1 rest.0 others rest.1 in
    (first.0, first.1, (rest.0, first.2, rest.2))
  where
    shortened : (g : Given) (following words : List (List ℕ)) → BeginWithSetting g following words
        → (done others : List (List ℕ)) → following ≡ done ++ others
        → (front : List (List ℕ)) × (words ≡ front ++ others) × BeginWithSetting g done front
    shortened g following words (inl e) done others is =
        (option_text g.setting None ∷ g.text ∷ done, e ∙ ap (λ (w : List (List ℕ)). option_text g.setting None ∷ g.text ∷ w) is, inl refl)
    shortened g following words (inr e) done others is =
        (option_text g.setting (Some g.text) ∷ done, e ∙ ap (λ (w : List (List ℕ)). option_text g.setting (Some g.text) ∷ w) is, inr refl)

-- ---- the end of settings
pub no_setting : (g : Given) (b words : List (List ℕ)) → BeginWithNoOption words → BeginWithSetting g b words → ⊥
no_setting g b [] absent (inl e) = absurd (cc)
no_setting g b [] absent (inr e) = absurd (cc)
no_setting g b (word ∷ words) absent (inl e) = absent g.setting None (heads word (option_text g.setting None) words (g.text ∷ b) e).0
no_setting g b (word ∷ words) absent (inr e) = absent g.setting (Some g.text) (heads word (option_text g.setting (Some g.text)) words b e).0

-- words that begin with a name don't begin with an option's word
named_first : (entry : List ℕ) (numbers others : List (List ℕ)) → is_name entry ≡ true → others ≡ entry ∷ numbers → BeginWithNoOption others
named_first entry numbers [] named e = tt
named_first entry numbers (word ∷ words) named e = λ setting text is.
    let first : word ≡ entry = (heads word entry words numbers e).0 in
    let absent : is_name entry ≡ false = ap is_name (sym first ∙ is) ∙ no_name setting text in
    (let both : true ≡ false = sym named ∙ absent in absurd (cc))

-- digits don't begin with an option's dashes
dashes : (setting : OptionName) (text : Option (List ℕ)) → list_all is_digit (option_text setting text) ≡ false
dashes setting None = refl
dashes setting (Some text) = refl

pub digits_first : (digits : List ℕ) (more others : List (List ℕ)) → list_all is_digit digits ≡ true → others ≡ digits ∷ more
    → BeginWithNoOption others
digits_first digits more [] all e = tt
digits_first digits more (word ∷ words) all e = λ setting text is.
    let first : word ≡ digits = (heads word digits words more e).0 in
    let absent : list_all is_digit digits ≡ false = ap (list_all is_digit) (sym first ∙ is) ∙ dashes setting text in
    (let both : true ≡ false = sym all ∙ absent in absurd (cc))

nothing_first : (others : List (List ℕ)) → others ≡ [] → BeginWithNoOption others
nothing_first [] e = tt
nothing_first (word ∷ words) e = absurd (cc)

pub asks_no_option : (verb : Verb) (given : List Given) (others : List (List ℕ)) (command : Command) → AskFor verb given others command
    → BeginWithNoOption others
asks_no_option verbs.Analyze given others (Analyze words) asks = nothing_first others asks.no_more
asks_no_option verbs.Analyze given others (Flow words) asks = absurd asks
asks_no_option verbs.Analyze given others (Replay words) asks = absurd asks
asks_no_option verbs.Analyze given others (Generate words) asks = absurd asks
asks_no_option verbs.Flow given others (Analyze words) asks = absurd asks
asks_no_option verbs.Flow given others (Flow words) asks = nothing_first others asks.0
asks_no_option verbs.Flow given others (Replay words) asks = absurd asks
asks_no_option verbs.Flow given others (Generate words) asks = absurd asks
asks_no_option verbs.Replay given others (Analyze words) asks = absurd asks
asks_no_option verbs.Replay given others (Flow words) asks = absurd asks
asks_no_option verbs.Replay given others (Replay words) asks = named_first words.entry asks.input_words others asks.name asks.whole
asks_no_option verbs.Replay given others (Generate words) asks = absurd asks
asks_no_option verbs.Generate given others (Analyze words) asks = absurd asks
asks_no_option verbs.Generate given others (Flow words) asks = absurd asks
asks_no_option verbs.Generate given others (Replay words) asks = absurd asks
asks_no_option verbs.Generate given others (Generate words) asks = digits_first asks.seed (asks.size ∷ []) others asks.is_seed.digits asks.whole

-- ---- settings that were read come first
pub after_read : (given all : List Given) (done others t : List (List ℕ)) → BeginWithNoOption others → BeginWithSettings given [] done
    → BeginWithSettings all others (done ++ t) → (later : List Given) × (all ≡ given ++ later) × BeginWithSettings later others t
after_read [] all done others t absent h k = (all, refl, subst (λ (d : List (List ℕ)). BeginWithSettings all others (d ++ t)) h k)
after_read (g ∷ gs) [] done others t absent h k =
    absurd (no_setting g (h.0 ++ t) others absent (subst (λ (w : List (List ℕ)). BeginWithSetting g (h.0 ++ t) w) k (longer g h.0 done t h.1)))
after_read (g ∷ gs) (a ∷ more) done others t absent h k =
    let same = one_setting a g k.0 (h.0 ++ t) (done ++ t) k.1 (longer g h.0 done t h.1) in
    let rest = after_read gs more h.0 others t absent h.2 (subst (λ (w : List (List ℕ)). BeginWithSettings more others w) same.1 k.2) in
    (rest.0, (λ i. same.0 i ∷ rest.1 i), rest.2)

-- words that don't begin with an option's word have no settings
pub none_left : (later : List Given) (others words : List (List ℕ)) → BeginWithNoOption words → BeginWithSettings later others words
    → (later ≡ []) × (words ≡ others)
none_left [] others words absent h = (refl, h)
none_left (g ∷ gs) others words absent h = absurd (no_setting g h.0 words absent h.1)
