-- Commands and options are distinguished by their texts, and a word names an option in only one way: for `option_of` and
-- `settings_of`.
use Rattle.std.proofs.Common.{◌≡◌, ℕ, true, false, not, List, [], ◌∷◌, ◌++◌, Option, Some, None, drop, ap, sym, ◌∙◌, refl, append_assoc}
use Rattle.std.proofs.Common.{eqb-true}
use Rattle.std.specs.Prelude.{◌==◌, nat_eq, codes, if◌then◌else◌}
use Rattle.std.specs.List.{list_all}
use Rattle.std.specs.Cmp.Lexicographic.{pointwise}
use Rattle.std.proofs.lemmas.List.{append-nil}
use Rattle.cs_inputs.specs.PathText.{is_name}
use Rattle.cs_inputs.specs.Reading.{SplitsBefore, IsEmptyOrAt}
use Rattle.cs_inputs.proofs.Splits.{one_cut}
use Rattle.cs_words.specs.declared.option_name.OptionName.TheVariants.{Visits, Depth, Events, Nodes, Splits, Kinds, Entry, Format, Model}
use Rattle.cs_words.specs.declared.verb.Verb.TheVariants.{Analyze, Flow, Replay, Generate}
use Rattle.cs_words.specs.Options.{Verb, OptionName, verb_text, setting_text}
use Rattle.cs_words.specs.Settings.{option_text, place_of, is_same}

-- ---- commands and options by their texts and places
verb_of : List ℕ → Verb
verb_of word = if pointwise nat_eq word (codes "analyze") then Analyze else if pointwise nat_eq word (codes "flow") then Flow
    else if pointwise nat_eq word (codes "replay") then Replay else Generate

verb_back : (verb : Verb) → verb_of (verb_text verb) ≡ verb
unfolding verb_of
verb_back Analyze = refl
verb_back Flow = refl
verb_back Replay = refl
verb_back Generate = refl

pub same_verb : (one other : Verb) → verb_text one ≡ verb_text other → one ≡ other
same_verb one other e = sym (verb_back one) ∙ ap verb_of e ∙ verb_back other

setting_of : List ℕ → OptionName
setting_of name = if pointwise nat_eq name (codes "visits") then Visits else if pointwise nat_eq name (codes "depth") then Depth
    else if pointwise nat_eq name (codes "events") then Events else if pointwise nat_eq name (codes "nodes") then Nodes
    else if pointwise nat_eq name (codes "splits") then Splits else if pointwise nat_eq name (codes "kinds") then Kinds
    else if pointwise nat_eq name (codes "entry") then Entry else if pointwise nat_eq name (codes "format") then Format else Model

setting_back : (setting : OptionName) → setting_of (setting_text setting) ≡ setting
unfolding setting_of
setting_back Visits = refl
setting_back Depth = refl
setting_back Events = refl
setting_back Nodes = refl
setting_back Splits = refl
setting_back Kinds = refl
setting_back Entry = refl
setting_back Format = refl
setting_back Model = refl

same_setting : (one other : OptionName) → setting_text one ≡ setting_text other → one ≡ other
same_setting one other e = sym (setting_back one) ∙ ap setting_of e ∙ setting_back other

setting_at : ℕ → OptionName
setting_at place = if nat_eq place 0 then Visits else if nat_eq place 1 then Depth else if nat_eq place 2 then Events
    else if nat_eq place 3 then Nodes else if nat_eq place 4 then Splits else if nat_eq place 5 then Kinds else if nat_eq place 6 then Entry
    else if nat_eq place 7 then Format else Model

place_back : (setting : OptionName) → setting_at (place_of setting) ≡ setting
unfolding setting_at
place_back Visits = refl
place_back Depth = refl
place_back Events = refl
place_back Nodes = refl
place_back Splits = refl
place_back Kinds = refl
place_back Entry = refl
place_back Format = refl
place_back Model = refl

pub same_place : (one other : OptionName) → is_same one other ≡ true → one ≡ other
same_place one other e = sym (place_back one) ∙ ap setting_at (eqb-true (place_of one) (place_of other) e) ∙ place_back other

pub is_same-itself : (setting : OptionName) → is_same setting setting ≡ true
is_same-itself Visits = refl
is_same-itself Depth = refl
is_same-itself Events = refl
is_same-itself Nodes = refl
is_same-itself Splits = refl
is_same-itself Kinds = refl
is_same-itself Entry = refl
is_same-itself Format = refl
is_same-itself Model = refl

-- ---- an option's word is cut at its first `=`
no_equals : (setting : OptionName) → list_all (λ b. not (b == 61)) (setting_text setting) ≡ true
no_equals Visits = refl
no_equals Depth = refl
no_equals Events = refl
no_equals Nodes = refl
no_equals Splits = refl
no_equals Kinds = refl
no_equals Entry = refl
no_equals Format = refl
no_equals Model = refl

abbrev pub tail_text : Option (List ℕ) → List ℕ
tail_text None = []
tail_text (Some text) = codes "=" ++ text

tail_at : (text : Option (List ℕ)) → IsEmptyOrAt 61 (tail_text text)
tail_at None = tt
tail_at (Some text) = refl

pub after_dashes : (setting : OptionName) (text : Option (List ℕ)) → option_text setting text ≡ codes "--" ++ (setting_text setting ++ tail_text text)
after_dashes setting None = ap (λ (t : List ℕ). 45 ∷ 45 ∷ t) (sym (append-nil (setting_text setting)))
after_dashes setting (Some text) = ap (λ (t : List ℕ). 45 ∷ 45 ∷ t) (append_assoc (setting_text setting) (codes "=") text)

same_tail : (one other : Option (List ℕ)) → tail_text one ≡ tail_text other → one ≡ other
same_tail None None e = refl
same_tail None (Some text) e = absurd (cc)
same_tail (Some text) None e = absurd (cc)
same_tail (Some one) (Some other) e = ap Some (ap (drop 1) e)

pub same_cut_text : (one : OptionName) (name tail : List ℕ) (text : Option (List ℕ)) → list_all (λ b. not (b == 61)) name ≡ true → IsEmptyOrAt 61 tail
    → setting_text one ++ tail_text text ≡ name ++ tail → (setting_text one ≡ name) × (tail_text text ≡ tail)
same_cut_text one name tail text none at e = one_cut 61 (setting_text one) name (tail_text text) tail (no_equals one) none (tail_at text) at e

-- a word is that of only one option, with only one value or none
pub same_option : (one other : OptionName) (text reported : Option (List ℕ)) → option_text one text ≡ option_text other reported
    → (one ≡ other) × (text ≡ reported)
same_option one other text reported e =
    let bodies : setting_text one ++ tail_text text ≡ setting_text other ++ tail_text reported =
    ap (drop 2) (sym (after_dashes one text) ∙ e ∙ after_dashes other reported) in
    let cut = same_cut_text one (setting_text other) (tail_text reported) text (no_equals other) (tail_at reported) bodies in
    (same_setting one other cut.0, same_tail text reported cut.1)

-- an option's word isn't a name
pub no_name : (setting : OptionName) (text : Option (List ℕ)) → is_name (option_text setting text) ≡ false
no_name setting None = refl
no_name setting (Some text) = refl

-- ---- what `option_of` finds
pub alone : (word body name tail : List ℕ) (setting : OptionName) → word ≡ 45 ∷ 45 ∷ body → SplitsBefore 61 body name tail
    → setting_text setting ≡ name → tail ≡ [] → word ≡ option_text setting None
alone word body name tail setting is cut named none =
    is ∙ ap (λ (t : List ℕ). 45 ∷ 45 ∷ t) (cut.whole ∙ ap (λ (t : List ℕ). name ++ t) none ∙ append-nil name ∙ sym named)

joined_at : (name tail text : List ℕ) (separator : ℕ) → IsEmptyOrAt 61 tail → tail ≡ separator ∷ text → tail ≡ codes "=" ++ text
joined_at name [] text separator at is = absurd (cc)
joined_at name (b ∷ bs) text separator at is =
    let rest : bs ≡ text = ap (drop 1) is in
    (λ i. at i ∷ rest i)

pub with_text : (word body name tail text : List ℕ) (separator : ℕ) (setting : OptionName) → word ≡ 45 ∷ 45 ∷ body → SplitsBefore 61 body name tail
    → setting_text setting ≡ name → tail ≡ separator ∷ text → word ≡ option_text setting (Some text)
with_text word body name tail text separator setting is cut named marked =
    is ∙ ap (λ (t : List ℕ). 45 ∷ 45 ∷ t) (cut.whole ∙ ap (λ (t : List ℕ). name ++ t) (joined_at name tail text separator cut.at marked)
    ∙ ap (λ (t : List ℕ). t ++ (codes "=" ++ text)) (sym named)) ∙ sym (after_dashes setting (Some text))

pub unknown : (word body name tail : List ℕ) → word ≡ 45 ∷ 45 ∷ body → SplitsBefore 61 body name tail
    → ((setting : OptionName) → setting_text setting ≡ name → ⊥) → (setting : OptionName) (text : Option (List ℕ)) → word ≡ option_text setting text
    → ⊥
unknown word body name tail is cut none setting text e =
    let bodies : setting_text setting ++ tail_text text ≡ name ++ tail = ap (drop 2) (sym (after_dashes setting text) ∙ sym e ∙ is) ∙ cut.whole in
    none setting (same_cut_text setting name tail text cut.none cut.at bodies).0

pub no_dashes : (word : List ℕ) → ((body : List ℕ) → word ≡ 45 ∷ 45 ∷ body → ⊥)
    → (setting : OptionName) (text : Option (List ℕ)) → word ≡ option_text setting text → ⊥
no_dashes word none setting text e = none (setting_text setting ++ tail_text text) (e ∙ after_dashes setting text)
