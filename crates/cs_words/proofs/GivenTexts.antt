-- Lists of settings: which texts are given to which options, and that none is given twice.
use Rattle.std.proofs.Common.{◌≡◌, ℕ, Bool, true, false, List, [], ◌∷◌, ◌++◌, Option, Some, None, ap, sym, ◌∙◌, refl}
use Rattle.std.specs.Prelude.{if◌then◌else◌}
use Rattle.cs_words.specs.Options.{Verb, OptionName, takes}
use Rattle.cs_words.specs.Settings.{Given, is_same, text_of, AreTaken, AreDifferent}
use Rattle.cs_words.proofs.OptionTexts.{same_place, is_same-itself}

abbrev pub first_some : Option (List ℕ) → Option (List ℕ) → Option (List ℕ)
first_some None other = other
first_some (Some text) other = Some text

choose : (test : Bool) (text : List ℕ) (one other both : Option (List ℕ)) → both ≡ first_some one other
    → (if test then Some text else both) ≡ first_some (if test then Some text else one) other
choose true text one other both e = refl
choose false text one other both e = e

pub text_append : (setting : OptionName) (given later : List Given)
    → text_of setting (given ++ later) ≡ first_some (text_of setting given) (text_of setting later)
text_append setting [] later = refl
text_append setting (g ∷ gs) later =
    choose (is_same setting g.setting) g.text (text_of setting gs) (text_of setting later) (text_of setting (gs ++ later)) (text_append setting gs later)

own_text : (g : Given) (later : List Given) → text_of g.setting (g ∷ later) ≡ Some g.text
own_text g later = ap (λ (b : Bool). if b then Some g.text else text_of g.setting later) (is_same-itself g.setting)

-- an option that wasn't given before has the text given here
pub text_here : (g : Given) (given later : List Given) → text_of g.setting given ≡ None → text_of g.setting (given ++ g ∷ later) ≡ Some g.text
text_here g given later none = text_append g.setting given (g ∷ later)
    ∙ ap (λ (t : Option (List ℕ)). first_some t (text_of g.setting (g ∷ later))) none ∙ own_text g later

never_none : (reported : Option (List ℕ)) (text : List ℕ) → first_some reported (Some text) ≡ None → ⊥
never_none None text e = absurd (cc)
never_none (Some reported) text e = absurd (cc)

given_somewhere : (g : Given) (given later : List Given) → text_of g.setting (given ++ g ∷ later) ≡ None → ⊥
given_somewhere g given later none =
    never_none (text_of g.setting given) g.text (ap (first_some (text_of g.setting given)) (sym (own_text g later))
    ∙ sym (text_append g.setting given (g ∷ later)) ∙ none)

-- an option that was given before isn't given here
same_first : (g h : Given) (given later : List Given) (same : Bool) → is_same g.setting h.setting ≡ same
    → text_of h.setting (given ++ g ∷ later) ≡ None → same ≡ false
same_first g h given later false is none = refl
same_first g h given later true is none =
    let settings : g.setting ≡ h.setting = same_place g.setting h.setting is in
    absurd (given_somewhere g given later (ap (λ (s : OptionName). text_of s (given ++ g ∷ later)) settings ∙ none))

pub not_given : (g : Given) (given later : List Given) → AreDifferent (given ++ g ∷ later) → text_of g.setting given ≡ None
not_given g [] later different = refl
not_given g (h ∷ hs) later different =
    let other : is_same g.setting h.setting ≡ false = same_first g h hs later (is_same g.setting h.setting) refl different.0 in
    ap (λ (b : Bool). if b then Some h.text else text_of g.setting hs) other ∙ not_given g hs later different.1

-- ---- one more setting
branch : (test : Bool) (text : List ℕ) (other : Option (List ℕ)) → (if test then Some text else other) ≡ None → (test ≡ false) × (other ≡ None)
branch true text other e = absurd (cc)
branch false text other e = (refl, e)

other_way : (one other : OptionName) (same : Bool) → is_same other one ≡ same → is_same one other ≡ false → same ≡ false
other_way one other false is differs = refl
other_way one other true is differs =
    let places : other ≡ one = same_place other one is in
    absurd (let h : is_same one one ≡ false = ap (λ (s : OptionName). is_same one s) (sym places) ∙ differs in let k = is_same-itself one in cc)

pub different_more : (g : Given) (given : List Given) → AreDifferent given → text_of g.setting given ≡ None → AreDifferent (given ++ g ∷ [])
different_more g [] different none = (refl, tt)
different_more g (h ∷ hs) different none =
    let parts = branch (is_same g.setting h.setting) h.text (text_of g.setting hs) none in
    let other : is_same h.setting g.setting ≡ false = other_way g.setting h.setting (is_same h.setting g.setting) refl parts.0 in
    let last : text_of h.setting (g ∷ []) ≡ None = ap (λ (b : Bool). if b then Some g.text else None) other in (
      text_append h.setting hs (g ∷ []) ∙ ap (λ (t : Option (List ℕ)). first_some t (text_of h.setting (g ∷ []))) different.0 ∙ last,
      different_more g hs different.1 parts.1,
    )

pub taken_more : (verb : Verb) (g : Given) (given : List Given) → AreTaken verb given → takes verb g.setting ≡ true → AreTaken verb (given ++ g ∷ [])
taken_more verb g [] taken takes = (takes, tt)
taken_more verb g (h ∷ hs) taken takes = (taken.0, taken_more verb g hs taken.1 takes)

pub taken_here : (verb : Verb) (g : Given) (given later : List Given) → AreTaken verb (given ++ g ∷ later) → takes verb g.setting ≡ true
taken_here verb g [] later taken = taken.0
taken_here verb g (h ∷ hs) later taken = taken_here verb g hs later taken.1

-- the text that an option has with one more setting
pub text_more : (setting : OptionName) (g : Given) (given : List Given) → is_same setting g.setting ≡ false
    → text_of setting (given ++ g ∷ []) ≡ text_of setting given
text_more setting g given other =
    text_append setting given (g ∷ []) ∙ ap (λ (b : Bool). first_some (text_of setting given) (if b then Some g.text else None)) other
    ∙ kept (text_of setting given)
  where
    kept : (reported : Option (List ℕ)) → first_some reported None ≡ reported
    kept None = refl
    kept (Some text) = refl
