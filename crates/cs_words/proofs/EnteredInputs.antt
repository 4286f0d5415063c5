-- Inputs are entered word by word, and in only one way: for `inputs_of` and `replay_words`.
use Rattle.std.proofs.Common.{◌≡◌, ℕ, ◌+◌, List, [], ◌∷◌, ◌++◌, length, ap, sym, ◌∙◌, refl, subst, append_assoc}
use Rattle.std.specs.Prelude.{ℤ}
use Rattle.std.specs.BTreeMap.{insert_entry}
use Rattle.std.proofs.lemmas.List.{append-nil}
use Rattle.cs_inputs.specs.declared.path.Path.{Path}
use Rattle.cs_inputs.specs.InputText.{SpellsInput, SpellsNumber, NamesPath}
use Rattle.cs_inputs.specs.PathOrder.{path_order}
use Rattle.cs_inputs.specs.PathText.{path_text}
use Rattle.cs_inputs.proofs.InputTexts.{same_named}
use Rattle.cs_inputs.proofs.NumberTexts.{same_value}
use Rattle.cs_inputs.proofs.PathTexts.{without_equals}
use Rattle.cs_words.specs.Meaning.{AreEntered}
use Rattle.cs_words.specs.Scan.{IsNoInputAt}

-- ---- a text is that of one input
named : (text : List ℕ) (path : Path) (number : ℤ) → (h : SpellsInput text path number) → NamesPath text path h.spelling
named text path number h = record {
  before = path_text path;
  cut = record { whole = h.is; first = without_equals path h.has_text };
  names = record { has_text = h.has_text; is = refl };
}

pub same_input : (text : List ℕ) (one other : Path) (m n : ℤ) → SpellsInput text one m → SpellsInput text other n → (one ≡ other) × (m ≡ n)
same_input text one other m n r s =
    let names = same_named text one other r.spelling s.spelling (named text one m r) (named text other n s) in
    (names.0, same_value s.spelling m n (subst (λ (t : List ℕ). SpellsNumber t m) names.1 r.spells) s.spells)

-- ---- words after other words
pub entered_more : (before : List (Path × ℤ)) (words : List (List ℕ)) (middle : List (Path × ℤ)) (word : List ℕ) (path : Path) (number : ℤ)
    → AreEntered before words middle → SpellsInput word path number
    → AreEntered before (words ++ word ∷ []) (insert_entry path_order middle path number)
entered_more before [] middle word path number h spells =
    (path, number, spells, ap (λ (entries : List (Path × ℤ)). insert_entry path_order entries path number) h)
entered_more before (w ∷ ws) middle word path number h spells =
    (h.0, h.1, h.2, entered_more (insert_entry path_order before h.0 h.1) ws middle word path number h.3 spells)

pub entered_at : (before : List (Path × ℤ)) (words : List (List ℕ)) (word : List ℕ) (more : List (List ℕ)) (after : List (Path × ℤ))
    → AreEntered before (words ++ word ∷ more) after → (path : Path) × (number : ℤ) × SpellsInput word path number
entered_at before [] word more after h = (h.0, h.1, h.2)
entered_at before (w ∷ ws) word more after h = entered_at (insert_entry path_order before h.0 h.1) ws word more after h.3

-- ---- words are entered in only one way
pub same_entered : (words : List (List ℕ)) (before one other : List (Path × ℤ)) → AreEntered before words one → AreEntered before words other
    → one ≡ other
same_entered [] before one other h k = h ∙ sym k
same_entered (w ∷ ws) before one other h k =
    let same = same_input w h.0 k.0 h.1 k.1 h.2 k.2 in
    let next : insert_entry path_order before h.0 h.1 ≡ insert_entry path_order before k.0 k.1 =
    (λ i. insert_entry path_order before (same.0 i) (same.1 i)) in
    same_entered ws (insert_entry path_order before k.0 k.1) one other (subst (λ (entries : List (Path × ℤ)). AreEntered entries ws one) next h.3) k.3

-- ---- the scan of inputs
-- these inputs are entered so far, and the rest follows
pub record AreEnteredTo (words : List (List ℕ)) (inputs : List (Path × ℤ)) (rest : List (List ℕ)) : Type 0 where
  pub done : List (List ℕ)
  pub whole : words ≡ done ++ rest
  pub entered : AreEntered [] done inputs

pub none_entered : (words : List (List ℕ)) (inputs : List (Path × ℤ)) → inputs ≡ [] → AreEnteredTo words inputs words
none_entered words inputs none = record { done = []; whole = refl; entered = none }

pub one_more : (words : List (List ℕ)) (before after : List (Path × ℤ)) (rest : List (List ℕ)) (word : List ℕ) (following : List (List ℕ))
    (path : Path) (number : ℤ) → AreEnteredTo words before rest → rest ≡ word ∷ following → SpellsInput word path number
    → after ≡ insert_entry path_order before path number → AreEnteredTo words after following
one_more words before after rest word following path number to is spells e = record {
  done = to.done ++ word ∷ [];
  whole = to.whole ∙ ap (λ (w : List (List ℕ)). to.done ++ w) is ∙ sym (append_assoc to.done (word ∷ []) following);
  entered = subst (λ (entries : List (Path × ℤ)). AreEntered [] (to.done ++ word ∷ []) entries) (sym e)
      (entered_more [] to.done before word path number to.entered spells);
}

pub all_entered : (words : List (List ℕ)) (inputs : List (Path × ℤ)) (rest : List (List ℕ)) → AreEnteredTo words inputs rest → rest ≡ []
    → AreEntered [] words inputs
all_entered words inputs rest to none =
    subst (λ (w : List (List ℕ)). AreEntered [] w inputs) (sym (to.whole ∙ ap (λ (w : List (List ℕ)). to.done ++ w) none ∙ append-nil to.done))
    to.entered

pub no_input : (words : List (List ℕ)) (inputs : List (Path × ℤ)) (rest : List (List ℕ)) (word : List ℕ) (following : List (List ℕ))
    (total number : ℕ) → AreEnteredTo words inputs rest → rest ≡ word ∷ following → number + length rest ≡ total + 1
    → ((path : Path) (n : ℤ) → SpellsInput word path n → ⊥) → IsNoInputAt words total number
no_input words inputs rest word following total number to is counts none = record {
  before = to.done;
  word = word;
  following = following;
  whole = to.whole ∙ ap (λ (w : List (List ℕ)). to.done ++ w) is;
  counts = ap (λ (w : List (List ℕ)). number + length w) (sym is) ∙ counts;
  inputs = inputs;
  entered = to.entered;
  none = none;
}
