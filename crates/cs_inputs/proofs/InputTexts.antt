-- The result for the text of an input, and that it is unique: for `parse`.
use Rattle.std.proofs.Common.{◌≡◌, ℕ, List, [], ◌∷◌, ◌++◌, length, drop, ap, sym, ◌∙◌, refl, subst, append_assoc, inl, inr, arith}
use Rattle.std.specs.Prelude.{◌⊎◌, ℤ, Result, Ok, Err, IfErr, IsErrAnd, codes}
use Rattle.std.specs.Fmt.{signed_decimal}
use Rattle.cs_inputs.specs.declared.path.Path.{Path}
use Rattle.cs_inputs.specs.declared.refusal.PathRefusal.{PathRefusal}
use Rattle.cs_inputs.specs.declared.refusal.PathRefusal.TheVariants.{BadPath, BadNumber, TooWide, Memory}
use Rattle.cs_inputs.specs.PathText.{path_text, HasText}
use Rattle.cs_inputs.specs.InputText.{IsTextOf, IsCutAtFirst, NamesPath, SpellsNumber, SpellsInput, IsInputNumber, IsRefusedFor}
use Rattle.cs_inputs.specs.Reading.{SplitsBefore, Reads, IsNumberRead}
use Rattle.cs_inputs.proofs.NumberTexts.{same_value, spelled}
use Rattle.cs_inputs.proofs.PathTexts.{same_path, without_equals}
use Rattle.cs_inputs.proofs.RootTexts.{no_tail}
use Rattle.cs_inputs.proofs.Splits.{same_cut}

-- ---- the first `=`
as_split : (text before following : List ℕ) → IsCutAtFirst text before following → SplitsBefore 61 text before (61 ∷ following)
as_split text before following cut = record { whole = cut.whole ∙ append_assoc before (codes "=") following; none = cut.first; at = refl }

-- a text begins with the text of at most one path, and so has one rest
pub same_named : (text : List ℕ) (one other : Path) (b d : List ℕ) → NamesPath text one b → NamesPath text other d → (one ≡ other) × (b ≡ d)
same_named text one other b d r s =
    let cut = same_cut 61 text r.before s.before (61 ∷ b) (61 ∷ d) (as_split text r.before b r.cut) (as_split text s.before d s.cut) in
    (same_path s.before one other (subst (λ (t : List ℕ). IsTextOf t one) cut.0 r.names) s.names, ap (drop 1) cut.1)

-- ---- an input's text has one path and one number
named : (text : List ℕ) (path : Path) (number : ℤ) → (h : SpellsInput text path number) → NamesPath text path h.spelling
named text path number h = record {
  before = path_text path;
  cut = record { whole = h.is; first = without_equals path h.has_text };
  names = record { has_text = h.has_text; is = refl };
}

same_input : (text : List ℕ) (one other : Path) (m n : ℤ) → SpellsInput text one m → SpellsInput text other n → (one ≡ other) × (m ≡ n)
same_input text one other m n r s =
    let names = same_named text one other r.spelling s.spelling (named text one m r) (named text other n s) in
    (names.0, same_value s.spelling m n (subst (λ (t : List ℕ). SpellsNumber t m) names.1 r.spells) s.spells)

-- ---- a text is refused for one reason, and the text of an input for none
not_refused : (text : List ℕ) (path : Path) (number : ℤ) → SpellsInput text path number → (refusal : PathRefusal) → IsRefusedFor refusal text → ⊥
not_refused text path number h BadPath r = r path h.spelling (named text path number h)
not_refused text path number h BadNumber r =
    let names = same_named text path r.0 h.spelling r.1 (named text path number h) r.2 in
    r.3 number (subst (λ (t : List ℕ). SpellsNumber t number) names.1 h.spells)
not_refused text path number h TooWide r =
    let names = same_named text path r.0 h.spelling r.1 (named text path number h) r.3 in
    let value = same_value r.1 number r.2 (subst (λ (t : List ℕ). SpellsNumber t number) names.1 h.spells) r.4 in
    r.5 (subst IsInputNumber value h.within)
not_refused text path number h Memory r = r

one_refusal : (text : List ℕ) (one other : PathRefusal) → IsRefusedFor one text → IsRefusedFor other text → one ≡ other
one_refusal text BadPath BadPath r s = refl
one_refusal text BadPath BadNumber r s = absurd (r s.0 s.1 s.2)
one_refusal text BadPath TooWide r s = absurd (r s.0 s.1 s.3)
one_refusal text BadPath Memory r s = absurd s
one_refusal text BadNumber BadPath r s = absurd (s r.0 r.1 r.2)
one_refusal text BadNumber BadNumber r s = refl
one_refusal text BadNumber TooWide r s = absurd (r.3 s.2 (subst (λ (t : List ℕ). SpellsNumber t s.2) (same_named text s.0 r.0 s.1 r.1 s.3 r.2).1 s.4))
one_refusal text BadNumber Memory r s = absurd s
one_refusal text TooWide BadPath r s = absurd (s r.0 r.1 r.3)
one_refusal text TooWide BadNumber r s = absurd (s.3 r.2 (subst (λ (t : List ℕ). SpellsNumber t r.2) (same_named text r.0 s.0 r.1 s.1 r.3 s.2).1 r.4))
one_refusal text TooWide TooWide r s = refl
one_refusal text TooWide Memory r s = absurd s
one_refusal text Memory other r s = absurd r

-- ---- a right result is the only one
abbrev pub IsRight : List ℕ → Result (Path × ℤ) PathRefusal → Type 0
IsRight text (Ok input) = SpellsInput text input.0 input.1
IsRight text (Err refusal) = IsRefusedFor refusal text ⊎ (refusal ≡ Memory)

pub right_err : (text : List ℕ) (r : Result (Path × ℤ) PathRefusal) → IsRight text r
    → IfErr r (λ refusal. IsRefusedFor refusal text ⊎ (refusal ≡ Memory))
right_err text (Ok input) h = tt
right_err text (Err refusal) h = h

pub accepts : (text : List ℕ) (r : Result (Path × ℤ) PathRefusal) → IsRight text r → (path : Path) (number : ℤ) → SpellsInput text path number
    → (r ≡ Ok (path, number)) ⊎ (r ≡ Err Memory)
accepts text (Ok input) h path number s = let same = same_input text input.0 path input.1 number h s in inl (λ i. Ok (same.0 i, same.1 i))
accepts text (Err refusal) (inl h) path number s = absurd (not_refused text path number s refusal h)
accepts text (Err refusal) (inr h) path number s = inr (ap Err h)

pub refuses : (text : List ℕ) (r : Result (Path × ℤ) PathRefusal) → IsRight text r → (refusal : PathRefusal) → IsRefusedFor refusal text
    → (r ≡ Err refusal) ⊎ (r ≡ Err Memory)
refuses text (Ok input) h refusal s = absurd (not_refused text input.0 input.1 h refusal s)
refuses text (Err other) (inl h) refusal s = inl (ap Err (one_refusal text other refusal h s))
refuses text (Err other) (inr h) refusal s = inr (ap Err h)

pub round_trip : (text : List ℕ) (r : Result (Path × ℤ) PathRefusal) → IsRight text r → (path : Path) (number : ℤ) → HasText path
    → IsInputNumber number → text ≡ path_text path ++ codes "=" ++ signed_decimal number → (r ≡ Ok (path, number)) ⊎ (r ≡ Err Memory)
round_trip text r h path number has within is =
    accepts text r h path number (record { spelling = signed_decimal number; has_text = has; is = is; spells = spelled number within; within = within })

-- ---- the result of `parse` is right
cut_is : (text before following number : List ℕ) (separator : ℕ) → SplitsBefore 61 text before following → following ≡ separator ∷ number
    → IsCutAtFirst text before number
cut_is text before [] number separator cut is = absurd (no_tail separator number (sym is))
cut_is text before (b ∷ bs) number separator cut is =
    let rest : b ∷ bs ≡ 61 ∷ number = ap (λ m. m ∷ bs) cut.at ∙ ap (λ (t : List ℕ). 61 ∷ t) (ap (drop 1) is) in
    record { whole = cut.whole ∙ ap (λ t. before ++ t) rest ∙ sym (append_assoc before (codes "=") number); first = cut.none }

pub path_refused : (text before following number : List ℕ) (separator : ℕ) → SplitsBefore 61 text before following → following ≡ separator ∷ number
    → (refusal : PathRefusal) (r : Result (Path × ℤ) PathRefusal) → Reads {X = Path} (IsTextOf before) (Err refusal) → IsErrAnd r (λ e. e ≡ refusal)
    → IsRight text r
path_refused text before following number separator cut is refusal (Ok input) h e = absurd e
path_refused text before following number separator cut is BadPath (Err r) h e = subst (λ (t : PathRefusal). IsRight text (Err t)) (sym e) (inl none)
  where
    none : (path : Path) (others : List ℕ) → NamesPath text path others → ⊥
    none path others names =
        h path (subst (λ (t : List ℕ). IsTextOf t path)
        (same_cut 61 text names.before before (61 ∷ others) following (as_split text names.before others names.cut) cut).0 names.names)
path_refused text before following number separator cut is BadNumber (Err r) h e = absurd h
path_refused text before following number separator cut is TooWide (Err r) h e = absurd h
path_refused text before following number separator cut is Memory (Err r) h e = inr e

pub number_refused : (text before following number : List ℕ) (separator : ℕ) → SplitsBefore 61 text before following
    → following ≡ separator ∷ number
    → (path : Path) → IsTextOf before path → (refusal : PathRefusal) (r : Result (Path × ℤ) PathRefusal) → IsNumberRead number (Err refusal)
    → IsErrAnd r (λ e. e ≡ refusal) → IsRight text r
number_refused text before following number separator cut is path t refusal (Ok input) h e = absurd e
number_refused text before following number separator cut is path t BadPath (Err r) h e = absurd h
number_refused text before following number separator cut is path t BadNumber (Err r) h e =
    subst (λ (t : PathRefusal). IsRight text (Err t)) (sym e)
    (inl (path, number, record { before = before; cut = cut_is text before following number separator cut is; names = t }, h))
number_refused text before following number separator cut is path t TooWide (Err r) h e =
    subst (λ (t : PathRefusal). IsRight text (Err t)) (sym e)
    (inl (path, number, h.0, record { before = before; cut = cut_is text before following number separator cut is; names = t }, h.1, h.2))
number_refused text before following number separator cut is path t Memory (Err r) h e = absurd h

pub input_is : (text before following number : List ℕ) (separator : ℕ) → SplitsBefore 61 text before following → following ≡ separator ∷ number
    → (path : Path) → IsTextOf before path → (n : ℤ) → SpellsNumber number n × IsInputNumber n → SpellsInput text path n
input_is text before following number separator cut is path t n h = record {
  spelling = number;
  has_text = t.has_text;
  is = (cut_is text before following number separator cut is).whole ∙ ap (λ b. b ++ codes "=" ++ number) (sym t.is);
  spells = h.0;
  within = h.1;
}
