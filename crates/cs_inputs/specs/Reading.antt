-- What the functions that parse parts of an input's text return: the contracts of `parse`'s own functions cite it.
use Rattle.std.specs.Prelude.{◌≡◌, ℕ, ◌<◌, ◌≤◌, ◌^◌, ℤ, Bool, false, ◌||◌, ◌==◌, not, IsTrue, List, [], ◌∷◌, ◌++◌}
use Rattle.std.specs.Prelude.{Option, Result, Ok, Err, MatchOption, codes, length}
use Rattle.std.specs.List.{All, list_all}
use Rattle.std.specs.Fmt.{decimal}
use Rattle.std.specs.Str.Parse.{digits_value}
use Rattle.cs_inputs.specs.declared.path.Root.{Root}
use Rattle.cs_inputs.specs.declared.refusal.PathRefusal.{PathRefusal}
use Rattle.cs_inputs.specs.declared.refusal.PathRefusal.TheVariants.{BadPath, BadNumber, TooWide, Memory}
use Rattle.cs_inputs.specs.PathText.{root_text, cells_text, HasRootText}
use Rattle.cs_inputs.specs.InputText.{AreDigits, SpellsNumber, IsInputNumber}

-- a text is empty or begins with the separator
abbrev pub IsEmptyOrAt : ℕ → List ℕ → Type 0
IsEmptyOrAt separator [] = Unit {0}
IsEmptyOrAt separator (b ∷ bs) = b ≡ separator

-- a text split before its first separator; the second part is empty if there is none
pub record SplitsBefore (separator : ℕ) (text before following : List ℕ) : Type 0 where
  pub whole : text ≡ before ++ following
  pub none : IsTrue (list_all (λ b. not (b == separator)) before)
  pub at : IsEmptyOrAt separator following

-- the result satisfies a predicate, or nothing does
abbrev pub Finds : {X : Type 0} → (X → Type 0) → Option X → Type 0
Finds P found = MatchOption found ((x : _) → P x → ⊥) P

-- the result satisfies a predicate; or nothing does, and the path is bad; or memory ran out
abbrev pub Reads : {X : Type 0} → (X → Type 0) → Result X PathRefusal → Type 0
Reads P (Ok x) = P x
Reads P (Err BadPath) = (x : _) → P x → ⊥
Reads P (Err BadNumber) = ⊥
Reads P (Err TooWide) = ⊥
Reads P (Err Memory) = Unit {0}

-- whether there are bytes, and the first isn't `0` unless it is the only one
abbrev pub has_no_leading_zero : List ℕ → Bool
has_no_leading_zero [] = false
has_no_leading_zero (b ∷ bs) = not (b == 48) || (length bs == 0)

-- a 64-bit number and its text
pub record IsDecimalOf (text : List ℕ) (number : ℕ) : Type 0 where
  pub fits : number < 2 ^ 64
  pub is : decimal number ≡ text

-- the root has this text
pub record IsRootOf (text : List ℕ) (root : Root) : Type 0 where
  pub has_text : HasRootText root
  pub is : root_text root ≡ text

-- the cells have this text
pub record AreCellsOf (text : List ℕ) (cells : List ℕ) : Type 0 where
  pub fit : All (λ offset. offset < 2 ^ 64) cells
  pub is : cells_text cells ≡ text

-- a text begins with the text of a cell
pub record BeginsWithCell (text : List ℕ) (offset : ℕ) (following : List ℕ) : Type 0 where
  pub fits : offset < 2 ^ 64
  pub whole : text ≡ codes "@" ++ decimal offset ++ following
  pub at : IsEmptyOrAt 64 following

-- the number that a text represents, or why it represents none
abbrev pub IsNumberRead : List ℕ → Result ℤ PathRefusal → Type 0
IsNumberRead text (Ok number) = SpellsNumber text number × IsInputNumber number
IsNumberRead text (Err BadPath) = ⊥
IsNumberRead text (Err BadNumber) = (number : ℤ) → SpellsNumber text number → ⊥
IsNumberRead text (Err TooWide) = (number : ℤ) × SpellsNumber text number × (IsInputNumber number → ⊥)
IsNumberRead text (Err Memory) = ⊥

-- the value of digits, or why they have no 64-bit value
abbrev pub IsMagnitudeRead : List ℕ → Result ℕ PathRefusal → Type 0
IsMagnitudeRead text (Ok magnitude) = AreDigits text × (magnitude ≡ digits_value 10 text) × (magnitude < 2 ^ 64)
IsMagnitudeRead text (Err BadPath) = ⊥
IsMagnitudeRead text (Err BadNumber) = AreDigits text → ⊥
IsMagnitudeRead text (Err TooWide) = AreDigits text × (2 ^ 64 ≤ digits_value 10 text)
IsMagnitudeRead text (Err Memory) = ⊥
