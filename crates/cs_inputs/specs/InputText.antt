-- The text of an input: that of a path, an `=` and that of a number; and why other texts are refused.
use Rattle.std.specs.Prelude.{◌≡◌, ℕ, ◌<◌, ◌≤◌, ◌-◌, ◌^◌, ℤ, pos, ◌-ℤ◌, ◌≤ℤ◌, Bool, ◌&&◌, ◌==◌, not, nat_le}
use Rattle.std.specs.Prelude.{IsTrue, ◌⊎◌, List, ◌++◌, length, codes}
use Rattle.std.specs.List.{list_all}
use Rattle.std.specs.Str.Parse.{digits_value}
use Rattle.cs_inputs.specs.declared.path.Path.{Path}
use Rattle.cs_inputs.specs.declared.refusal.PathRefusal.{PathRefusal}
use Rattle.cs_inputs.specs.declared.refusal.PathRefusal.TheVariants.{BadPath, BadNumber, TooWide, Memory}
use Rattle.cs_inputs.specs.PathText.{path_text, HasText}

-- a decimal digit
abbrev pub is_digit : ℕ → Bool
is_digit b = nat_le 48 b && nat_le b 57

-- one to 39 digits, which may begin with zeros
pub record AreDigits (digits : List ℕ) : Type 0 where
  pub all : IsTrue (list_all is_digit digits)
  pub some : 0 < length digits
  pub few : length digits ≤ 39

-- digits whose value in base ten is the number
pub record AreDigitsOf (digits : List ℕ) (number : ℤ) : Type 0 where
  pub are_digits : AreDigits digits
  pub value : number ≡ pos (digits_value 10 digits)

-- the digits of the number, or a `-` and the digits of its negation
abbrev pub SpellsNumber : List ℕ → ℤ → Type 0
SpellsNumber text number = AreDigitsOf text number ⊎ ((digits : List ℕ) × (text ≡ codes "-" ++ digits) × AreDigitsOf digits (pos 0 -ℤ number))

-- a number that an input may have: some integer type of C holds it
pub record IsInputNumber (number : ℤ) : Type 0 where
  pub from_least : (pos 0 -ℤ pos (2 ^ 63)) ≤ℤ number
  pub to_greatest : number ≤ℤ pos (2 ^ 64 - 1)

-- the path has this text
pub record IsTextOf (text : List ℕ) (path : Path) : Type 0 where
  pub has_text : HasText path
  pub is : path_text path ≡ text

-- the first `=` of a text is between these bytes
pub record IsCutAtFirst (text before following : List ℕ) : Type 0 where
  pub whole : text ≡ before ++ codes "=" ++ following
  pub first : IsTrue (list_all (λ b. not (b == 61)) before)

-- the text before the first `=` is the path's, and these bytes follow
pub record NamesPath (text : List ℕ) (path : Path) (following : List ℕ) : Type 0 where
  pub before : List ℕ
  pub cut : IsCutAtFirst text before following
  pub names : IsTextOf before path

-- the text is that of the path, an `=` and that of the number
pub record SpellsInput (text : List ℕ) (path : Path) (number : ℤ) : Type 0 where
  pub spelling : List ℕ
  pub has_text : HasText path
  pub is : text ≡ path_text path ++ codes "=" ++ spelling
  pub spells : SpellsNumber spelling number
  pub within : IsInputNumber number

-- why a text is refused: there is no `=`, or the text before the first one isn't a path's; the text before it is a path's, but the text
-- after it isn't a number; the number is out of range. That memory ran out is never a reason to refuse a text.
abbrev pub IsRefusedFor : PathRefusal → List ℕ → Type 0
IsRefusedFor BadPath text = (path : Path) (following : List ℕ) → NamesPath text path following → ⊥
IsRefusedFor BadNumber text = (path : Path) × (following : List ℕ) × NamesPath text path following
    × ((number : ℤ) → SpellsNumber following number → ⊥)
IsRefusedFor TooWide text = (path : Path) × (following : List ℕ) × (number : ℤ) × NamesPath text path following × SpellsNumber following number
    × (IsInputNumber number → ⊥)
IsRefusedFor Memory text = ⊥
