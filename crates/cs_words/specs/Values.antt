-- The values of options: their texts and their ranges.
use Rattle.std.specs.Prelude.{◌≡◌, ℕ, ◌<◌, ◌≤◌, ◌==◌, Bool, true, false, IsTrue, List, length, map, codes}
use Rattle.std.specs.List.{list_all, slice_split}
use Rattle.std.specs.Str.Parse.{digits_value}
use Rattle.cs_inputs.specs.InputText.{is_digit}
use Rattle.cs_model.specs.declared.kind.Kind.{Kind}
use Rattle.cs_model.specs.Kinds.{kind_name}
pub use Rattle.cs_types.specs.declared.data_model.DataModel.{DataModel}
use Rattle.cs_types.specs.declared.data_model.DataModel.TheVariants.{Lp64, Ilp32}

-- one to nine digits, perhaps with leading zeros, with a value in a range
pub record IsNumberIn (least greatest : ℕ) (text : List ℕ) (number : ℕ) : Type 0 where
  pub digits : IsTrue (list_all is_digit text)
  pub some : 0 < length text
  pub few : length text ≤ 9
  pub value : number ≡ digits_value 10 text
  pub from_least : least ≤ number
  pub to_greatest : number ≤ greatest

-- the values that each budget may have
abbrev pub IsVisits : List ℕ → ℕ → Type 0
IsVisits text number = IsNumberIn 1 1000 text number

abbrev pub IsDepth : List ℕ → ℕ → Type 0
IsDepth text number = IsNumberIn 1 64 text number

abbrev pub IsEvents : List ℕ → ℕ → Type 0
IsEvents text number = IsNumberIn 1 1000000 text number

abbrev pub IsNodes : List ℕ → ℕ → Type 0
IsNodes text number = IsNumberIn 1 200000 text number

abbrev pub IsSplits : List ℕ → ℕ → Type 0
IsSplits text number = IsNumberIn 1 4096 text number

-- the numbers of a generated file
abbrev pub IsSeed : List ℕ → ℕ → Type 0
IsSeed text number = IsNumberIn 0 999999999 text number

abbrev pub IsSize : List ℕ → ℕ → Type 0
IsSize text number = IsNumberIn 0 4000 text number

-- one or more kinds: the parts of the text between its commas are their names
abbrev pub IsKinds : List ℕ → List Kind → Type 0
IsKinds text kinds = slice_split (λ b. b == 44) text ≡ map kind_name kinds

-- the name of an output format
abbrev pub format_text : Bool → List ℕ
format_text true = codes "json"
format_text false = codes "text"

abbrev pub IsFormat : List ℕ → Bool → Type 0
IsFormat text json = format_text json ≡ text

-- a data model's name
abbrev pub model_text : DataModel → List ℕ
model_text Lp64 = codes "lp64"
model_text Ilp32 = codes "ilp32"

abbrev pub IsModel : List ℕ → DataModel → Type 0
IsModel text model = model_text model ≡ text
