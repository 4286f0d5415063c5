-- The text of paths, and the paths that have one.
use Rattle.std.specs.Prelude.{◌≡◌, ℕ, ◌<◌, ◌≤◌, ◌^◌, Bool, false, ◌&&◌, ◌||◌, ◌==◌, nat_le, IsTrue, List, [], ◌∷◌}
use Rattle.std.specs.Prelude.{◌++◌, length, codes}
use Rattle.std.specs.List.{All, list_all}
use Rattle.std.specs.Fmt.{decimal}
use Rattle.cs_inputs.specs.declared.path.Root.{Root}
use Rattle.cs_inputs.specs.declared.path.Root.TheVariants.{Param, Global, Call, Wrote, Malloc}
use Rattle.cs_inputs.specs.declared.path.Path.{Path}

-- a root's text
abbrev pub root_text : Root → List ℕ
root_text (Param name) = name
root_text (Global name) = codes "$" ++ name
root_text (Call call) = codes "call#" ++ decimal call
root_text (Wrote call argument) = codes "call#" ++ decimal call ++ codes "." ++ decimal argument
root_text (Malloc number) = codes "malloc#" ++ decimal number

-- the text of cells: an `@` and the offset, for each
abbrev pub cells_text : List ℕ → List ℕ
cells_text [] = []
cells_text (offset ∷ offsets) = codes "@" ++ decimal offset ++ cells_text offsets

-- a path's text
abbrev pub path_text : Path → List ℕ
path_text path = root_text path.root ++ cells_text path.cells

-- a letter or `_`
abbrev pub is_name_start : ℕ → Bool
is_name_start b = (nat_le 65 b && nat_le b 90) || (nat_le 97 b && nat_le b 122) || (b == 95)

-- a letter, a digit or `_`
abbrev pub is_name_byte : ℕ → Bool
is_name_byte b = is_name_start b || (nat_le 48 b && nat_le b 57)

-- an identifier of C (C11 6.4.2.1)
abbrev pub is_name : List ℕ → Bool
is_name [] = false
is_name (b ∷ bs) = is_name_start b && list_all is_name_byte bs

-- a 64-bit number from 1
pub record IsCount (number : ℕ) : Type 0 where
  pub from_one : 1 ≤ number
  pub fits : number < 2 ^ 64

-- the roots with a text
abbrev pub HasRootText : Root → Type 0
HasRootText (Param name) = IsTrue (is_name name)
HasRootText (Global name) = IsTrue (is_name name)
HasRootText (Call call) = IsCount call
HasRootText (Wrote call argument) = IsCount call × (argument ≤ 400000)
HasRootText (Malloc number) = IsCount number

-- the path of a global, or of what a call wrote, has cells; that of an allocation has none
abbrev pub TakesCells : Root → List ℕ → Type 0
TakesCells (Param name) cells = Unit {0}
TakesCells (Global name) cells = 0 < length cells
TakesCells (Call call) cells = Unit {0}
TakesCells (Wrote call argument) cells = 0 < length cells
TakesCells (Malloc number) cells = cells ≡ []

-- the paths with a text
pub record HasText (path : Path) : Type 0 where
  pub root : HasRootText path.root
  pub takes : TakesCells path.root path.cells
  pub cells : All (λ offset. offset < 2 ^ 64) path.cells
