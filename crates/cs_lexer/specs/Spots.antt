-- Positions of bytes in their file. Lines end at a line feed, and columns count bytes from 1.
use Rattle.std.specs.Prelude.{ℕ, ◌+◌, ◌≤◌, true, ◌&&◌, ◌||◌, ◌==◌, List, [], ◌∷◌, if◌then◌else◌}
use Rattle.cs_lexer.specs.declared.spot.Spot.{Spot}

-- the beginning of a line
abbrev pub line_of : ℕ → ℕ → Spot
line_of file line = record { place = record { file = file; line = line; column = 1 }; is_line_start = true }

-- the beginning of the first file
abbrev pub start : Spot
start = line_of 0 1

-- the next column of the line, which is still at its start after spaces and tabs
abbrev pub column_on : Spot → ℕ → Spot
column_on spot b = record {
  place = record { file = spot.place.file; line = spot.place.line; column = spot.place.column + 1 };
  is_line_start = spot.is_line_start && ((b == 32) || (b == 9));
}

-- the position of the byte after this one
abbrev pub step : Spot → ℕ → Spot
step spot b = if b == 10 then line_of spot.place.file (spot.place.line + 1) else column_on spot b

-- the position of the byte after these
abbrev pub spot_after : Spot → List ℕ → Spot
spot_after spot [] = spot
spot_after spot (b ∷ bytes) = spot_after (step spot b) bytes

-- `count` bytes move a position by at most `count` lines and columns
pub record IsWithin (spot : Spot) (count : ℕ) (later : Spot) : Type 0 where
  pub line : later.place.line ≤ spot.place.line + count
  pub column : later.place.column ≤ spot.place.column + count
