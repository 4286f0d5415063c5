-- What is printed of a run as JSON values: its inputs and its guesses, and the values that these consist of.
use Rattle.std.specs.Prelude.{ℕ, ◌^◌, ℤ, pos, negsuc, nat_lt, Bool, List, [], ◌∷◌, map, codes}
use Rattle.std.specs.Prelude.{if◌then◌else◌}
use Rattle.std.specs.Fmt.{signed_decimal}
use Rattle.std.specs.Str.Lossy.{utf8_lossy}
use Rattle.serde_json.specs.Data.{Data, number, unsigned, string, array, object, no_members, member}
use Rattle.serde_json.specs.Find.{of_integer}
use Rattle.serde_json.specs.View.{items_of}
use Rattle.cs_inputs.specs.declared.path.Path.{Path}
use Rattle.cs_inputs.specs.PathText.{path_text}
use Rattle.cs_events.specs.declared.guess.Guess.{Guess}
use Rattle.cs_results.specs.declared.run.Run.{Run}

-- a text. Names of files are UTF-8; bytes that aren't UTF-8 would be replaced by U+FFFD
abbrev pub text : List ℕ → Data
text bytes = string (utf8_lossy bytes)

-- whether a number fits into 64 bits, signed or unsigned
abbrev pub fits : ℤ → Bool
fits (pos n) = nat_lt n (2 ^ 64)
fits (negsuc n) = nat_lt n (2 ^ 63)

-- a number. A wider one, which occurs in no run, would be a text of its digits
abbrev pub integer : ℤ → Data
integer z = if fits z then number (of_integer z) else string (signed_decimal z)

abbrev pub list : List Data → Data
list items = array (items_of items)

-- an input is a pair of its path and its number
abbrev pub input_json : Path × ℤ → Data
input_json input = list (text (path_text input.0) ∷ integer input.1 ∷ [])

abbrev pub inputs_json : List (Path × ℤ) → Data
inputs_json inputs = list (map input_json inputs)

-- another run's guess is a pair of its event and its number
abbrev pub guess_json : Guess → Data
guess_json guess = list (number (unsigned guess.event) ∷ integer guess.number ∷ [])

abbrev pub run_json : Run → Data
run_json run = object (member (codes "guesses") (list (map guess_json run.guesses.items)) (member (codes "inputs") (inputs_json run.inputs) no_members))
