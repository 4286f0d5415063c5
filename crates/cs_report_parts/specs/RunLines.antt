-- What is printed of a run as text: its inputs, its guesses and its steps.
use Rattle.std.specs.Prelude.{ℕ, ℤ, Bool, true, false, Option, Some, None, List, [], ◌∷◌, ◌++◌, map, codes, slice_index_or}
use Rattle.std.specs.List.{flat_map}
use Rattle.std.specs.Fmt.{decimal, signed_decimal}
use Rattle.cs_inputs.specs.declared.path.Path.{Path}
use Rattle.cs_inputs.specs.PathText.{path_text}
use Rattle.cs_ast.specs.declared.place.Place.{Place}
use Rattle.cs_ast.specs.TypedProgram.{TypedProgram, Routine}
use Rattle.cs_model.specs.Places.{place_text}
use Rattle.cs_events.specs.declared.event.Label.{Label}
use Rattle.cs_events.specs.declared.event.Label.TheVariants.{Truth, Branch, Case, Wrap, Look, Offset, Callee, Alloc}
use Rattle.cs_events.specs.declared.guess.Guess.{Guess}

-- the text of lines, with a line feed after each
abbrev pub text_of : List (List ℕ) → List ℕ
text_of lines = flat_map (λ (line : List ℕ). line ++ codes "\n") lines

-- `PATH = N`
abbrev pub input_text : Path × ℤ → List ℕ
input_text input = path_text input.0 ++ codes " = " ++ signed_decimal input.1

-- `guess E = N`
abbrev pub guess_text : Guess → List ℕ
guess_text guess = codes "guess " ++ decimal guess.event ++ codes " = " ++ signed_decimal guess.number

-- the name of a function, by its number
abbrev pub function_name : TypedProgram → ℕ → List ℕ
function_name program number = slice_index_or (map (λ (r : Routine). r.name) program.routines) number []

abbrev pub truth_text : Bool → List ℕ
truth_text true = codes "true"
truth_text false = codes "false"

abbrev pub block_text : Bool → List ℕ
block_text true = codes "a block"
block_text false = codes "null"

-- what a step shows: the branch of a test, the case of a switch, the called function, or the result of an allocation. Other events aren't
-- steps
abbrev pub step_text : TypedProgram → Label → Option (List ℕ)
step_text program (Branch way) = Some (codes "branch " ++ truth_text way)
step_text program (Case number) = Some (codes "case " ++ decimal number)
step_text program (Callee number) = Some (codes "call " ++ function_name program number)
step_text program (Alloc block) = Some (codes "allocation gives " ++ block_text block)
step_text program (Truth holds) = None
step_text program (Wrap quotient) = None
step_text program (Look block) = None
step_text program (Offset offset) = None

-- `step PLACE TEXT`, if there is a text
abbrev pub step_lines : List (List ℕ) → Place → Option (List ℕ) → List (List ℕ)
step_lines files at None = []
step_lines files at (Some text) = (codes "  step " ++ place_text files at ++ codes " " ++ text) ∷ []
