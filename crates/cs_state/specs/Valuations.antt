-- The run of a valuation: its inputs are the numbers of the symbols that represent inputs, and its guesses those of the symbols that
-- represent guesses.
use Rattle.std.specs.Prelude.{ℕ, suc, ℤ, pos, Bool, false, List, [], ◌∷◌, map, if◌then◌else◌}
use Rattle.std.specs.FinMap as finite
use Rattle.cs_pmap.specs.Keys.{key_cmp}
use Rattle.cs_types.specs.declared.data_model.DataModel.{DataModel}
use Rattle.cs_inputs.specs.declared.path.Path.{Path}
use Rattle.cs_inputs.specs.PathOrder.{path_order}
use Rattle.cs_terms.specs.declared.symbol.SymName.{SymName}
use Rattle.cs_terms.specs.declared.symbol.SymName.TheVariants.{Input, Guess as GuessAt}
use Rattle.cs_terms.specs.Term.{Valuation}
use Rattle.cs_events.specs.declared.guess.Guess.{Guess}
use Rattle.cs_events.specs.declared.input.InputKind.{InputKind}
use Rattle.cs_events.specs.InputCells.{input_cell}
use Rattle.cs_events.specs.Objects.{Cell, is_equal}
use Rattle.cs_state.specs.declared.asked.Asked.{Asked}

-- whether a symbol with this name represents the input at a path
abbrev pub is_input_at : Path → SymName → Bool
is_input_at path (Input other) = is_equal (path_order path other)
is_input_at path (GuessAt event) = false

-- the number of the input at a path: that of the symbol that represents it, or 0 if none does
abbrev pub input_of : List SymName → Valuation → Path → ℤ
input_of [] valuation path = pos 0
input_of (name ∷ names) valuation path =
    if is_input_at path name then valuation 0 else input_of names (λ symbol. valuation (suc symbol)) path

-- the cell of the input at a path, read as a scalar of a kind
abbrev pub cell_read : DataModel → List SymName → Valuation → Path → InputKind → Cell
cell_read model names valuation path kind = input_cell model path kind (input_of names valuation path)

-- the guesses, keyed by the guessed event and 0
abbrev pub Guessed : Type 0
Guessed = finite.FinMap key_cmp Asked

abbrev pub guess_of : Valuation → Asked → Guess
guess_of valuation asked = record { event = asked.event; number = valuation asked.guess.0 }

abbrev pub guesses_of : Valuation → Guessed → List Guess
guesses_of valuation guessed = map (guess_of valuation) (finite.values guessed)
