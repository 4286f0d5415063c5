-- The parts of a suspect, stated for every solution; there is exactly one.
use Rattle.std.specs.Prelude.{◌≡◌, ℕ, ℤ, pos, true, false, List, map}
use Rattle.std.specs.FinMap as finite
use Rattle.cs_inputs.specs.declared.path.Path.{Path}
use Rattle.cs_inputs.specs.Inputs.{number_at}
use Rattle.cs_terms.specs.declared.symbol.SymName.{SymName}
use Rattle.cs_terms.specs.Term.{Valuation}
use Rattle.cs_constraints.specs.Constraints.{Sets}
use Rattle.cs_state.specs.declared.asked.Asked.{Asked}
use Rattle.cs_state.specs.Naming.{Naming}
use Rattle.cs_state.specs.Valuations.{Guessed, is_input_at, input_of}
use Rattle.cs_suspect_types.specs.declared.suspect.SuspectedGuess.{SuspectedGuess}
use Rattle.cs_suspects.specs.Suspected.{IsSolution, suspected}

-- the number of a symbol
abbrev pub IsNumberOf : Sets → ℕ → ℤ → Type 0
IsNumberOf sets sym number = (v : Valuation) → IsSolution sets v → number ≡ v sym

-- inputs in which each path has the number of that one of these symbols which represents it
abbrev pub AreInputsOf : Sets → List SymName → List (Path × ℤ) → Type 0
AreInputsOf sets syms inputs = (v : Valuation) → IsSolution sets v → (path : Path) → number_at inputs path ≡ input_of syms v path

-- if the symbol represents the input at a path, the path has the symbol's number instead of 0
pub record IsPut (name : SymName) (number : ℤ) (before after : List (Path × ℤ)) : Type 0 where
  pub here : (path : Path) → is_input_at path name ≡ true → number_at before path ≡ pos 0 → number_at after path ≡ number
  pub elsewhere : (path : Path) → is_input_at path name ≡ false → number_at after path ≡ number_at before path

-- a guess with its symbol's number
abbrev pub IsGuessOf : Naming → Sets → Asked → SuspectedGuess → Type 0
IsGuessOf names sets asked guess = (v : Valuation) → IsSolution sets v → guess ≡ suspected names v asked

-- all guesses, in the order of their events
abbrev pub AreGuessesOf : Naming → Sets → Guessed → List SuspectedGuess → Type 0
AreGuessesOf names sets guessed guesses = (v : Valuation) → IsSolution sets v → guesses ≡ map (suspected names v) (finite.values guessed)
