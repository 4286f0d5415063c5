-- The suspect of an end: the run under the numbers of least absolute value that the end's symbols may have, with the notes about its guesses.
use Rattle.std.specs.Prelude.{◌≡◌, ℕ, pos, List, map, Option, None, Some, option_map, slice_get, Contains}
use Rattle.std.specs.FinMap as finite
use Rattle.cs_inputs.specs.declared.path.Path.{Path}
use Rattle.cs_inputs.specs.Inputs.{number_at}
use Rattle.cs_ranges.specs.declared.range_set.Interval.{Interval}
use Rattle.cs_ranges.specs.RangeSet.{IsLeastAbs}
use Rattle.cs_terms.specs.declared.symbol.Sym.{Sym}
use Rattle.cs_terms.specs.declared.symbol.SymName.{SymName}
use Rattle.cs_terms.specs.Term.{Valuation}
use Rattle.cs_constraints.specs.Constraints.{Sets, set_of}
use Rattle.cs_state.specs.declared.asked.Asked.{Asked}
use Rattle.cs_state.specs.Naming.{Naming}
use Rattle.cs_state.specs.Valuations.{input_of, guess_of}
use Rattle.cs_explored.specs.declared.explored.End.{End}
use Rattle.cs_suspect_types.specs.declared.suspect.OperandRange.{OperandRange}
use Rattle.cs_suspect_types.specs.declared.suspect.Suspect.{Suspect}
use Rattle.cs_suspect_types.specs.declared.suspect.SuspectedGuess.{SuspectedGuess}
use Rattle.cs_findings.specs.GoodFindings.{IsFinding}

-- each declared symbol has the number of least absolute value that it may have, and all others have 0
pub record IsSolution (sets : Sets) (v : Valuation) : Type 0 where
  pub declared : (sym : ℕ) (set : List Interval) → set_of sets sym ≡ Some set → IsLeastAbs set (v sym)
  pub others : (sym : ℕ) → set_of sets sym ≡ None → v sym ≡ pos 0

-- the range of an operand's symbol, if the operand has a symbol with a name
abbrev pub named_range : Interval → SymName → OperandRange
named_range ends name = record { symbol = name; least = ends.low; greatest = ends.high }

abbrev pub range_of : Naming → Option Sym → Interval → Option OperandRange
range_of names None ends = None
range_of names (Some sym) ends = option_map (named_range ends) (slice_get names.syms sym.0)

-- the suspected guess for a noted one
abbrev pub suspected : Naming → Valuation → Asked → SuspectedGuess
suspected names v asked = record {
  guess = guess_of v asked;
  left = range_of names asked.left.sym asked.ends.left;
  right = range_of names asked.right.sym asked.ends.right;
}

-- a suspect for an end
pub record IsSuspectOf (names : Naming) (end : End) (suspect : Suspect) : Type 0 where
  pub v : Valuation
  pub solution : IsSolution end.state.value.constraints v
  pub what : suspect.what ≡ end.outcome
  pub events : suspect.events ≡ end.state.value.counters.events
  pub inputs : (path : Path) → number_at suspect.inputs path ≡ input_of names.syms v path
  pub guesses : suspect.guesses.items ≡ map (suspected names v) (finite.values end.state.value.asked)

-- each suspect is one for an end
abbrev pub AreSuspectsOf : Naming → List End → List Suspect → Type 0
AreSuspectsOf names ends suspects = (suspect : Suspect) → Contains suspects suspect → (end : End) × Contains ends end × IsSuspectOf names end suspect

-- each fault and each budget that is met at an end is suspected
abbrev pub AreAllSuspected : List End → List Suspect → Type 0
AreAllSuspected ends suspects = (end : End) → Contains ends end → IsFinding end.outcome
    → (suspect : Suspect) × Contains suspects suspect × (suspect.what ≡ end.outcome)
