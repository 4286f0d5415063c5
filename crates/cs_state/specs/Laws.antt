-- What holds for all tables: the input at a path has the number of its symbol, and an object the number of its base region.
use Rattle.std.specs.Prelude.{◌≡◌, ℕ, List, Some, slice_get}
use Rattle.cs_inputs.specs.declared.path.Path.{Path}
use Rattle.cs_terms.specs.declared.symbol.SymName.{SymName}
use Rattle.cs_terms.specs.declared.symbol.SymName.TheVariants.{Input}
use Rattle.cs_terms.specs.Table.{HasEachOnce}
use Rattle.cs_terms.specs.Term.{Valuation}
use Rattle.cs_regions.specs.declared.base.Base.{Base}
use Rattle.cs_regions.specs.Numbering.{IsNumbered}
use Rattle.cs_events.specs.Objects.{Object}
use Rattle.cs_state.specs.Valuations.{input_of}
use Rattle.cs_state.specs.Cells.{object_of}
use Rattle.cs_state.specs.Objects.{number_of}

-- in the run of a valuation, the input at a path is the number of the symbol that represents it
abbrev pub InputsAreTheirSymbols : Type 0
InputsAreTheirSymbols = (names : List SymName) (valuation : Valuation) (sym : ℕ) (path : Path) → HasEachOnce names
    → slice_get names sym ≡ Some (Input path) → input_of names valuation path ≡ valuation sym

-- the object of a base region has the base region's number
abbrev pub ObjectsAreNumbered : Type 0
ObjectsAreNumbered = (bases : List Base) (number : ℕ) (base : Base) → IsNumbered bases → slice_get bases number ≡ Some base
    → number_of bases (object_of base) ≡ Some number

-- if an object has a number, then the base region with this number is the object's
abbrev pub NumbersAreOfObjects : Type 0
NumbersAreOfObjects = (bases : List Base) (object : Object) (number : ℕ) → number_of bases object ≡ Some number
    → (base : Base) × (slice_get bases number ≡ Some base) × (object_of base ≡ object)
