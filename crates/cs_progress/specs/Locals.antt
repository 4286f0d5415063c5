-- States of integer functions: their pointers are the places of locals of the current frame.
use Rattle.std.specs.Prelude.{◌≡◌, ◌<◌, ℕ, Bool, true, List, [], Some, All, slice_get}
use Rattle.cs_ast.specs.TypedProgram.{TypedProgram}
use Rattle.cs_cfg.specs.IntegerCode.{count_of_locals}
use Rattle.cs_terms.specs.declared.symbol.Sym.{Sym}
use Rattle.cs_terms.specs.declared.term.Lin.{Lin}
use Rattle.cs_regions.specs.declared.base.Base.{Base}
use Rattle.cs_regions.specs.declared.base.Base.TheVariants.{Local}
use Rattle.cs_store.specs.declared.value.Value.{Value}
use Rattle.cs_store.specs.declared.value.Value.TheVariants as value
use Rattle.cs_store.specs.declared.value.Fill as store
use Rattle.cs_store.specs.declared.value.Fill.TheVariants.{Unset}
use Rattle.cs_store.specs.declared.value.Binding.{Binding}
use Rattle.cs_store.specs.declared.value.Binding.TheVariants.{Direct, Fill}
use Rattle.cs_store.specs.Held.{Regions, held}
use Rattle.cs_state.specs.declared.frame.Frame.{Frame}
use Rattle.cs_state.specs.declared.state.State.{State}
use Rattle.cs_state.specs.declared.temporary.Temporary.{Temporary}
use Rattle.cs_state.specs.declared.temporary.Temporary.TheVariants as temporary
use Rattle.cs_state.specs.ReadCells.{read_at}

-- no offset of a base region was filled, except with unset
abbrev pub IsUnfilled : Regions → ℕ → ℕ → Type 0
IsUnfilled regions base offset = (fill : store.Fill) → held regions base offset ≡ Fill fill → fill ≡ Unset

-- the value held there then: what was bound, else unset
abbrev pub value_held : Binding → Value
value_held (Direct value) = value
value_held (Fill fill) = value.Unset

-- a base region is one of the first `count` locals of a frame
pub record IsLocalOf (bases : List Base) (frame count base : ℕ) : Type 0 where
  pub declaration : ℕ
  pub early : declaration < count
  pub named : slice_get bases base ≡ Some (Local frame declaration)

-- a term is a constant, or over a known symbol
abbrev pub IsOver : (ℕ → Bool) → Lin → Type 0
IsOver known term = (symbol : Sym) → term.sym ≡ Some symbol → known symbol.0 ≡ true

-- a value that is no pointer, or points to such a local; its term is over a known symbol
abbrev pub PointsToLocal : List Base → (ℕ → Bool) → ℕ → ℕ → Value → Type 0
PointsToLocal bases known frame count (value.Number term) = IsOver known term
PointsToLocal bases known frame count value.Null = Unit {0}
PointsToLocal bases known frame count (value.At base offset) = IsLocalOf bases frame count base × IsOver known offset
PointsToLocal bases known frame count (value.Start base offset) = ⊥
PointsToLocal bases known frame count value.Unset = Unit {0}

-- a temporary that is such a value, or nothing: it is no struct
abbrev pub PointToLocals : List Base → (ℕ → Bool) → ℕ → ℕ → Temporary → Type 0
PointToLocals bases known frame count (temporary.Scalar value) = PointsToLocal bases known frame count value
PointToLocals bases known frame count (temporary.Whole values) = ⊥
PointToLocals bases known frame count temporary.Nothing = Unit {0}

module _ (program : TypedProgram) (bases : List Base) (known : ℕ → Bool) where
  -- a value may occur in the frame
  abbrev pub IsIn : Frame → Value → Type 0
  IsIn frame value = PointsToLocal bases known frame.number (count_of_locals program frame.spot.function) value

  abbrev pub AreIn : Frame → Temporary → Type 0
  AreIn frame temporary = PointToLocals bases known frame.number (count_of_locals program frame.spot.function) temporary

  -- there is one frame, and its pointers, in temporaries, in memory and in the entry's result, point to its locals, none of which was filled, except
  -- with unset. The symbols that the state mentions are known, also those of cells that were read from inputs
  pub record HasLocalsAlone (state : State) : Type 0 where
    pub callers : state.callers ≡ []
    pub answers : All (IsOver known) state.answers
    pub temporaries : All (AreIn state.frame) state.frame.temporaries
    pub stored : (base offset : ℕ) (value : Value) → held state.store base offset ≡ Direct value → IsIn state.frame value
    pub filled : (base offset : ℕ) → IsUnfilled state.store base offset
    pub result : (value : Value) → state.result ≡ Some value → IsIn state.frame value
    pub read : (base offset : ℕ) (symbol : Sym) → read_at state.read base offset ≡ Some symbol → known symbol.0 ≡ true

-- in each state with pointers to locals only, the symbol of a term is known
abbrev pub IsOverKnown : State → Lin → Type 0
IsOverKnown state term =
    (program : TypedProgram) (bases : List Base) (known : ℕ → Bool) → HasLocalsAlone program bases known state → IsOver known term

-- in each such state, a value may occur in the frame
abbrev pub MayBeIn : State → Value → Type 0
MayBeIn state value =
    (program : TypedProgram) (bases : List Base) (known : ℕ → Bool) → HasLocalsAlone program bases known state
    → IsIn program bases known state.frame value

-- in each such state, all values of a temporary may occur in the frame
abbrev pub MayAllBeIn : State → Temporary → Type 0
MayAllBeIn state temporary =
    (program : TypedProgram) (bases : List Base) (known : ℕ → Bool) → HasLocalsAlone program bases known state
    → AreIn program bases known state.frame temporary
