-- How the exploration of an entry begins: its parameters hold any inputs.
use Rattle.std.specs.Prelude.{◌≡◌, ◌≢◌, ◌⊎◌, ◌<◌, ℕ, ℤ, pos, List, [], Option, None, Some, slice_get, replicate, unwrap_or, length}
use Rattle.std.specs.FinMap as finite
use Rattle.cs_pmap.specs.Keys.{key_cmp}
use Rattle.cs_ranges.specs.declared.range_set.Interval.{Interval}
use Rattle.cs_ranges.specs.RangeSet.{contains}
use Rattle.cs_types.specs.declared.data_model.DataModel.{DataModel}
use Rattle.cs_types.specs.Shape.{Shape, integer, pointer}
use Rattle.cs_types.specs.Layout.{HasSmallSizes}
use Rattle.cs_inputs.specs.declared.path.Path.{Path}
use Rattle.cs_inputs.specs.declared.path.Root.TheVariants.{Param}
use Rattle.cs_terms.specs.declared.symbol.Sym.{Sym}
use Rattle.cs_terms.specs.declared.symbol.SymName.TheVariants.{Input}
use Rattle.cs_terms.specs.declared.term.Lin.{Lin}
use Rattle.cs_terms.specs.Term.{Valuation}
use Rattle.cs_constraints.specs.Constraints.{set_of, Fits}
use Rattle.cs_regions.specs.declared.base.Base.TheVariants.{Entry, Local}
use Rattle.cs_model.specs.declared.standing.Standing.TheVariants.{Live}
use Rattle.cs_store.specs.declared.value.Fill.TheVariants.{Unset as UnsetFill}
use Rattle.cs_store.specs.declared.value.Fill as store
use Rattle.cs_store.specs.declared.value.Binding.TheVariants.{Direct, Fill}
use Rattle.cs_store.specs.declared.value.Value.{Value}
use Rattle.cs_store.specs.declared.value.Value.TheVariants as values
use Rattle.cs_store.specs.Held.{held}
use Rattle.cs_ast.specs.TypedProgram.{TypedProgram, Variable}
use Rattle.cs_events.specs.InputCells.{lies_in}
use Rattle.cs_events.specs.Operations.{numbers_of, TRUTHS}
use Rattle.cs_meaning.specs.Types.{element_of}
use Rattle.cs_meaning.specs.Memory.{start_extent}
use Rattle.cs_meaning.specs.Machine.{routine_of}
use Rattle.cs_meaning.specs.Steps.{parameter_path, parameters_of}
use Rattle.cs_cfg.specs.Graph.{Code, Flow, no_flow, flow_of}
use Rattle.cs_cfg.specs.CodeSteps.{code_started}
use Rattle.cs_state.specs.declared.block.Block.{Block}
use Rattle.cs_state.specs.declared.block.TypeNumber.{TypeNumber}
use Rattle.cs_state.specs.declared.frame.Frame.{Frame}
use Rattle.cs_state.specs.declared.state.State.{State}
use Rattle.cs_state.specs.Naming.{Naming}
use Rattle.cs_state.specs.Valuations.{input_of}
use Rattle.cs_state.specs.ReadCells.{read_at}
use Rattle.cs_state.specs.Cells.{block_of}
use Rattle.cs_state.specs.Writes.{with_constraints, with_blocks, with_memory}
use Rattle.cs_state.specs.Meaning.{meaning}

-- the types that the variables point to have sizes within the bounds
abbrev pub HaveSizes : TypedProgram → List Variable → Type 0
HaveSizes program variables = (number : ℕ) (v : Variable) (target : Shape) → slice_get variables number ≡ Some v → v.ty ≡ pointer target
    → HasSmallSizes program.model program.table target

-- the same of a type
abbrev pub HasSizes : TypedProgram → Shape → Type 0
HasSizes program shape = (target : Shape) → shape ≡ pointer target → HasSmallSizes program.model program.table target

-- no two variables have the same name
abbrev pub DifferInName : List Variable → Type 0
DifferInName variables = (one other : ℕ) (v w : Variable) → slice_get variables one ≡ Some v → slice_get variables other ≡ Some w
    → v.name ≡ w.name
    → one ≡ other

-- a type is a pointer type
abbrev pub IsPointer : Shape → Type 0
IsPointer shape = (target : Shape) × (shape ≡ pointer target)

-- the path of a parameter with a name
abbrev pub path_of : List ℕ → Path
path_of name = record { root = Param name; cells = [] }

-- the first frame of a run, at the beginning of a function
abbrev pub frame_in : ℕ → Flow → Frame
frame_in entry flow = record {
  number = 0;
  spot = record { function = entry; block = flow.entry; operation = 0 };
  temporaries = [];
  visits = replicate flow.counted_points 0;
}

-- nothing is known, and nothing has happened
pub record IsFresh (code : Code) (model : DataModel) (entry : ℕ) (state : State) : Type 0 where
  pub model_is : state.model ≡ model
  pub frame : state.frame ≡ frame_in entry (unwrap_or (flow_of code entry) no_flow)
  pub callers : state.callers ≡ []
  pub store : (base offset : ℕ) → held state.store base offset ≡ Fill UnsetFill
  pub blocks : state.blocks ≡ finite.empty
  pub read : (base offset : ℕ) → read_at state.read base offset ≡ None
  pub constraints : (sym : ℕ) → set_of state.constraints sym ≡ None
  pub answers : state.answers ≡ []
  pub counters : state.counters ≡ record { frames = 1; allocations = 0; calls = 0; events = 0 }
  pub asked : state.asked ≡ finite.empty
  pub phase : state.phase ≡ 0
  pub result : state.result ≡ None

-- a symbol and a number as terms
abbrev pub own : Sym → Lin
own sym = record { sym = Some sym; slope = pos 1; at = pos 0; value = pos 0 }

abbrev pub constant : ℤ → Lin
constant number = record { sym = None; slope = pos 0; at = pos 0; value = number }

-- a start block of a size in bytes
abbrev pub start_block_of : ℕ → TypeNumber → Sym → Block
start_block_of bytes element sym = record { extent = constant (pos bytes); standing = Live; element = element; sym = sym; made_by = 0 }

module _ (names : Naming) where
  -- the symbol of the input at a path may have the numbers of a range
  pub record Ranges (path : Path) (range : ℤ × ℤ) (sym : Sym) (state : State) : Type 0 where
    pub named : slice_get names.syms sym.0 ≡ Some (Input path)
    pub set : List Interval
    pub here : set_of state.constraints sym.0 ≡ Some set
    pub numbers : (x : ℤ) → contains set x ≡ lies_in range x

  -- the same, and all other symbols have the numbers that they had
  pub record Declares (path : Path) (range : ℤ × ℤ) (sym : Sym) (before after : State) : Type 0 where
    pub ranges : Ranges path range sym after
    pub elsewhere : (other : ℕ) → other ≢ sym.0 → set_of after.constraints other ≡ set_of before.constraints other

  -- the base region that the pointer with a path points to, with its size in bytes and the type of its elements
  pub record IsAfter (path : Path) (element : Shape) (bytes : ℕ) (sym : Sym) (base : ℕ) (block : Block) : Type 0 where
    pub named : slice_get names.bases base ≡ Some (Entry path)
    pub number : TypeNumber
    pub typed : slice_get names.types number.0 ≡ Some element
    pub block_is : block ≡ start_block_of bytes number sym

  -- the input yielded an integer
  pub record GivesNumber (path : Path) (range : ℤ × ℤ) (value : Value) (before after : State) : Type 0 where
    pub sym : Sym
    pub value_is : value ≡ values.Number (own sym)
    pub declares : Declares path range sym before after
    pub rest : after ≡ with_constraints after.constraints before

  -- the input yielded a pointer: its block exists if the pointer isn't null
  pub record GivesPointer (path : Path) (element : Shape) (bytes : ℕ) (value : Value) (before after : State) : Type 0 where
    pub sym : Sym
    pub base : ℕ
    pub block : Block
    pub value_is : value ≡ values.Start base 0
    pub declares : Declares path TRUTHS sym before after
    pub is_after : IsAfter path element bytes sym base block
    pub rest : after ≡ with_blocks (finite.insert before.blocks (base, 0) block) (with_constraints after.constraints before)

  -- an integer parameter holds a number of the range
  pub record HoldsNumber (path : Path) (range : ℤ × ℤ) (value : Value) (state : State) : Type 0 where
    pub sym : Sym
    pub value_is : value ≡ values.Number (own sym)
    pub ranges : Ranges path range sym state

  -- a pointer parameter holds null or a pointer to a start block
  pub record HoldsPointer (path : Path) (element : Shape) (bytes : ℕ) (value : Value) (state : State) : Type 0 where
    pub sym : Sym
    pub base : ℕ
    pub block : Block
    pub value_is : value ≡ values.Start base 0
    pub ranges : Ranges path TRUTHS sym state
    pub is_after : IsAfter path element bytes sym base block
    pub there : block_of state.blocks base ≡ Some block

-- one of the first `count` parameters
pub record IsParameter (variables : List Variable) (count : ℕ) (v : Variable) (number : ℕ) : Type 0 where
  pub early : number < count
  pub there : slice_get variables number ≡ Some v

module _ (program : TypedProgram) (names : Naming) where
  -- the input at a path yielded a value of a type
  abbrev pub Gives : Shape → Path → Option ℕ → Value → State → State → Type 0
  Gives (integer ty) path count value before after = GivesNumber names path (numbers_of program.model ty) value before after
  Gives (pointer target) path count value before after =
      GivesPointer names path (element_of target) (start_extent program (element_of target) count) value before after
  Gives other path count value before after = (value ≡ values.Unset) × (after ≡ before)

  -- the parameter with a number received its input
  pub record Receives (number : ℕ) (v : Variable) (before after : State) : Type 0 where
    pub value : Value
    pub between : State
    pub gives : Gives v.ty (parameter_path v) v.block value before between
    pub base : ℕ
    pub named : slice_get names.bases base ≡ Some (Local 0 number)
    pub here : held after.store base 0 ≡ Direct value
    pub elsewhere : (b o : ℕ) → (b ≢ base) ⊎ (o ≢ 0) → held after.store b o ≡ held between.store b o
    pub unread : read_at after.read base 0 ≡ None
    pub read : (b o : ℕ) → (b ≢ base) ⊎ (o ≢ 0) → read_at after.read b o ≡ read_at between.read b o
    pub rest : after ≡ with_memory after.store after.read between

  -- a value is one that the input at a path may yield
  abbrev pub HoldsValue : Shape → Path → Option ℕ → Value → State → Type 0
  HoldsValue (integer ty) path count value state = HoldsNumber names path (numbers_of program.model ty) value state
  HoldsValue (pointer target) path count value state =
      HoldsPointer names path (element_of target) (start_extent program (element_of target) count) value state
  HoldsValue other path count value state = value ≡ values.Unset

  -- the parameter with a number holds what its input may yield
  pub record HoldsInput (number : ℕ) (v : Variable) (state : State) : Type 0 where
    pub value : Value
    pub base : ℕ
    pub named : slice_get names.bases base ≡ Some (Local 0 number)
    pub here : held state.store base 0 ≡ Direct value
    pub holds : HoldsValue v.ty (parameter_path v) v.block value state

  -- the first `count` parameters hold their inputs, and nothing else is known or was read
  pub record HasReceived (variables : List Variable) (count : ℕ) (state : State) : Type 0 where
    pub each : (number : ℕ) (v : Variable) → IsParameter variables count v number → HoldsInput number v state
    pub bound : (b o : ℕ) (value : Value) → held state.store b o ≡ Direct value
        → (o ≡ 0) × (number : ℕ) × (v : Variable) × IsParameter variables count v number × (slice_get names.bases b ≡ Some (Local 0 number))
    pub unfilled : (b o : ℕ) (fill : store.Fill) → held state.store b o ≡ Fill fill → fill ≡ UnsetFill
    pub read : (b o : ℕ) → read_at state.read b o ≡ None
    pub blocks : (b : ℕ) (block : Block) → block_of state.blocks b ≡ Some block
        → (number : ℕ) × (v : Variable) × IsParameter variables count v number × (slice_get names.bases b ≡ Some (Entry (parameter_path v)))
        × IsPointer v.ty
    pub symbols : (sym : ℕ) (set : List Interval) → set_of state.constraints sym ≡ Some set
        → (number : ℕ) × (v : Variable) × IsParameter variables count v number × (slice_get names.syms sym ≡ Some (Input (parameter_path v)))

-- the state in which the exploration of an entry begins: its parameters hold any inputs, and nothing else has happened
pub record IsStart (code : Code) (program : TypedProgram) (entry : ℕ) (names : Naming) (state : State) : Type 0 where
  pub model_is : state.model ≡ program.model
  pub frame : state.frame ≡ frame_in entry (unwrap_or (flow_of code entry) no_flow)
  pub callers : state.callers ≡ []
  pub answers : state.answers ≡ []
  pub counters : state.counters ≡ record { frames = 1; allocations = 0; calls = 0; events = 0 }
  pub asked : state.asked ≡ finite.empty
  pub phase : state.phase ≡ 0
  pub result : state.result ≡ None
  pub received : HasReceived program names (parameters_of (routine_of program entry)) (length (parameters_of (routine_of program entry))) state

-- the state represents the beginning of all runs of an entry: under each valuation that fits, the beginning of its run, and each run's
-- beginning is one of these
pub record StartsFrom (code : Code) (program : TypedProgram) (entry : ℕ) (names : Naming) (state : State) : Type 0 where
  pub answers : state.answers ≡ []
  pub events : state.counters.events ≡ 0
  pub guesses : state.asked ≡ finite.empty
  pub means : (valuation : Valuation) → Fits valuation state.constraints
      → meaning code names program state valuation ≡ code_started code program (input_of names.syms valuation) entry (routine_of program entry)
  pub covers : (inputs : Path → ℤ) → (valuation : Valuation) × Fits valuation state.constraints
      × (meaning code names program state valuation ≡ code_started code program inputs entry (routine_of program entry))
