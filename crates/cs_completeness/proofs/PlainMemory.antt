-- Memory whose locals hold numbers, pointers to locals, or unset: that of integer code.
use Rattle.std.proofs.Common.{◌≡◌, ℕ, suc, ℤ, Bool, true, false, List, [], ◌∷◌, map, Option, None, Some}
use Rattle.std.proofs.Common.{if◌then◌else◌, refl, sym, ◌∙◌, subst}
use Rattle.std.specs.Prelude.{◌==◌, option_map, slice_get}
use Rattle.std.proofs.lemmas.Option.{slice_get-map, same_Some}
use Rattle.cs_types.specs.declared.int_type.IntType.{IntType}
use Rattle.cs_types.specs.Shape.{Shape, integer}
use Rattle.cs_inputs.specs.declared.path.Path.{Path}
use Rattle.cs_ast.specs.TypedProgram.{TypedProgram, Variable}
use Rattle.cs_events.specs.InputCells.{input_cell, input_kind}
use Rattle.cs_events.specs.Objects.{Object, StartBlock, GlobalObject, LiteralObject, LocalObject, HeapBlock, Cell, PointerCell, UnsetCell, same_object}
use Rattle.cs_meaning.specs.Access as access
use Rattle.cs_meaning.specs.Calls.{local_block, with_locals}
use Rattle.cs_meaning.specs.Inputs.{opened}
use Rattle.cs_meaning.specs.Machine.{Operand, Scalar, Whole, Nothing as NoOperand, cell_of}
use Rattle.cs_meaning.specs.Memory.{UnsetFill, Block, Memory, Holds, found_in, changed, refill}
use Rattle.cs_meaning.specs.Steps.{received, with_received, static_memory, parameter_path}
use Rattle.cs_completeness.proofs.InputFree.{either}

-- pointers point to locals, and no operand is a struct
abbrev pub IsLocal : Object → Type 0
IsLocal (LocalObject frame declaration) = Unit {0}
IsLocal other = ⊥

abbrev pub IsPlainCell : Cell → Type 0
IsPlainCell (PointerCell object offset) = IsLocal object
IsPlainCell other = Unit {0}

abbrev pub IsPlainOperand : Operand → Type 0
IsPlainOperand (Scalar cell) = IsPlainCell cell
IsPlainOperand (Whole cells) = ⊥
IsPlainOperand NoOperand = Unit {0}

-- each cell of a local was set to such a value, or never set
pub record IsPlainBlock (block : Block) : Type 0 where
  pub fill : block.fill ≡ UnsetFill
  pub written : (offset : ℕ) (cell : Cell) → block.written offset ≡ Some cell → IsPlainCell cell

abbrev pub IsPlainThere : Option Block → Type 0
IsPlainThere None = Unit {0}
IsPlainThere (Some block) = IsPlainBlock block

abbrev pub IsPlainMemory : Memory → Type 0
IsPlainMemory memory = (frame declaration : ℕ) → IsPlainThere (memory (LocalObject frame declaration))

pub plain_cell : (operand : Operand) → IsPlainOperand operand → IsPlainCell (cell_of operand)
plain_cell (Scalar cell) plain = plain
plain_cell (Whole cells) plain = absurd plain
plain_cell NoOperand plain = tt

there_after : (change : Block → Block) → ((block : Block) → IsPlainBlock block → IsPlainBlock (change block))
    → (found : Option Block) → IsPlainThere found
    → IsPlainThere (option_map change found)
there_after change keeps None plain = tt
there_after change keeps (Some block) plain = keeps block plain

pub memory_after : (change : Block → Block) → ((block : Block) → IsPlainBlock block → IsPlainBlock (change block))
    → (object : Object) (memory : Memory)
    → IsPlainMemory memory → IsPlainMemory (changed change object memory)
memory_after change keeps object memory plain frame declaration =
    either IsPlainThere (same_object object (LocalObject frame declaration)) _ _
    (there_after change keeps (memory (LocalObject frame declaration)) (plain frame declaration)) (plain frame declaration)

written_cell : (cell other : Cell) (found : Option Cell) → IsPlainCell cell → (found ≡ Some other → IsPlainCell other) → (b : Bool)
    → (if b then Some cell else found) ≡ Some other → IsPlainCell other
written_cell cell other found plain before true is = subst IsPlainCell (same_Some cell other is) plain
written_cell cell other found plain before false is = before is

pub operand_written : (program : TypedProgram) (ty : Shape) (offset : ℕ) (operand : Operand) → IsPlainOperand operand
    → (block : Block) → IsPlainBlock block
    → IsPlainBlock (access.write_operand program ty offset operand block)
operand_written program ty offset (Scalar cell) plain block before =
    record {
      fill = before.fill;
      written = λ at other is. written_cell cell other (block.written at) plain (before.written at other) (at == offset) is;
    }
operand_written program ty offset (Whole cells) plain block before = absurd plain
operand_written program ty offset NoOperand plain block before = before

none_some : {A : Type 0} (x : A) {B : Type 0} → None ≡ Some x → B
none_some x is = cc

pub refilled_block : (block : Block) → IsPlainBlock block → IsPlainBlock (refill UnsetFill block)
refilled_block block before = record { fill = refl; written = λ at other is. none_some other is }

-- what a local has at an offset
pub found_plain : (program : TypedProgram) (object : Object) (there : Option Block) → IsPlainThere there → (offset : ℕ)
    → (cell : Cell) × (found_in program object there offset ≡ Holds cell) × IsPlainCell cell
found_plain program object None plain offset = (UnsetCell, refl, tt)
found_plain program object (Some block) plain offset = by (block.written offset) refl
  where
    by : (written : Option Cell) → block.written offset ≡ written
        → (cell : Cell) × (found_in program object (Some block) offset ≡ Holds cell) × IsPlainCell cell
    by (Some cell) is = (cell, rw is refl, plain.written offset cell is)
    by None is = (UnsetCell, rw is (rw plain.fill refl), tt)

-- a plain pointer points to a local
pub local_named : {A : Type 0} (P : A → Type 0) (object : Object) (f : Object → A) → IsLocal object
    → ((frame declaration : ℕ) → P (f (LocalObject frame declaration))) → P (f object)
local_named P (LocalObject frame declaration) f local each = each frame declaration
local_named P (StartBlock path) f local each = absurd local
local_named P (GlobalObject global) f local each = absurd local
local_named P (LiteralObject literal) f local each = absurd local
local_named P (HeapBlock allocation) f local each = absurd local

-- the parameters
module _ (program : TypedProgram) (inputs : Path → ℤ) where
  abbrev pub argument : Variable → Operand
  argument v = Scalar (received program inputs v)

  abbrev pub AreIntegers : List Variable → Type 0
  AreIntegers vs = (number : ℕ) (v : Variable) → slice_get vs number ≡ Some v → (ty : IntType) × (v.ty ≡ integer ty)

  plain_argument : (v : Variable) (ty : IntType) → v.ty ≡ integer ty → IsPlainOperand (argument v)
  plain_argument v ty is =
      subst (λ (shape : Shape). IsPlainCell (input_cell program.model (parameter_path v) (input_kind shape) (inputs (parameter_path v)))) (sym is) tt

  no_blocks : (vs : List Variable) (memory : Memory) → AreIntegers vs → IsPlainMemory memory → IsPlainMemory (with_received program inputs vs memory)
  no_blocks [] memory each plain = plain
  no_blocks (v ∷ vs) memory each plain =
      let ty = each 0 v refl in
      no_blocks vs (opened program (parameter_path v) v.ty v.block (received program inputs v) memory) (λ number. each (suc number))
      (subst (λ (shape : Shape). IsPlainMemory (opened program (parameter_path v) shape v.block (received program inputs v) memory)) (sym ty.1) plain)

  held_first : (argument : Option Operand) → ((operand : Operand) → argument ≡ Some operand → IsPlainOperand operand) → (b : Bool) (cell : Cell)
      → (if b then option_map cell_of argument else None) ≡ Some cell → IsPlainCell cell
  held_first None each true cell is = none_some cell is
  held_first (Some operand) each true cell is = subst IsPlainCell (same_Some (cell_of operand) cell is) (plain_cell operand (each operand refl))
  held_first argument each false cell is = none_some cell is

  module _ (vs : List Variable) (each : AreIntegers vs) where
    argument_there : (found : Option Variable) (declaration : ℕ) → slice_get vs declaration ≡ found → (operand : Operand)
        → option_map argument found ≡ Some operand → IsPlainOperand operand
    argument_there None declaration is operand there = none_some operand there
    argument_there (Some v) declaration is operand there =
        let ty = each declaration v is in
        subst IsPlainOperand (same_Some (argument v) operand there) (plain_argument v ty.0 ty.1)

    plain_argument_at : (declaration : ℕ) (operand : Operand) → slice_get (map argument vs) declaration ≡ Some operand → IsPlainOperand operand
    plain_argument_at declaration operand is =
        argument_there (slice_get vs declaration) declaration refl operand (sym (slice_get-map argument vs declaration) ∙ is)

    local_there : (declaration : ℕ) (found : Option Variable)
        → IsPlainThere (option_map (local_block program (slice_get (map argument vs) declaration)) found)
    local_there declaration None = tt
    local_there declaration (Some v) = record {
      fill = refl;
      written = λ offset cell is.
          held_first (slice_get (map argument vs) declaration) (plain_argument_at declaration) (offset == 0) cell is;
    }

    pub begins_plain : (variables : List Variable)
        → IsPlainMemory (with_locals program 0 variables (map argument vs) (with_received program inputs vs (static_memory program)))
    begins_plain variables frame declaration =
        either IsPlainThere (frame == 0) _ _ (local_there declaration (slice_get variables declaration))
        (no_blocks vs (static_memory program) each (λ f d. tt) frame declaration)
