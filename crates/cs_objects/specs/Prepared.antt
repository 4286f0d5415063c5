-- Data that all runs of a program share.
use Rattle.std.specs.Prelude.{◌≡◌, ℕ, ◌<◌, ◌^◌, nat_le, List, length, Option, None, Some, option_map, slice_get, if◌then◌else◌, Vec}
use Rattle.std.specs.Option.{option_and_then}
use Rattle.std.specs.declared.alloc.Global.{Global}
use Rattle.cs_types.specs.Shape.{struct}
use Rattle.cs_ast.specs.declared.typed.program.Program.{Program}
use Rattle.cs_ast.specs.TypedProgram.{HasLayouts, TypedProgram, typed_program}
use Rattle.cs_events.specs.Objects.{GlobalObject, LiteralObject}
use Rattle.cs_meaning.specs.Memory as meaning
use Rattle.cs_meaning.specs.Steps.{static_memory}
use Rattle.cs_meaning.specs.Types.{size_of, scalar_offsets}
use Rattle.cs_objects.specs.declared.prepared.Prepared.{Prepared}
use Rattle.cs_objects.specs.declared.prepared.Offsets.{Offsets}
use Rattle.cs_objects.specs.declared.prepared.Offsets.TheVariants.{Shared, Owned}
use Rattle.cs_objects.specs.declared.settings.Setting.{Setting}
use Rattle.cs_objects.specs.BlockView.{block_at}

-- offsets, prepared or computed
abbrev pub offsets_in : Offsets → List ℕ
offsets_in (Shared offsets) = offsets.now
offsets_in (Owned offsets) = offsets.items

-- the offsets of the struct with a number, in a list
abbrev pub offsets_in_row : List (Option (Vec ℕ Global)) → ℕ → Option (List ℕ)
offsets_in_row row tag = option_and_then (λ (offsets : Option (Vec ℕ Global)). option_map (λ (found : Vec ℕ Global). found.items) offsets)
    (slice_get row tag)

abbrev pub offsets_at : Prepared → ℕ → Option (List ℕ)
offsets_at prepared tag = offsets_in_row prepared.offsets.items tag

-- the offsets of a struct's scalars, if it has at most 2^15 bytes
abbrev pub prepared_offsets : TypedProgram → ℕ → Option (List ℕ)
prepared_offsets program tag = if nat_le (size_of program (struct tag)) (2 ^ 15) then Some (scalar_offsets program (struct tag)) else None

-- the objects at the beginning of runs
abbrev pub statics_of : Prepared → meaning.Memory
statics_of prepared (GlobalObject global) = block_at prepared.globals.items global
statics_of prepared (LiteralObject literal) = block_at prepared.literals.items literal
statics_of prepared other = None

-- the data shared by all runs of a program: the objects at their beginning, and the offsets of the structs' scalars
pub record IsPrepared (prepared : Prepared) (program : Program) : Type 0 where
  pub objects : statics_of prepared ≡ static_memory (typed_program program)
  pub count : length prepared.offsets.items ≡ length program.table.list
  pub offsets : (tag : ℕ) → tag < length program.table.list → offsets_at prepared tag ≡ prepared_offsets (typed_program program) tag

-- the program's structs are laid out, and the shared data of its runs is prepared
pub record IsReady (setting : Setting) : Type 0 where
  pub laid_out : HasLayouts setting.program.now
  pub prepared : IsPrepared setting.prepared.now setting.program.now
