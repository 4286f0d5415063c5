-- The interpreter's memory, seen as that of the reference machine.
use Rattle.std.specs.Prelude.{◌≡◌, ℕ, zero, suc, List, length, Option, Some, None, option_map, slice_get, ◌==◌, if◌then◌else◌, Vec}
use Rattle.std.specs.declared.alloc.Global.{Global}
use Rattle.std.specs.Option.{option_and_then}
use Rattle.std.specs.Map.{lookup}
use Rattle.std.specs.Ordering.{nat_cmp}
use Rattle.cs_inputs.specs.declared.path.Path.{Path}
use Rattle.cs_inputs.specs.PathOrder.{path_order}
use Rattle.cs_meaning.specs.Memory as meaning
use Rattle.cs_objects.specs.declared.blocks.Block.{Block}
use Rattle.cs_memory.specs.declared.memory.Memory.{Memory}
use Rattle.std.specs.BTreeMap.{BTreeMap, get, is_at}
use Rattle.cs_events.specs.Objects.{StartBlock, GlobalObject, LiteralObject, LocalObject, HeapBlock}
use Rattle.cs_objects.specs.BlockView.{block_of, block_at}

-- the start block of an unknown pointer with a path
abbrev pub start_in : BTreeMap Path Block → Path → Option meaning.Block
start_in starts path = option_map block_of (lookup (is_at (path_order path)) starts.entries)

-- a static object: as it was changed, or else as at the beginning of a run
abbrev pub changed_or : Option meaning.Block → Option meaning.Block → Option meaning.Block
changed_or (Some block) otherwise = Some block
changed_or None otherwise = otherwise

abbrev pub static_at : BTreeMap ℕ Block → List Block → ℕ → Option meaning.Block
static_at changed row number = changed_or (option_map block_of (get nat_cmp changed number)) (block_at row number)

-- a local of a frame
abbrev pub local_in : List (Vec Block Global) → ℕ → ℕ → Option meaning.Block
local_in frames frame declaration = option_and_then (λ (locals : Vec Block Global). block_at locals.items declaration) (slice_get frames frame)

-- the block of an allocation, in the list of all allocations
abbrev pub given_in : List (Option Block) → ℕ → Option meaning.Block
given_in heap zero = None
given_in heap (suc before) = option_and_then (λ (given : Option Block). option_map block_of given) (slice_get heap before)

-- memory
abbrev pub memory_of : Memory → meaning.Memory
memory_of memory (StartBlock path) = start_in memory.starts path
memory_of memory (GlobalObject global) = static_at memory.globals memory.prepared.now.globals.items global
memory_of memory (LiteralObject literal) = static_at memory.literals memory.prepared.now.literals.items literal
memory_of memory (LocalObject frame declaration) = local_in memory.frames.items frame declaration
memory_of memory (HeapBlock allocation) = given_in memory.heap.items allocation

-- a list with the object at an index changed, if it exists
abbrev pub changed_at : (meaning.Block → meaning.Block) → ℕ → (ℕ → Option meaning.Block) → ℕ → Option meaning.Block
changed_at change at row n = if at == n then option_map change (row n) else row n

-- the numbers of frames and allocations stay the same
pub record KeepsCounts (old new : Memory) : Type 0 where
  pub frames : length new.frames.items ≡ length old.frames.items
  pub allocations : length new.heap.items ≡ length old.heap.items

-- memory with these locals in a frame
abbrev pub with_frame : ℕ → (ℕ → Option meaning.Block) → meaning.Memory → meaning.Memory
with_frame frame locals memory (LocalObject n declaration) = if n == frame then locals declaration else memory (LocalObject n declaration)
with_frame frame locals memory other = memory other
