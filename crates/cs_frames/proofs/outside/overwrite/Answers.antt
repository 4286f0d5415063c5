use Rattle.std.proofs.Common.{◌≡◌, Some, refl, sym, ◌∙◌}
use Rattle.cs_ast.specs.TypedProgram.{typed_program}
use Rattle.cs_meaning.specs.Memory.{refill, InputFill}
use Rattle.cs_meaning.specs.Calls.{overwrite}
use Rattle.cs_values.specs.View.{object_of}
use Rattle.cs_memory.specs.MemoryView.{memory_of}
use Rattle.cs_objects.specs.BlockView.{block_of}
use Rattle.cs_frames.proofs.Overwriting.{changes_as, changes_nothing, changes_none}
use Rattle.cs_frames.proofs.outside.overwrite.Goals as goal

pub returns-in_ok-change-in-Some-clause-memory : goal.returns-in_ok-change-in-Some-clause-memory
returns-in_ok-change-in-Some-clause-memory c =
    let object = object_of c.args.object.now in
    let memory = memory_of c.args.memory.now in
    let there : memory object ≡ Some (block_of c.in-Some.block.now) = sym (rw c.in-Some.is at c.block.ensures) in
    let writable = sym c.is_writable.ensures ∙ c.if-is_writable.true in
    c.in_ok-change-in-Some.ensures.memory
    ∙ changes_as (refill (InputFill c.args.path)) (overwrite (typed_program c.args.program.now) object c.args.path) object memory
    (block_of c.in-Some.block.now) there (rw writable refl)

pub returns-else-is_writable-clause-memory : goal.returns-else-is_writable-clause-memory
returns-else-is_writable-clause-memory c =
    let object = object_of c.args.object.now in
    let memory = memory_of c.args.memory.now in
    let there : memory object ≡ Some (block_of c.in-Some.block.now) = sym (rw c.in-Some.is at c.block.ensures) in
    let writable = sym c.is_writable.ensures ∙ c.if-is_writable.false in
    changes_nothing (overwrite (typed_program c.args.program.now) object c.args.path) object memory (block_of c.in-Some.block.now) there (rw writable refl)

pub returns-in-None-clause-memory : goal.returns-in-None-clause-memory
returns-in-None-clause-memory c =
    changes_none (overwrite (typed_program c.args.program.now) (object_of c.args.object.now) c.args.path) (object_of c.args.object.now)
    (memory_of c.args.memory.now) (sym (rw c.in-None.is at c.block.ensures))
