use Rattle.std.proofs.Common.{◌≡◌, Some, sym, ap}
use Rattle.cs_ast.specs.TypedProgram.{typed_program}
use Rattle.cs_meaning.specs.Access.{write_bytes}
use Rattle.cs_memory.specs.Reaching.{spells}
use Rattle.cs_values.specs.View.{object_of}
use Rattle.cs_memory.specs.MemoryView.{memory_of}
use Rattle.cs_objects.specs.BlockView.{block_of}
use Rattle.cs_memory.proofs.Changes.{changed-as, changed-none, write_bytes-spells}
use Rattle.cs_memory.proofs.memory.Memory.write_bytes.Goals as goal

pub returns-in-Some-clause-memory : goal.returns-in-Some-clause-memory
returns-in-Some-clause-memory c =
    let program = typed_program c.args.program.now in
    let object = object_of c.args.object.now in
    let memory = memory_of c.args.self.now in
    let block = block_of c.in-Some.block.now in
    let known : memory object ≡ Some block = sym c.in-Some.ensures in
    let same = changed-as (write_bytes program c.args.from c.args.bytes.now) (spells program block.shape c.args.from c.args.bytes.now) object memory
    (rw known (ap Some (write_bytes-spells program c.args.from c.args.bytes.now block))) in
    rw same c.spell.ensures.memory

pub returns-in-None-clause-memory : goal.returns-in-None-clause-memory
returns-in-None-clause-memory c =
    let object = object_of c.args.object.now in
    let memory = memory_of c.args.self.now in
    sym (changed-none (write_bytes (typed_program c.args.program.now) c.args.from c.args.bytes.now) object memory (sym c.in-None.ensures))
