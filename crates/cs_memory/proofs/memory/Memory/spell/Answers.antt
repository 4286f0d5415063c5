use Rattle.std.proofs.Common.{◌≡◌, ◌+◌, drop, get_or, sym, ◌∙◌, rules, arith}
use Rattle.std.proofs.lemmas.List.{drop_all}
use Rattle.cs_ast.specs.TypedProgram.{typed_program}
use Rattle.cs_meaning.specs.Memory.{changed, write_cell}
use Rattle.cs_values.specs.View.{object_of, cell_of}
use Rattle.cs_memory.specs.MemoryView.{memory_of}
use Rattle.cs_objects.specs.BlockView.{type_of}
use Rattle.cs_memory.proofs.Changes.{one_more_spelled, none_spelled}
use Rattle.cs_memory.proofs.Reading.{drop-step}
use Rattle.cs_memory.proofs.memory.Memory.spell.Goals as goal

pub loop-index-preserved : goal.loop-index-preserved
loop-index-preserved c =
    let bytes = c.args.bytes.now in
    let i = c.loop-index.index in
    let place : c.in_ok-at.at ≡ c.args.from + i = search rules in
    let following : c.args.from + (i + 1) ≡ c.args.from + i + 1 = omega arith in
    let before = c.loop-index.invariant.counts in
    let now = c.in_ok-change.ensures.counts in
    let is : memory_of c.change.new.self ≡ changed (write_cell c.in_ok-at.at (cell_of c.in_ok-cell.cell)) (object_of c.args.object.now)
    (memory_of c.loop-index.self) = c.in_ok-change.ensures.memory in
    record {
      writes =
          rw following (one_more_spelled (typed_program c.args.program.now) (type_of c.args.ty) (c.args.from + i) (object_of c.args.object.now)
          (memory_of c.loop-index.self) (memory_of c.change.new.self) (drop i bytes) (drop (i + 1) bytes) (get_or bytes i 0)
          (drop-step bytes i 0 c.loop-index-test.true) (rw (c.in_ok-cell.ensures, place) at is) ∙ c.loop-index.invariant.writes);
      counts = record { frames = now.frames ∙ before.frames; allocations = now.allocations ∙ before.allocations };
    }

pub returns-clause-memory : goal.returns-clause-memory
returns-clause-memory c =
    let i = c.loop-index.index in
    sym (none_spelled (typed_program c.args.program.now) (type_of c.args.ty) (c.args.from + i) (object_of c.args.object.now) (memory_of c.loop-index.self)
    (drop i c.args.bytes.now) (drop_all i c.args.bytes.now c.loop-index-test.false)) ∙ c.loop-index.invariant.writes
