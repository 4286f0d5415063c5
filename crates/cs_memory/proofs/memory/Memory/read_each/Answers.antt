use Rattle.std.proofs.Common.{◌≡◌, ◌+◌, Err, map, drop, get_or, ◌∙◌, rules, arith}
use Rattle.std.proofs.lemmas.List.{drop_all}
use Rattle.cs_ast.specs.TypedProgram.{typed_program}
use Rattle.cs_values.specs.View.{cell_of, object_of}
use Rattle.cs_run_log.specs.LogView.{setting_of, log_of}
use Rattle.cs_memory.specs.MemoryView.{memory_of}
use Rattle.cs_objects.proofs.Pushing.{map-push}
use Rattle.cs_memory.proofs.Reading.{one_more_read, all_read, ends_reading, drop-step}
use Rattle.cs_memory.proofs.memory.Memory.read_each.Goals as goal

pub loop-offset-preserved : goal.loop-offset-preserved
loop-offset-preserved c =
    let offsets = c.args.offsets.now in
    let i = c.loop-offset.offset-index in
    let place : c.in_ok-at.at ≡ c.args.from + get_or offsets i 0 = search rules in
    let reads = rw place at c.in_ok-cell.ensures.ok in
    let before = c.loop-offset.invariant.counts in
    let now = c.in_ok-cell.ensures.counts in
    record {
      reads = λ onward. c.loop-offset.invariant.reads onward
          ∙ one_more_read (setting_of c.args.setting.now) (typed_program c.args.setting.now.program.now) (object_of c.args.object.now) c.args.from
          (log_of c.loop-offset.log) (log_of c.read.new.log) (memory_of c.loop-offset.self) (memory_of c.read.new.self) (drop i offsets) (drop (i + 1) offsets)
          (get_or offsets i 0) (map cell_of c.loop-offset.cells.items) (map cell_of c.push.new.self.items) (cell_of c.in_ok-cell.cell)
          (drop-step offsets i 0 c.loop-offset-test.true) (rw c.in_ok-push.ensures.items (map-push cell_of c.loop-offset.cells.items c.in_ok-cell.cell)) reads
          onward;
      counts = record { frames = now.frames ∙ before.frames; allocations = now.allocations ∙ before.allocations };
    }

pub returns-in_err-cell-clause-err : goal.returns-in_err-cell-clause-err
returns-in_err-cell-clause-err c =
    let there : c.from_residual-in_err-cell.result ≡ Err c.in_err-cell.field-0.0 = search rules in
    let offsets = c.args.offsets.now in
    let i = c.loop-offset.offset-index in
    let place : c.in_ok-at.at ≡ c.args.from + get_or offsets i 0 = search rules in
    let ends = rw place at c.in_err-cell.ensures.err in
    rw there (λ onward.
    ends_reading (setting_of c.args.setting.now) (typed_program c.args.setting.now.program.now) (object_of c.args.object.now) c.args.from
    c.in_err-cell.field-0.0 (log_of c.loop-offset.log) (log_of c.read.new.log) (memory_of c.loop-offset.self) (drop i offsets) (drop (i + 1) offsets)
    (get_or offsets i 0) (map cell_of c.loop-offset.cells.items) _ onward (drop-step offsets i 0 c.loop-offset-test.true) ends
    (c.loop-offset.invariant.reads onward))

pub returns-clause-ok : goal.returns-clause-ok
returns-clause-ok c =
    let offsets = c.args.offsets.now in
    let i = c.loop-offset.offset-index in
    λ onward. c.loop-offset.invariant.reads onward
    ∙ all_read (setting_of c.args.setting.now) (typed_program c.args.setting.now.program.now) (object_of c.args.object.now) c.args.from
    (log_of c.loop-offset.log) (memory_of c.loop-offset.self) (drop i offsets) (map cell_of c.loop-offset.cells.items) (drop_all i offsets (omega arith))
    onward
