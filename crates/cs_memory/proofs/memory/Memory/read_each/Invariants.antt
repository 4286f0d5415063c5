-- The scalars before the index were read, and the counts are the same.
use Rattle.std.proofs.Common.{◌≡◌, List, ◌++◌, map, drop}
use Rattle.cs_ast.specs.TypedProgram.{typed_program}
use Rattle.cs_events.specs.Acts.{Act}
use Rattle.cs_events.specs.Objects.{Cell}
use Rattle.cs_events.specs.Runs.{perform}
use Rattle.cs_meaning.specs.Machine.{State}
use Rattle.cs_meaning.specs.Memory.{Memory}
use Rattle.cs_meaning.specs.Access.{read_all}
use Rattle.cs_values.specs.View.{cell_of, object_of}
use Rattle.cs_run_log.specs.LogView.{setting_of, log_of}
use Rattle.cs_memory.specs.MemoryView.{memory_of, KeepsCounts}
use Rattle.cs_memory.proofs.memory.Memory.read_each.Given as goal

abbrev pub invariant-loop-offset : goal.invariant-loop-offset
invariant-loop-offset l = record {
  reads : (onward : Memory → List Cell → Act State)
      → perform (setting_of l.setting) (log_of l.initial.log)
      (read_all (typed_program l.setting.program.now) (memory_of l.initial.self) (object_of l.object) l.from l.offsets onward)
      ≡ perform (setting_of l.setting) (log_of l.log)
      (read_all (typed_program l.setting.program.now) (memory_of l.self) (object_of l.object) l.from (drop l.offset-index l.offsets)
      (λ after rest. onward after (map cell_of l.cells.items ++ rest)));
  counts : KeepsCounts l.initial.self l.self;
}
