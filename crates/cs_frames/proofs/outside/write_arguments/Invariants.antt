-- The objects that the arguments before the number name were written, and the counts are the same.
use Rattle.std.proofs.Common.{◌≡◌, map, drop, length, ◌-◌}
use Rattle.cs_ast.specs.TypedProgram.{typed_program}
use Rattle.cs_events.specs.Acts.{Act}
use Rattle.cs_events.specs.Runs.{perform}
use Rattle.cs_meaning.specs.Machine.{State}
use Rattle.cs_meaning.specs.Memory.{Memory}
use Rattle.cs_meaning.specs.Calls.{write_arguments}
use Rattle.cs_values.specs.View.{operand_of}
use Rattle.cs_run_log.specs.LogView.{setting_of, log_of}
use Rattle.cs_memory.specs.MemoryView.{memory_of, KeepsCounts}
use Rattle.cs_frames.proofs.outside.write_arguments.Given as goal

abbrev pub invariant-loop-argument : goal.invariant-loop-argument
invariant-loop-argument l = record {
  writes : (onward : Memory → Act State)
      → perform (setting_of l.setting) (log_of l.fn.log)
      (write_arguments (typed_program l.setting.program.now) l.place l.call 0 l.written (map operand_of l.arguments) (memory_of l.fn.memory) onward)
      ≡ perform (setting_of l.setting) (log_of l.log)
      (write_arguments (typed_program l.setting.program.now) l.place l.call l.argument (drop l.argument l.written)
      (map operand_of (drop l.argument l.arguments)) (memory_of l.memory) onward);
  counts : KeepsCounts l.fn.memory l.memory;
}

abbrev pub decreases-loop-argument : goal.decreases-loop-argument
decreases-loop-argument l = length l.written - l.argument
