-- The parameters before the index were received, and the start blocks of the others remain to be added.
use Rattle.std.proofs.Common.{◌≡◌, map, take, drop}
use Rattle.cs_ast.specs.TypedProgram.{typed_program, variable}
use Rattle.cs_inputs.specs.Inputs.{number_at}
use Rattle.cs_meaning.specs.Machine.{Scalar}
use Rattle.cs_meaning.specs.Steps as steps
use Rattle.cs_values.specs.View.{operand_of}
use Rattle.cs_memory.specs.MemoryView.{memory_of, KeepsCounts}
use Rattle.cs_frames.proofs.starting.received.Given as goal

abbrev pub invariant-loop-parameter : goal.invariant-loop-parameter
invariant-loop-parameter l = record {
  values : map operand_of l.made.items
      ≡ map (λ v. Scalar (steps.received (typed_program l.setting.program.now) (number_at l.setting.inputs.now) v))
      (map variable (take l.parameter-index l.parameters));
  memory : steps.with_received (typed_program l.setting.program.now) (number_at l.setting.inputs.now) (map variable (drop l.parameter-index l.parameters))
      (memory_of l.memory) ≡ steps.with_received (typed_program l.setting.program.now) (number_at l.setting.inputs.now) (map variable l.parameters)
      (memory_of l.fn.memory);
  counts : KeepsCounts l.fn.memory l.memory;
}
