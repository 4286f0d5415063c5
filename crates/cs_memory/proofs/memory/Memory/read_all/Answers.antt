use Rattle.std.proofs.Common.{ap}
use Rattle.cs_ast.specs.TypedProgram.{typed_program}
use Rattle.cs_events.specs.Runs.{perform}
use Rattle.cs_run_log.specs.LogView.{setting_of, log_of}
use Rattle.cs_memory.proofs.memory.Memory.read_all.Goals as goal

pub returns-in-Some-clause-ok : goal.returns-in-Some-clause-ok
returns-in-Some-clause-ok c =
    let held = rw c.in-Some.is at c.in_ok-cells.ensures in
    λ onward. ap (perform (setting_of c.args.setting.now) (log_of c.args.log.now)) (held (typed_program c.args.setting.now.program.now) onward)
