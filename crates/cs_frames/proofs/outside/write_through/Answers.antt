use Rattle.std.proofs.Common.{sym, ap, ◌∙◌}
use Rattle.cs_ast.specs.TypedProgram.{typed_program}
use Rattle.cs_events.specs.Runs.{perform}
use Rattle.cs_meaning.specs.Calls.{overwrite}
use Rattle.cs_meaning.specs.Memory.{Memory, changed}
use Rattle.cs_values.specs.View.{object_of}
use Rattle.cs_run_log.specs.LogView.{setting_of, log_of}
use Rattle.cs_memory.specs.MemoryView.{memory_of}
use Rattle.cs_frames.proofs.outside.write_through.Goals as goal

pub returns-in_ok-overwrite-in-Pointer-clause-ok : goal.returns-in_ok-overwrite-in-Pointer-clause-ok
returns-in_ok-overwrite-in-Pointer-clause-ok c =
    let object = object_of c.in-Pointer.object in
    rw c.in-Pointer.is (λ onward.
    c.in_ok-show-in-Pointer.ensures.ok (onward
    (changed (overwrite (typed_program c.args.setting.now.program.now) object c.args.path) object (memory_of c.args.memory.now)))
    ∙ ap (λ (m : Memory). perform (setting_of c.args.setting.now) (log_of c.show-in-Pointer.new.self) (onward m))
    (sym c.in_ok-overwrite-in-Pointer.ensures.memory))
