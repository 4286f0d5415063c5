use Rattle.std.proofs.Common.{ℕ, sym, ◌∙◌}
use Rattle.cs_ast.specs.declared.place.Place.{Place}
use Rattle.cs_ast.specs.TypedProgram.{typed_program}
use Rattle.cs_events.specs.Acts.{Act}
use Rattle.cs_events.specs.Objects.{Object}
use Rattle.cs_meaning.specs.Access.{writable, touches_then, write_operand}
use Rattle.cs_meaning.specs.Memory as meaning
use Rattle.cs_meaning.specs.Machine as machine
use Rattle.cs_objects.specs.declared.access.Access.{Access}
use Rattle.cs_memory.specs.declared.memory.Memory.{Memory}
use Rattle.cs_values.specs.declared.objects.Operand.{Operand}
use Rattle.cs_objects.specs.declared.settings.Setting.{Setting}
use Rattle.cs_objects.specs.AccessView.{access_of}
use Rattle.cs_memory.specs.Reaching.{store_touch}
use Rattle.cs_memory.specs.MemoryView.{memory_of}
use Rattle.cs_values.specs.View.{operand_of}
use Rattle.cs_memory.proofs.memory.Memory.store.Goals as goal

-- the act after the object is found
abbrev follows : Setting → Memory → ℕ → Place → Access → Operand → (meaning.Memory → Act machine.State) → Object → ℕ → Act machine.State
follows setting memory frame at access operand onward object offset =
    let program = typed_program setting.program.now in
    let a = access_of access in
    writable program a.at object
    (touches_then (store_touch frame at) a.local
    (onward (meaning.changed (write_operand program a.ty offset (operand_of operand)) object (memory_of memory))))

pub returns-clause-ok : goal.returns-clause-ok
returns-clause-ok c =
    let stored = sym c.is_constant.ensures ∙ c.if-is_constant.false in
    let stores = follows c.args.setting.now c.args.self.now c.args.frame c.args.at c.args.access c.args.operand.now in
    rw c.in_ok-write_operand.ensures.memory (λ onward.
    c.in_ok-found.ensures.ok (stores onward) ∙ rw stored (c.in_ok-touch_store.ensures c.args.setting.now _))
