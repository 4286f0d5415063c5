use Rattle.std.proofs.Common.{◌≡◌, ℕ, Err, ◌∙◌, rules}
use Rattle.cs_ast.specs.TypedProgram.{typed_program}
use Rattle.cs_events.specs.Acts.{Act}
use Rattle.cs_events.specs.Objects.{Object}
use Rattle.cs_meaning.specs.Access.{touches_then, value_at}
use Rattle.cs_meaning.specs.Memory as meaning
use Rattle.cs_meaning.specs.Machine.{Operand, State}
use Rattle.cs_objects.specs.declared.access.Access.{Access}
use Rattle.cs_memory.specs.declared.memory.Memory.{Memory}
use Rattle.cs_objects.specs.declared.settings.Setting.{Setting}
use Rattle.cs_objects.specs.AccessView.{access_of}
use Rattle.cs_memory.specs.Reaching.{load_touch}
use Rattle.cs_memory.specs.MemoryView.{memory_of}
use Rattle.cs_run_log.proofs.Chains.{ends_following}
use Rattle.cs_memory.proofs.memory.Memory.load.Goals as goal

-- the act after the object is found
abbrev follows : Setting → Memory → ℕ → Access → (meaning.Memory → Operand → Act State) → Object → ℕ → Act State
follows setting memory frame access onward object offset =
    let a = access_of access in
    touches_then (load_touch frame a.at) a.local (value_at (typed_program setting.program.now) (memory_of memory) a.at a.ty object offset onward)

pub returns-in_err-operand-clause-err : goal.returns-in_err-operand-clause-err
returns-in_err-operand-clause-err c =
    let there : c.from_residual-in_err-operand.result ≡ Err c.in_err-operand.field-0.0 = search rules in
    rw there (λ onward.
    ends_following _ _ (c.in_ok-found.ensures.ok (follows c.args.setting.now c.args.self.now c.args.frame c.args.access onward)
    ∙ c.in_ok-touch_load.ensures c.args.setting.now _) (c.in_err-operand.ensures.err onward))

pub returns-clause-ok : goal.returns-clause-ok
returns-clause-ok c =
    λ onward. c.in_ok-found.ensures.ok (follows c.args.setting.now c.args.self.now c.args.frame c.args.access onward)
    ∙ (c.in_ok-touch_load.ensures c.args.setting.now _ ∙ c.in_ok-operand.ensures.ok onward)
