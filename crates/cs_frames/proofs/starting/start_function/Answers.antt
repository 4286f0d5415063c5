use Rattle.std.proofs.Common.{◌≡◌, ℕ, ◌+◌, List, length, map, refl, ap, ◌∙◌}
use Rattle.cs_ast.specs.TypedProgram.{typed_program, routine, variable, Variable}
use Rattle.cs_inputs.specs.Inputs.{number_at}
use Rattle.cs_meaning.specs.Machine.{Operand, Scalar}
use Rattle.cs_meaning.specs.Memory.{Memory}
use Rattle.cs_meaning.specs.Calls.{with_locals}
use Rattle.cs_meaning.specs.Steps.{received, with_received, parameters_of, static_memory}
use Rattle.cs_values.specs.View.{operand_of}
use Rattle.cs_memory.specs.MemoryView.{memory_of, with_frame}
use Rattle.cs_objects.specs.BlockView.{block_at}
use Rattle.cs_frames.proofs.NewLocals.{locals_are}
use Rattle.cs_frames.proofs.Beginning.{first_memory, started_is}
use Rattle.cs_frames.proofs.starting.start_function.Goals as goal

pub returns : goal.returns
returns c =
    let program = typed_program c.args.setting.now.program.now in
    let inputs = number_at c.args.setting.now.inputs.now in
    let r = routine c.args.function.now in
    let static = memory_of c.new-memory.result in
    let memory = c.received.new.memory in
    let locals = block_at c.in_ok-locals.locals.items in
    let given = map operand_of c.in_ok-arguments.arguments.items in
    let parameters : map variable c.parameters_of-parameters.result.now ≡ parameters_of r = c.parameters_of-parameters.ensures in
    let argument : Variable → Operand = λ v. Scalar (received program inputs v) in
    let arguments : given ≡ map argument (parameters_of r) = c.in_ok-arguments.ensures.values ∙ ap (map argument) parameters in
    let following : memory_of memory ≡ with_received program inputs (parameters_of r) (static_memory program) = c.in_ok-arguments.ensures.memory
    ∙ (ap (λ (l : List Variable). with_received program inputs l static) parameters
    ∙ ap (λ (seen : Memory). with_received program inputs (parameters_of r) seen) (c.new-memory.ensures.memory ∙ c.requires.prepared.objects)) in
    let none : length memory.frames.items ≡ 0 = c.in_ok-arguments.ensures.counts.frames ∙ ap length c.new-memory.ensures.frames in
    let are = rw (c.deref.ensures.value, c.deref-2.ensures.value) at c.in_ok-locals.ensures in
    let seen : memory_of c.add_frame.new.self ≡ first_memory program inputs r = c.in_ok-add_frame.ensures.memory
    ∙ (ap (λ (n : ℕ). with_frame n locals (memory_of memory)) none
    ∙ (locals_are program 0 r.variables given locals (memory_of memory) are
    ∙ (ap (λ (l : List Operand). with_locals program 0 r.variables l (memory_of memory)) arguments
    ∙ ap (λ (m : Memory). with_locals program 0 r.variables (map argument (parameters_of r)) m) following))) in
    let frames = c.in_ok-add_frame.ensures.frames ∙ ap (λ (n : ℕ). n + 1) none in
    let allocations = c.in_ok-add_frame.ensures.allocations ∙ (c.in_ok-arguments.ensures.counts.allocations ∙ ap length c.new-memory.ensures.heap) in
    started_is program inputs r c.args.entry (record { frame = c.in_ok-frame.frame; callers = c.new.result; memory = c.add_frame.new.self; calls = 0 })
    c.in_ok-frame.ensures c.new.ensures.items seen frames allocations refl
