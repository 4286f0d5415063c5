use Rattle.std.proofs.Common.{◌≡◌, ℕ, ◌+◌, List, [], length, refl, ap, ◌∙◌}
use Rattle.cs_ast.specs.TypedProgram.{typed_program}
use Rattle.cs_inputs.specs.Inputs.{number_at}
use Rattle.cs_meaning.specs.Machine.{no_routine, NOWHERE}
use Rattle.cs_meaning.specs.Memory.{Memory}
use Rattle.cs_meaning.specs.Calls.{with_locals}
use Rattle.cs_objects.specs.declared.blocks.Block.{Block}
use Rattle.cs_memory.specs.MemoryView.{memory_of, with_frame}
use Rattle.cs_objects.specs.BlockView.{block_at}
use Rattle.cs_frames.proofs.NewLocals.{locals_are}
use Rattle.cs_frames.proofs.Beginning.{first_memory, started_is}
use Rattle.cs_frames.proofs.starting.start_nowhere.Goals as goal

pub returns : goal.returns
returns c =
    let program = typed_program c.args.setting.now.program.now in
    let inputs = number_at c.args.setting.now.inputs.now in
    let r = no_routine NOWHERE in
    let static = memory_of c.new-memory.result in
    let none : length c.new-memory.result.frames.items ≡ 0 = ap length c.new-memory.ensures.frames in
    let seen : memory_of c.add_frame.new.self ≡ first_memory program inputs r = c.in_ok-add_frame.ensures.memory
    ∙ (ap (λ (n : ℕ). with_frame n (block_at c.new.result.items) static) none
    ∙ (ap (λ (l : List Block). with_frame 0 (block_at l) static) c.new.ensures.items
    ∙ (locals_are program 0 [] [] (block_at []) static (λ n. refl)
    ∙ ap (λ (m : Memory). with_locals program 0 [] [] m) (c.new-memory.ensures.memory ∙ c.requires.prepared.objects)))) in
    let frames = c.in_ok-add_frame.ensures.frames ∙ ap (λ (n : ℕ). n + 1) none in
    let allocations = c.in_ok-add_frame.ensures.allocations ∙ ap length c.new-memory.ensures.heap in
    started_is program inputs r c.args.entry (record { frame = c.in_ok-frame.frame; callers = c.new-2.result; memory = c.add_frame.new.self; calls = 0 })
    c.in_ok-frame.ensures c.new-2.ensures.items seen frames allocations refl
