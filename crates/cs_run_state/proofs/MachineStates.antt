-- The state of a machine whose memory has changed: for the contracts of functions that change only memory.
use Rattle.std.proofs.Common.{◌≡◌, ℕ, ◌+◌, List, [], ◌∷◌, ◌++◌, map, reverse, length, Vec, Global, ap, ◌∙◌}
use Rattle.cs_meaning.specs.Machine.{Operand, push, with_memory}
use Rattle.cs_meaning.specs.Memory as meaning
use Rattle.cs_run_state.proofs.States.{reverse-map-push}
use Rattle.cs_run_state.specs.declared.machine.Frame.{Frame}
use Rattle.cs_run_state.specs.declared.machine.Machine.{Machine}
use Rattle.cs_memory.specs.declared.memory.Memory.{Memory}
use Rattle.cs_memory.specs.MemoryView.{memory_of, KeepsCounts}
use Rattle.cs_run_state.specs.MachineView.{frame_of, state_of}

-- with as many frames and allocations as before
pub state_with : (m : Machine) (memory : Memory) (seen : meaning.Memory) → memory_of memory ≡ seen → KeepsCounts m.memory memory
    → state_of (record m { memory = memory }) ≡ with_memory seen (state_of m)
unfolding state_of
state_with m memory seen is kept =
    let f = kept.frames in
    let a = kept.allocations in
    cc

-- with one more allocation
pub state_allocated : (m : Machine) (memory : Memory) (seen : meaning.Memory) → memory_of memory ≡ seen
    → length memory.frames.items ≡ length m.memory.frames.items → length memory.heap.items ≡ length m.memory.heap.items + 1
    → state_of (record m { memory = memory }) ≡ record (state_of m) { allocations = (state_of m).allocations + 1; memory = seen }
unfolding state_of
state_allocated m memory seen is f a = cc

-- in another frame, which gets a value
pub state_in_frame : (m : Machine) (frame : Frame) (memory : Memory) (value : Operand) (seen : meaning.Memory) → memory_of memory ≡ seen
    → KeepsCounts m.memory memory → push value (state_of (record m { frame = frame; memory = memory }))
    ≡ record (state_of m) { frame = record (frame_of frame) { stack = value ∷ (frame_of frame).stack }; memory = seen }
unfolding state_of
state_in_frame m frame memory value seen is kept =
    let f = kept.frames in
    let a = kept.allocations in
    cc

-- in a new frame, called by the current one
pub state_inside : (m : Machine) (frame : Frame) (callers : Vec Frame Global) (memory : Memory) (seen : meaning.Memory)
    → callers.items ≡ m.callers.items ++ m.frame ∷ [] → memory_of memory ≡ seen → length memory.frames.items ≡ length m.memory.frames.items + 1
    → length memory.heap.items ≡ length m.memory.heap.items
    → state_of (record m { frame = frame; callers = callers; memory = memory })
    ≡ record (state_of m) { frame = frame_of frame; callers = frame_of m.frame ∷ (state_of m).callers; memory = seen; frames = (state_of m).frames + 1 }
unfolding state_of
state_inside m frame callers memory seen called is f a =
    let back : reverse (map frame_of callers.items) ≡ frame_of m.frame ∷ reverse (map frame_of m.callers.items) =
    ap (λ (frames : List Frame). reverse (map frame_of frames)) called ∙ reverse-map-push frame_of m.callers.items m.frame in
    cc

-- after a call of a function without a body, which used up a call number
pub state_called : (m : Machine) (memory : Memory) (calls : ℕ) → KeepsCounts m.memory memory
    → state_of (record m { memory = memory; calls = calls }) ≡ record (state_of m) { memory = memory_of memory; calls = calls }
unfolding state_of
state_called m memory calls kept =
    let f = kept.frames in
    let a = kept.allocations in
    cc
