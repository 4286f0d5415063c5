-- The state of a run that has entered a new frame: for the contract of `go_inside`.
use Rattle.std.proofs.Common.{◌≡◌, ℕ, ◌+◌, List, ◌∷◌, length, Option}
use Rattle.cs_meaning.specs.Memory as meaning
use Rattle.cs_run_state.specs.declared.machine.Frame.{Frame}
use Rattle.cs_run_state.specs.declared.machine.Machine.{Machine}
use Rattle.cs_memory.specs.declared.memory.Memory.{Memory}
use Rattle.cs_memory.specs.MemoryView.{memory_of, with_frame}
use Rattle.cs_run_state.specs.MachineView.{frame_of, state_of}
use Rattle.cs_cfg.specs.declared.code.Code.{Code}
use Rattle.cs_positions.specs.declared.positions.Position.{Position}
use Rattle.cs_replay.specs.declared.replayer.Caller.{Caller}
use Rattle.cs_replay.specs.CodeStates.{code_state}
use Rattle.cs_replay.specs.FrameChanges.{inside_with}
use Rattle.cs_positions.specs.Points.{point_of}
use Rattle.cs_replay.specs.ReplayerView.{caller_of, callers_of}

pub inside_state : (code : Code) (before new : Position) (machine : Machine) (frame : Frame) (callers following : List Caller) (memory : Memory) (locals : ℕ
    → Option meaning.Block) → callers_of code callers ≡ caller_of code (record { frame = machine.frame; position = before }) ∷ callers_of code following
    → memory_of memory ≡ with_frame (length machine.memory.frames.items) locals (memory_of machine.memory)
    → length memory.frames.items ≡ length machine.memory.frames.items + 1 → length memory.heap.items ≡ length machine.memory.heap.items
    → code_state (point_of code new) (callers_of code callers) (state_of (record machine { frame = frame; memory = memory }))
    ≡ inside_with (point_of code new frame.function) (frame_of frame) locals
    (code_state (point_of code before) (callers_of code following) (state_of machine))
unfolding state_of
inside_state code before new machine frame callers following memory locals called is f a = cc
