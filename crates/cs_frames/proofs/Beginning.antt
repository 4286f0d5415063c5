-- How a run begins: for the contracts of `start_function` and `start_nowhere`.
use Rattle.std.proofs.Common.{◌≡◌, ℕ, ℤ, List, [], map, reverse, length, ap}
use Rattle.cs_ast.specs.TypedProgram.{TypedProgram, Routine}
use Rattle.cs_inputs.specs.declared.path.Path.{Path}
use Rattle.cs_meaning.specs.Calls.{new_frame, with_locals}
use Rattle.cs_meaning.specs.Machine.{Scalar}
use Rattle.cs_meaning.specs.Memory as meaning
use Rattle.cs_meaning.specs.Steps.{started, received, with_received, parameters_of, static_memory}
use Rattle.cs_run_state.specs.declared.machine.Frame.{Frame}
use Rattle.cs_run_state.specs.declared.machine.Machine.{Machine}
use Rattle.cs_memory.specs.MemoryView.{memory_of}
use Rattle.cs_run_state.specs.MachineView.{frame_of, state_of}

module _ (program : TypedProgram) (inputs : Path → ℤ) (r : Routine) where
  -- memory at the beginning
  abbrev pub first_memory : meaning.Memory
  first_memory = with_locals program 0 r.variables (map (λ v. Scalar (received program inputs v)) (parameters_of r))
      (with_received program inputs (parameters_of r) (static_memory program))

  -- a machine in a first frame without a caller, with the memory of the beginning
  pub started_is : (entry : ℕ) (m : Machine) → frame_of m.frame ≡ new_frame entry 0 r → m.callers.items ≡ [] → memory_of m.memory ≡ first_memory
      → length m.memory.frames.items ≡ 1 → length m.memory.heap.items ≡ 0 → m.calls ≡ 0 → state_of m ≡ started program inputs entry r
  unfolding state_of
  started_is entry m frame callers memory frames allocations calls =
      let none = ap (λ (l : List Frame). reverse (map frame_of l)) callers in
      cc
