-- Calls, by what is known about the function: for the contracts of `call` and `enter`.
use Rattle.std.proofs.Common.{◌≡◌, ℕ, ◌+◌, ◌∷◌, List, Option, Some, None, unwrap_or, refl, sym, ap, ◌∙◌}
use Rattle.std.specs.Prelude.{option_map, slice_get}
use Rattle.cs_ast.specs.declared.place.Place.{Place}
use Rattle.cs_ast.specs.TypedTree.{Statement}
use Rattle.cs_ast.specs.TypedProgram.{TypedProgram, Routine}
use Rattle.cs_events.specs.declared.outcome.RunBudgets.{RunBudgets}
use Rattle.cs_meaning.specs.Memory.{Block, Memory}
use Rattle.cs_meaning.specs.Machine.{Operand, Frame, newest, pop_many}
use Rattle.cs_meaning.specs.Calls.{local_block, inside, enter_as}
use Rattle.cs_cfg.specs.Graph.{Flow, Code, no_flow, flow_of, block_of, block_in}
use Rattle.cs_cfg.specs.Lowered.{is_there}
use Rattle.cs_cfg.specs.Working.{CodeState, code_frame, call_flow}
use Rattle.cs_replay.specs.CodeStates.{at_point, begun}
use Rattle.cs_replay.specs.FrameChanges.{inside_with}
use Rattle.cs_frames.proofs.NewLocals.{locals_are}

-- the run in a new frame
pub entered_is : (code : Code) (program : TypedProgram) (function : ℕ) (flow : Flow) (routine : Routine) (arguments : List Operand) (frame : Frame)
    (locals : ℕ → Option Block) (m : CodeState) → frame ≡ begun function m.frames flow.counted_points → flow_of code function ≡ Some flow
    → ((n : ℕ) → locals n ≡ option_map (local_block program (slice_get arguments n)) (slice_get routine.variables n))
    → inside_with (block_in code frame.function flow.entry) frame locals m ≡ inside program (code_frame function flow m.frames) routine arguments m
entered_is code program function flow routine arguments frame locals m is there are =
    let new = begun function m.frames flow.counted_points in
    ap (λ (f : Frame). inside_with (block_in code f.function flow.entry) f locals m) is
    ∙ (ap (λ (found : Option Flow). inside_with (block_of (unwrap_or found no_flow) flow.entry) new locals m) there
    ∙ ap (λ (memory : Memory).
    record m {
      frame = at_point (block_of flow flow.entry) new;
      callers = m.frame ∷ m.callers;
      memory = memory;
      frames = m.frames + 1;
    }) (locals_are program m.frames routine.variables arguments locals m.memory are))

module _ (program : TypedProgram) (budgets : RunBudgets) (at : Place) (function count : ℕ) (routine : Routine) (found : Option Flow) (m left : CodeState)
    (arguments : List Operand) where
  -- a call of a function with a graph
  pub enters_is : (flow : Flow) → found ≡ Some flow → arguments ≡ newest count m → left ≡ pop_many count m
      → call_flow program budgets at function routine found (newest count m) (pop_many count m)
      ≡ enter_as program budgets (code_frame function flow) at function routine arguments left
  enters_is flow there were is =
      ap (λ (f : Option Flow). call_flow program budgets at function routine f (newest count m) (pop_many count m)) there
      ∙ (ap (λ (l : List Operand). enter_as program budgets (code_frame function flow) at function routine l (pop_many count m)) (sym were)
      ∙ ap (λ (n : CodeState). enter_as program budgets (code_frame function flow) at function routine arguments n) (sym is))

-- a function without a graph has no body, if each function with a body has one
pub no_body : (flow : Option Flow) (body : Option Statement) → is_there flow ≡ is_there body → flow ≡ None → body ≡ None
no_body None None same none = refl
no_body None (Some body) same none = cc
no_body (Some flow) body same none = cc
