-- The answer to `flow`: the control points of a program's functions.
use Rattle.std.specs.Prelude.{◌≡◌, ℕ, List}
use Rattle.cs_ast.specs.TypedProgram.{TypedProgram}
use Rattle.cs_cfg.specs.FlowText.{program_flow}
use Rattle.cs_answers.specs.declared.status.Status.{Status}
use Rattle.cs_answers.specs.declared.status.Status.TheVariants.{Clean}

-- the text lists the control points of each function, and which ones come next on each edge from them
abbrev pub IsFlowAnswer : TypedProgram → Status → List ℕ → Type 0
IsFlowAnswer program status text = (status ≡ Clean) × (text ≡ program_flow program)
