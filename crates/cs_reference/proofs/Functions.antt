-- The body of the current function, which may be missing: for the contract of `go_to`.
use Rattle.std.proofs.Common.{◌≡◌, ℕ, Option, Some, None, ap, ◌∙◌}
use Rattle.std.specs.Prelude.{slice_get, option_map, unwrap_or}
use Rattle.cs_ast.specs.declared.typed.program.Function.{Function}
use Rattle.cs_ast.specs.declared.typed.program.Program.{Program}
use Rattle.cs_ast.specs.declared.typed.statement.Stmt.{Stmt}
use Rattle.cs_ast.specs.TypedTree.{Block, Empty}
use Rattle.cs_ast.specs.TypedView.{statement}
use Rattle.cs_ast.specs.TypedProgram.{typed_program}
use Rattle.cs_meaning.specs.Machine.{NOWHERE, routine_of, body_of}
use Rattle.cs_frames.proofs.Calling.{routine_is, routine_none}

-- a function without a body
pub bodiless : (program : Program) (number : ℕ) (f : Function) → slice_get program.functions.items number ≡ Some f → f.body ≡ None
    → body_of (routine_of (typed_program program) number) ≡ Block f.place Empty
bodiless program number f is none =
    ap body_of (routine_is program number f is) ∙ ap (λ (body : Option Stmt). unwrap_or (option_map statement body) (Block f.place Empty)) none

-- a function that doesn't exist
pub missing : (program : Program) (number : ℕ) → slice_get program.functions.items number ≡ None
    → body_of (routine_of (typed_program program) number) ≡ Block NOWHERE Empty
missing program number is = ap body_of (routine_none program number is)
