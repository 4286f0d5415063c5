-- What is known of a function that is being lowered.
use Rattle.std.specs.Prelude.{◌≡◌, ℕ}
use Rattle.std.specs.BTreeMap.{get}
use Rattle.std.specs.Ordering.{nat_cmp}
use Rattle.cs_ast.specs.TypedProgram.{HasLayouts, routine}
use Rattle.cs_lower.specs.declared.context.Lowering.{Lowering}
use Rattle.cs_lower.specs.Labels.{point_of_label}

-- the program's structs are laid out, and each label of the function has its counted point
pub record IsReady (lowering : Lowering) : Type 0 where
  pub laid_out : HasLayouts lowering.program.now
  pub labels : (label : ℕ) → get nat_cmp lowering.labels label ≡ point_of_label (routine lowering.function.now) label
