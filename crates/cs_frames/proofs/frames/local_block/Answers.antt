use Rattle.std.proofs.Common.{◌≡◌, ℕ, sym, ap, ◌∙◌}
use Rattle.cs_types.specs.Shape.{shape_of}
use Rattle.cs_ast.specs.TypedProgram.{typed_program, variable}
use Rattle.cs_events.specs.Objects.{Cell}
use Rattle.cs_meaning.specs.Machine as machine
use Rattle.cs_meaning.specs.Memory.{Block, UnsetFill, new_block, write_cell}
use Rattle.cs_meaning.specs.Types as types
use Rattle.cs_values.specs.View.{cell_of}
use Rattle.cs_objects.specs.BlockView.{block_of}
use Rattle.cs_frames.proofs.NewLocals.{local_without}
use Rattle.cs_frames.proofs.frames.local_block.Goals as goal
use Rattle.cs_frames.proofs.frames.local_block.Goals.{in-Some+in_ok-copy+in_ok-change, in_default}

pub returns : goal.returns
returns c =
    let program = typed_program c.args.program.now in
    let ty = shape_of c.args.local.now.ty in
    let unset = new_block ty (types.size_of program ty) UnsetFill in
    let new : block_of c.new-block.result ≡ unset = c.new-block.ensures ∙ ap (λ (bytes : ℕ). new_block ty bytes UnsetFill) c.in_ok-size.ensures in
    elim c.match-argument.branch [
      | in-Some+in_ok-copy+in_ok-change w ↦
          (let cell = w.into_cell-cell.ensures ∙ ap (λ (o : machine.Operand). machine.cell_of o) w.in_ok-copy.ensures in
          rw (w.block-is, w.in-Some.is) (w.in_ok-change.ensures
          ∙ (ap (λ (b : Block). write_cell 0 (cell_of w.into_cell-cell.result) b) new ∙ ap (λ (held : Cell). write_cell 0 held unset) cell)))
      | in_default w ↦ rw (w.block-is, w.in_default.is) (new ∙ sym (local_without program (variable c.args.local.now)))
    ]
