use Rattle.std.proofs.Common.{rules, ◌≡◌, ◌++◌, ◌∷◌, [], get_or, append_assoc, ap, ◌∙◌}
use Rattle.std.specs.Fmt.{decimal}
use Rattle.cs_inputs.proofs.CellsText.{cells_text_more}
use Rattle.cs_inputs.proofs.text.print_cells.Goals as goal

pub loop-cell-preserved : goal.loop-cell-preserved
loop-cell-preserved c =
    let pushed : c.extend_from_slice.new.self.items ≡ (c.loop-cell.text.items ++ 64 ∷ []) ++ decimal (get_or c.args.cells.now c.loop-cell.cell-index 0) =
    search rules in
    cells_text_more c.args.text.now.items _ c.args.cells.now c.loop-cell.cell-index c.loop-cell-test.true
    (pushed ∙ append_assoc c.loop-cell.text.items (64 ∷ []) _
    ∙ ap (λ before. before ++ (64 ∷ decimal (get_or c.args.cells.now c.loop-cell.cell-index 0))) c.loop-cell.invariant)
