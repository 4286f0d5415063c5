use Rattle.cs_inputs.specs.InputText.{IsTextOf}
use Rattle.cs_inputs.specs.Reading.{IsRootOf, AreCellsOf}
use Rattle.cs_inputs.proofs.PathTexts.{no_root, no_cells, not_taken, passed_on}
use Rattle.cs_inputs.proofs.input_text.path_of.Goals as goal

pub returns-in_err-root : goal.returns-in_err-root
returns-in_err-root c =
    passed_on (IsRootOf c.split_before.result.0.now) (IsTextOf c.args.text.now)
    (no_root c.args.text.now c.split_before.result.0.now c.split_before.result.1.now c.split_before.ensures) c.in_err-root.field-0.0 c.from_residual.result
    c.in_err-root.ensures c.from_residual.ensures.1

pub returns-in_err-cells : goal.returns-in_err-cells
returns-in_err-cells c =
    passed_on (AreCellsOf c.split_before.result.1.now) (IsTextOf c.args.text.now)
    (no_cells c.args.text.now c.split_before.result.0.now c.split_before.result.1.now c.split_before.ensures) c.in_err-cells.field-0.0
    c.from_residual-in_err-cells.result c.in_err-cells.ensures c.from_residual-in_err-cells.ensures.1

pub returns-then-not-takes_cells : goal.returns-then-not-takes_cells
returns-then-not-takes_cells c =
    not_taken c.args.text.now c.split_before.result.0.now c.split_before.result.1.now c.split_before.ensures c.in_ok-root.root c.in_ok-cells.cells
    c.in_ok-root.ensures c.in_ok-cells.ensures (λ takes. absurd (let h = c.if-not-takes_cells.ensures.1 takes in cc))
