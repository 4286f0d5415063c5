use Rattle.std.proofs.Common.{◌≡◌, [], ◌∷◌}
use Rattle.std.proofs.lemmas.Bool.Decides.{Decides-eqb}
use Rattle.std.proofs.lemmas.Slice.Eq.{strip_prefix_is}
use Rattle.cs_inputs.proofs.CellCuts.{no_cell}
use Rattle.cs_inputs.proofs.input_text.first_cell.Goals as goal

pub returns-in_err-number_with_text : goal.returns-in_err-number_with_text
returns-in_err-number_with_text c =
    let is : c.args.text.now ≡ 64 ∷ c.in_ok-cell.cell.now =
    rw c.in_ok-cell.was at (strip_prefix_is Decides-eqb c.args.text.now (64 ∷ []) c.strip_prefix.result c.strip_prefix.ensures.cases) in
    rw c.from_residual-in_err-number_with_text.ensures (no_cell c.args.text.now c.in_ok-cell.cell.now c.split_before.result.0.now c.split_before.result.1.now is
    c.split_before.ensures c.in_err-number_with_text.ensures)
