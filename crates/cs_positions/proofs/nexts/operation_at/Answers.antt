use Rattle.std.proofs.Common.{◌≡◌, List, Some, sym, ap, ◌∙◌}
use Rattle.std.specs.Prelude.{slice_get}
use Rattle.cs_cfg.specs.declared.operation.Operation as o
use Rattle.cs_cfg.specs.Graph.{Operation}
use Rattle.cs_cfg.specs.GraphView as view
use Rattle.cs_positions.proofs.Blocks.{after_one, lent_is}
use Rattle.cs_positions.proofs.nexts.operation_at.Goals as goal

pub returns-in-Some : goal.returns-in-Some
returns-in-Some c =
    let block = c.args.block.now in
    let there : slice_get block.operations.items c.args.number ≡ Some c.in-Some.operation.now =
    ap (λ (l : List o.Operation). slice_get l c.args.number) (sym c.deref.ensures.value)
    ∙ lent_is c.deref.result.now c.args.number c.in-Some.operation c.in-Some.ensures.lookup in
    let end = view.block_end block.end in
    ap (λ (left : List Operation). record { operations = left; end = end })
    (after_one view.operation block.operations.items c.args.number c.in-Some.operation.now there)
