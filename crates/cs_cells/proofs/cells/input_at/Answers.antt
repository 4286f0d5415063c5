use Rattle.std.proofs.Common.{sym, subst}
use Rattle.cs_state.specs.declared.tables.Tables.{Tables}
use Rattle.cs_state.specs.Naming.{naming, Extends}
use Rattle.cs_progress.proofs.Extending.{extends_on}
use Rattle.cs_cells.proofs.cells.input_at.Goals as goal
use Rattle.cs_cells.proofs.cells.input_at.Goals.{then-is_none+in_ok-block-in-Pointer+in_ok-set_block-in-Pointer, else-is_none}

pub returns-after-is_none-clause-extends : goal.returns-after-is_none-clause-extends
returns-after-is_none-clause-extends c =
    let given = naming c.args.tables.now in
    let before : Extends given (naming c.base.new.self) = extends_on _ _ _ c.sym-in-Pointer.ensures.extends c.base.ensures.extends in
    elim c.if-is_none.branch [
      | then-is_none+in_ok-block-in-Pointer+in_ok-set_block-in-Pointer w ↦
          subst (λ (tables : Tables). Extends given (naming tables)) (sym w.tables-is) (extends_on _ _ _ before w.start_block.ensures)
      | else-is_none w ↦ subst (λ (tables : Tables). Extends given (naming tables)) (sym w.tables-is) before
    ]
