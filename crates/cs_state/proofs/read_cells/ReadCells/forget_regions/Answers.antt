use Rattle.std.proofs.Common.{◌∙◌, ap, cond}
use Rattle.std.specs.Prelude.{None}
use Rattle.std.specs.FinMap.{get}
use Rattle.cs_store.proofs.Regions.{found_in, absent_from}
use Rattle.cs_state.proofs.Reading.{read_missing, same_cells}
use Rattle.cs_state.proofs.read_cells.ReadCells.forget_regions.Goals as goal

pub returns-clause-gone : goal.returns-clause-gone
returns-clause-gone c = λ b o there.
    read_missing _ b o (c.in_ok-self-inside.ensures.others b ∙ ap (λ t. cond t None (get c.self.inside.bases (b, 0))) (found_in c.args.bases.now b there))

pub returns-clause-others : goal.returns-clause-others
returns-clause-others c = λ b o absent.
    rw (← c.self.view_is) (same_cells _ _ b o (c.in_ok-self-inside.ensures.others b
    ∙ ap (λ t. cond t None (get c.self.inside.bases (b, 0))) (absent_from c.args.bases.now b absent)))
