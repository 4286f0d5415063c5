use Rattle.std.proofs.Common.{sym, ◌∙◌, ap}
use Rattle.cs_state.proofs.Reading.{read_missing}
use Rattle.cs_state.proofs.read_cells.ReadCells.at.Goals as goal

pub returns-in-None : goal.returns-in-None
returns-in-None c = rw (← c.self.view_is) (sym (read_missing c.self.inside.bases c.args.base c.args.offset (sym c.in-None.ensures)))
