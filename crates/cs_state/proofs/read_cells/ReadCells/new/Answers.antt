use Rattle.std.proofs.Common.{sym, subst}
use Rattle.cs_state.specs.ReadCells.{HasPlainCells}
use Rattle.cs_state.proofs.PlainCells.{plain_none}
use Rattle.cs_state.proofs.Reading.{read_nothing}
use Rattle.cs_state.proofs.read_cells.ReadCells.new.Goals as goal

pub returns : goal.returns
returns c = rw (c.new.ensures) read_nothing

pub invariant_of-result : goal.invariant_of-result
invariant_of-result c = subst HasPlainCells (sym c.new.ensures) plain_none
