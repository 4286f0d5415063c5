use Rattle.std.specs.FinMap.{remove}
use Rattle.cs_state.specs.ReadCells.{cells_of}
use Rattle.cs_state.proofs.PlainCells.{left_then, offsets_less, plain_added, plain_of}
use Rattle.cs_state.proofs.Reading.{forgotten_here, forgotten_elsewhere}
use Rattle.cs_state.proofs.read_cells.ReadCells.forget.Goals as goal

pub returns-clause-here : goal.returns-clause-here
returns-clause-here c =
    rw (c.in_ok-insert.ensures.ok, c.in_ok-remove.ensures.ok, c.cells-2.view_is, c.in_ok-cells.ensures, ← c.self.view_is)
    (forgotten_here c.self.inside.bases c.args.base c.args.offset)

pub returns-clause-elsewhere : goal.returns-clause-elsewhere
returns-clause-elsewhere c =
    rw (c.in_ok-insert.ensures.ok, c.in_ok-remove.ensures.ok, c.cells-2.view_is, c.in_ok-cells.ensures, ← c.self.view_is)
    (forgotten_elsewhere c.self.inside.bases c.args.base c.args.offset)

pub invariant_of-self-2 : goal.invariant_of-self-2
invariant_of-self-2 c =
    let bases = c.self.inside.bases in
    let cells = cells_of bases c.args.base in
    rw (c.in_ok-insert.ensures.ok, c.in_ok-remove.ensures.ok, c.cells-2.view_is, c.in_ok-cells.ensures, ← c.self.view_is)
    (plain_added bases c.args.base (remove cells (c.args.offset, 0))
    (offsets_less cells (remove cells (c.args.offset, 0)) (left_then cells (c.args.offset, 0)) (plain_of bases c.args.base c.self.invariant))
    c.self.invariant)
