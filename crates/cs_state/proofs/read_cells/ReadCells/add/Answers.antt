use Rattle.std.specs.FinMap.{insert}
use Rattle.cs_state.specs.ReadCells.{cells_of}
use Rattle.cs_state.proofs.PlainCells.{offsets_added, plain_added, plain_of}
use Rattle.cs_state.proofs.Reading.{added_here, added_elsewhere}
use Rattle.cs_state.proofs.read_cells.ReadCells.add.Goals as goal

pub returns-clause-here : goal.returns-clause-here
returns-clause-here c =
    rw (c.in_ok-insert-2.ensures.ok, c.in_ok-insert.ensures.ok, c.cells-2.view_is, c.in_ok-cells.ensures, ← c.self.view_is)
    (added_here c.self.inside.bases c.args.base c.args.offset c.args.sym)

pub returns-clause-elsewhere : goal.returns-clause-elsewhere
returns-clause-elsewhere c =
    rw (c.in_ok-insert-2.ensures.ok, c.in_ok-insert.ensures.ok, c.cells-2.view_is, c.in_ok-cells.ensures, ← c.self.view_is)
    (added_elsewhere c.self.inside.bases c.args.base c.args.offset c.args.sym)

pub invariant_of-self-2 : goal.invariant_of-self-2
invariant_of-self-2 c =
    let bases = c.self.inside.bases in
    let cells = cells_of bases c.args.base in
    rw (c.in_ok-insert-2.ensures.ok, c.in_ok-insert.ensures.ok, c.cells-2.view_is, c.in_ok-cells.ensures, ← c.self.view_is)
    (plain_added bases c.args.base (insert cells (c.args.offset, 0) c.args.sym)
    (offsets_added cells c.args.offset c.args.sym (plain_of bases c.args.base c.self.invariant)) c.self.invariant)
