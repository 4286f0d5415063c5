use Rattle.std.specs.FinMap.{remove}
use Rattle.cs_state.proofs.PlainCells.{left_then, plain_less}
use Rattle.cs_state.proofs.Reading.{all_gone_here, all_gone_elsewhere}
use Rattle.cs_state.proofs.read_cells.ReadCells.forget_all.Goals as goal

pub returns-clause-here : goal.returns-clause-here
returns-clause-here c = rw (c.in_ok-remove.ensures.ok) (all_gone_here c.self.inside.bases c.args.base)

pub returns-clause-elsewhere : goal.returns-clause-elsewhere
returns-clause-elsewhere c = rw (c.in_ok-remove.ensures.ok, ← c.self.view_is) (all_gone_elsewhere c.self.inside.bases c.args.base)

pub invariant_of-self-2 : goal.invariant_of-self-2
invariant_of-self-2 c =
    let bases = c.self.inside.bases in
    rw (c.in_ok-remove.ensures.ok) (plain_less bases (remove bases (c.args.base, 0)) (left_then bases (c.args.base, 0)) c.self.invariant)
